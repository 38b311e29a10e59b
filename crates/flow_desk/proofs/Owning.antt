-- What is a feeder's own, as a history grows.
use Rattle.std.proofs.Common.{◌≡◌, ◌≢◌, ℕ, ◌+◌, ◌≤◌, ◌==◌, ◌<◌, true, false, List, [], ◌∷◌, ◌++◌, length, slice_index, slice_set, refl, ap, sym, ◌∙◌, subst, arith, length-append, length-set}
use Rattle.std.proofs.lemmas.List.{append-nil, get_or-set_same, get_or-set_other}
use Rattle.std.proofs.lemmas.List.Elements.{filter-append, All-append}
use Rattle.std.proofs.lemmas.List.Sums.{length-filter, count_by-le-length}
use Rattle.std.proofs.lemmas.Bool.Decides.{nat_tests}
use Rattle.std.proofs.lemmas.Grind.{common_steps}
use native.Mathlib.Decide.{ℕ_discrete}
use mathlib.Core.List.{IsPrefix}
use Rattle.flow_core.specs.State.{EntryView}
use Rattle.flow_desk.specs.Histories.{own}
use Rattle.flow_desk.specs.Locks.{Counts}

pub own-append : (k : ℕ) (xs ys : List EntryView) → own k (xs ++ ys) ≡ own k xs ++ own k ys
own-append k xs ys = filter-append (λ (e : EntryView). e.input.feeder == k) xs ys

pub own_short : (k : ℕ) (xs : List EntryView) → length (own k xs) ≤ length xs
own_short k xs = omega (arith, length-filter (λ (e : EntryView). e.input.feeder == k) xs, count_by-le-length (λ (e : EntryView). e.input.feeder == k) xs)

own-one : (k : ℕ) (e : EntryView) → e.input.feeder ≡ k → own k (e ∷ []) ≡ e ∷ []
own-one k e is = let t : (e.input.feeder == k) ≡ true = grind (arith, nat_tests) in rw t refl

own-other : (k : ℕ) (e : EntryView) → e.input.feeder ≢ k → own k (e ∷ []) ≡ []
own-other k e not_is = let t : (e.input.feeder == k) ≡ false = grind (arith, nat_tests) in rw t refl

-- one more of the feeder's
pub own-snoc : (k : ℕ) (xs : List EntryView) (e : EntryView) → e.input.feeder ≡ k → own k (xs ++ e ∷ []) ≡ own k xs ++ e ∷ []
own-snoc k xs e is = own-append k xs (e ∷ []) ∙ ap (λ ys. own k xs ++ ys) (own-one k e is)

-- one more of another's
pub own-snoc-other : (k : ℕ) (xs : List EntryView) (e : EntryView) → e.input.feeder ≢ k → own k (xs ++ e ∷ []) ≡ own k xs
own-snoc-other k xs e not_is = own-append k xs (e ∷ []) ∙ (ap (λ ys. own k xs ++ ys) (own-other k e not_is) ∙ append-nil (own k xs))

pub own-snoc-length : (k : ℕ) (xs : List EntryView) (e : EntryView) → e.input.feeder ≡ k → length (own k (xs ++ e ∷ [])) ≡ length (own k xs) + 1
own-snoc-length k xs e is = omega (arith, ap length (own-snoc k xs e is), length-append (own k xs) (e ∷ []))

each-counted : (n : ℕ) (xs : List EntryView) (cs : List ℕ) (e : EntryView) (v : ℕ) → Counts n xs cs → e.input.feeder < n → v ≡ slice_index cs e.input.feeder + 1 → (j : ℕ) → j < n → Dec (e.input.feeder ≡ j) → slice_index (slice_set cs e.input.feeder v) j ≡ length (own j (xs ++ e ∷ []))
each-counted n xs cs e v c in_n is j in_j (yes same) =
    let got : slice_index cs e.input.feeder ≡ length (own e.input.feeder xs) = c.each e.input.feeder in_n in
    let len : length (own e.input.feeder (xs ++ e ∷ [])) ≡ length (own e.input.feeder xs) + 1 = own-snoc-length e.input.feeder xs e refl in
    let here : slice_index (slice_set cs e.input.feeder v) e.input.feeder ≡ v = get_or-set_same cs e.input.feeder v 0 (subst (λ (m : ℕ). e.input.feeder < m) (sym c.wide) in_n) in
    subst (λ (i : ℕ). slice_index (slice_set cs e.input.feeder v) i ≡ length (own i (xs ++ e ∷ []))) same (omega arith)
each-counted n xs cs e v c in_n is j in_j (no other) =
    let there : slice_index (slice_set cs e.input.feeder v) j ≡ slice_index cs j = get_or-set_other cs e.input.feeder j v 0 (λ (h : j ≡ e.input.feeder). other (sym h)) in
    there ∙ (c.each j in_j ∙ ap length (sym (own-snoc-other j xs e other)))

-- one more entry, counted
pub counted-snoc : (n : ℕ) (xs : List EntryView) (cs : List ℕ) (e : EntryView) (v : ℕ) → Counts n xs cs → e.input.feeder < n → v ≡ slice_index cs e.input.feeder + 1 → Counts n (xs ++ e ∷ []) (slice_set cs e.input.feeder v)
counted-snoc n xs cs e v c in_n is = record {
  wide = length-set cs e.input.feeder v ∙ c.wide;
  each = λ j in_j. each-counted n xs cs e v c in_n is j in_j (ℕ_discrete e.input.feeder j);
  below = All-append (λ (x : EntryView). x.input.feeder < n) xs (e ∷ []) c.below (λ k d in_k. grind (arith, common_steps));
}

-- the count of a feeder is no more than the number of entries
pub count_small : (n : ℕ) (xs : List EntryView) (cs : List ℕ) (k : ℕ) → Counts n xs cs → k < n → slice_index cs k ≤ length xs
count_small n xs cs k c in_n = omega (arith, c.each k in_n, own_short k xs)

empty : {A : Type 0} (xs : List A) → length xs ≡ 0 → xs ≡ []
empty [] e = refl
empty (x ∷ xs) e = absurd (omega arith)
