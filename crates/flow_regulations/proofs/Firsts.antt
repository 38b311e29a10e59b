-- First planned, first served, when a flight's provisional slot is frozen: nobody moves.
use Rattle.std.proofs.Common.{◌≡◌, ℕ, zero, suc, ◌+◌, ◌<◌, ◌≤◌, ◌⊎◌, inl, inr, ◌||◌, Bool, true, false, cond, eqb, ltb, List, [], ◌∷◌, Some, refl, sym, ap, subst, ◌∙◌, arith}
use Rattle.std.specs.List.{filter}
use Rattle.std.proofs.lemmas.Bool.{ne_eqb, eqb-false, cases_eq, true_from_ne_false, or_right, or_parts, false≢true}
use Rattle.std.proofs.lemmas.Bool.Decides.{nat_tests}
use Rattle.flow_slots.specs.declared.cell.Planned.{Planned}
use Rattle.flow_slots.specs.Order.{without}
use Rattle.flow_slots.specs.Assignment.{Placed, is_in, above, first_free_within, first_free, greedy, slots}
use Rattle.flow_slots.specs.Lineup.{NoneIs, NoneFixed, WaitingApart, slot_in, without_fixed, insert_fixed}
use Rattle.flow_slots.proofs.Fresh.{is_in-above, first_free-is}
use Rattle.flow_slots.proofs.Leaving.{without-here, without-other}
use Rattle.flow_regulations.specs.Settling.{insert_all}
use Rattle.flow_regulations.proofs.Waiting.{without-none}
use Rattle.flow_regulations.proofs.FixedOnes.{without_fixed-here, without_fixed-other, without_fixed-none}
use Rattle.flow_regulations.proofs.Served.{first_free_within-from, slot_in-here, slot_in-other}

is_in-cases : (k : ℕ) (xs : List ℕ) (b : Bool) → is_in k xs ≡ b → (above xs ≤ k → b ≡ false)
is_in-cases k xs true e h = absurd (omega (arith, is_in-above k xs e))
is_in-cases k xs false e h = refl

first_free_within-free : (n k : ℕ) (taken : List ℕ) → above taken ≤ k + n → is_in (first_free_within n taken k) taken ≡ false
first_free_within-free zero k taken h = (let e : is_in k taken ≡ false = is_in-cases k taken (is_in k taken) refl (omega arith) in e)
first_free_within-free (suc n) k taken h = cases (first_free_within-free n (k + 1) taken (omega arith)) (is_in k taken) refl where
  cases : is_in (first_free_within n taken (k + 1)) taken ≡ false → (b : Bool) → is_in k taken ≡ b → is_in (cond b (first_free_within n taken (k + 1)) k) taken ≡ false
  cases again true e = again
  cases again false e = e

first_free_within-least : (n k j : ℕ) (taken : List ℕ) → k ≤ j → is_in j taken ≡ false → first_free_within n taken k ≤ j
first_free_within-least zero k j taken h f = h
first_free_within-least (suc n) k j taken h f = cases (λ q. first_free_within-least n (k + 1) j taken q f) (is_in k taken) refl where
  cases : (k + 1 ≤ j → first_free_within n taken (k + 1) ≤ j) → (b : Bool) → is_in k taken ≡ b → cond b (first_free_within n taken (k + 1)) k ≤ j
  cases again false e = h
  cases again true e = again (other (cases_eq k j)) where
    other : (k ≡ j) ⊎ (k ≡ j → ⊥) → k + 1 ≤ j
    other (inl s) = absurd (false≢true (sym f ∙ (ap (λ i. is_in i taken) (sym s) ∙ e)))
    other (inr s) = omega (arith, h, s)

free : (taken : List ℕ) (k : ℕ) → is_in (first_free taken k) taken ≡ false
free taken k = first_free_within-free (above taken) k taken (omega arith)

before-taken : (taken : List ℕ) (k j : ℕ) → k ≤ j → j < first_free taken k → is_in j taken ≡ true
before-taken taken k j a b = true_from_ne_false (is_in j taken) (λ f. (let l = first_free_within-least (above taken) k j taken a f in absurd (omega (arith, l, b))))

-- of the taken slots, only which they are matters
first_free-like : (s t : List ℕ) (k : ℕ) → ((j : ℕ) → is_in j s ≡ is_in j t) → first_free s k ≡ first_free t k
first_free-like s t k h = first_free-is s k (first_free t k) (first_free_within-from (above t) k t) (λ j a b. h j ∙ before-taken t k j a b) (h (first_free t k) ∙ free t k)

pub greedy-like : (first : ℕ → ℕ) (s t : List ℕ) (ws : List Planned) → ((j : ℕ) → is_in j s ≡ is_in j t) → greedy first s ws ≡ greedy first t ws
greedy-like first s t [] h = refl
greedy-like first s t (w ∷ ws) h =
    let j = first_free t (first w.entry) in
    let same = first_free-like s t (first w.entry) h in
    ap (λ k. let a : Placed = record { flight = w.flight; slot = k } in a ∷ greedy first (k ∷ s) ws) same
    ∙ ap (λ xs. let a : Placed = record { flight = w.flight; slot = j } in a ∷ xs) (greedy-like first (j ∷ s) (j ∷ t) ws (λ i. ap (λ b. eqb j i || b) (h i)))

first_free-more : (s t : List ℕ) (k n : ℕ) → (n ≡ first_free t k → ⊥) → ((j : ℕ) → is_in j s ≡ is_in j (n ∷ t)) → first_free s k ≡ first_free t k
first_free-more s t k n ne h =
    first_free-is s k (first_free t k) (first_free_within-from (above t) k t) (λ j a b. h j ∙ or_right (eqb n j) (is_in j t) (before-taken t k j a b))
    (h (first_free t k) ∙ (ap (λ b. b || is_in (first_free t k) t) (ne_eqb n (first_free t k) ne) ∙ free t k))

-- no flight gets a taken slot
pub slot-free : (first : ℕ → ℕ) (taken : List ℕ) (f k : ℕ) (ws : List Planned) → slot_in f (greedy first taken ws) ≡ Some k → is_in k taken ≡ false
slot-free first taken f k [] e = absurd cc
slot-free first taken f k (w ∷ ws) e =
    let j = first_free taken (first w.entry) in
    cases (λ h. (or_parts (eqb j k) (is_in k taken) (slot-free first (j ∷ taken) f k ws h)).1) (cases_eq w.flight f) where
      cases : (slot_in f (greedy first (first_free taken (first w.entry) ∷ taken) ws) ≡ Some k → is_in k taken ≡ false) → (w.flight ≡ f) ⊎ (w.flight ≡ f → ⊥) → is_in k taken ≡ false
      cases again (inl q) =
          let j = first_free taken (first w.entry) in
          let a : Placed = record { flight = w.flight; slot = j } in
          let found : Some j ≡ Some k = sym (slot_in-here f a (greedy first (j ∷ taken) ws) q) ∙ e in
          let same : j ≡ k = cc in
          ap (λ i. is_in i taken) (sym same) ∙ free taken (first w.entry)
      cases again (inr q) =
          let j = first_free taken (first w.entry) in
          let a : Placed = record { flight = w.flight; slot = j } in
          again (sym (slot_in-other f a (greedy first (j ∷ taken) ws) q) ∙ e)

none-placed : (first : ℕ → ℕ) (taken : List ℕ) (f : ℕ) (ws : List Planned) → NoneIs f ws → NoneFixed f (greedy first taken ws)
none-placed first taken f [] h = tt
none-placed first taken f (w ∷ ws) h = (h.0, none-placed first (first_free taken (first w.entry) ∷ taken) f ws h.1)

swap : (a b c : Bool) → (a || (b || c)) ≡ (b || (a || c))
swap true true c = refl
swap true false c = refl
swap false true c = refl
swap false false c = refl

-- the others keep their slots
pub greedy-fixed : (first : ℕ → ℕ) (fixed : List Placed) (s t : List ℕ) (n k : ℕ) (ws : List Planned) → WaitingApart fixed ws → slot_in n (greedy first t ws) ≡ Some k → ((j : ℕ) → is_in j s ≡ is_in j (k ∷ t)) → greedy first s (without n ws) ≡ without_fixed n (greedy first t ws)
greedy-fixed first fixed s t n k [] apart e h = absurd cc
greedy-fixed first fixed s t n k (w ∷ ws) apart e h =
    cases (λ u q i. greedy-fixed first fixed u (first_free t (first w.entry) ∷ t) n k ws apart.2 q i) (cases_eq w.flight n) where
      cases : ((u : List ℕ) → slot_in n (greedy first (first_free t (first w.entry) ∷ t) ws) ≡ Some k → ((j : ℕ) → is_in j u ≡ is_in j (k ∷ first_free t (first w.entry) ∷ t)) → greedy first u (without n ws) ≡ without_fixed n (greedy first (first_free t (first w.entry) ∷ t) ws)) → (w.flight ≡ n) ⊎ (w.flight ≡ n → ⊥) → greedy first s (without n (w ∷ ws)) ≡ without_fixed n (greedy first t (w ∷ ws))
      cases again (inl q) =
          let j = first_free t (first w.entry) in
          let a : Placed = record { flight = w.flight; slot = j } in
          let rest = greedy first (j ∷ t) ws in
          let found : Some j ≡ Some k = sym (slot_in-here n a rest q) ∙ e in
          let same : j ≡ k = cc in
          let none : NoneIs n ws = (let N : ℕ → Type 0 = λ m. NoneIs m ws in subst N q apart.1) in
          ap (greedy first s) (without-here n w ws q ∙ without-none n ws none)
          ∙ (greedy-like first s (j ∷ t) ws (λ i. h i ∙ ap (λ m. eqb m i || is_in i t) (sym same))
          ∙ sym (without_fixed-here n a rest q ∙ without_fixed-none n rest (none-placed first (j ∷ t) n ws none)))
      cases again (inr q) =
          let j = first_free t (first w.entry) in
          let a : Placed = record { flight = w.flight; slot = j } in
          let rest = greedy first (j ∷ t) ws in
          let later : slot_in n rest ≡ Some k = sym (slot_in-other n a rest q) ∙ e in
          let apart_slots : k ≡ j → ⊥ = λ i. eqb-false j k (or_parts (eqb j k) (is_in k t) (slot-free first (j ∷ t) n k ws later)).0 (sym i) in
          let same : first_free s (first w.entry) ≡ j = first_free-more s t (first w.entry) k apart_slots h in
          ap (greedy first s) (without-other n w ws q)
          ∙ (ap (λ m. let b : Placed = record { flight = w.flight; slot = m } in b ∷ greedy first (m ∷ s) (without n ws)) same
          ∙ (ap (λ xs. a ∷ xs) (again (j ∷ s) later (λ i. ap (λ b. eqb j i || b) (h i) ∙ swap (eqb j i) (eqb k i) (is_in i t)))
          ∙ sym (without_fixed-other n a rest q)))

-- two frozen flights may be inserted in either order
insert_fixed-twice : (a b : Placed) (xs : List Placed) → (a.slot ≡ b.slot → ⊥) → insert_fixed a (insert_fixed b xs) ≡ insert_fixed b (insert_fixed a xs)
insert_fixed-twice a b [] ne = cases (ltb b.slot a.slot) (ltb a.slot b.slot) refl refl where
  cases : (p q : Bool) → ltb b.slot a.slot ≡ p → ltb a.slot b.slot ≡ q → cond p (b ∷ a ∷ []) (a ∷ b ∷ []) ≡ cond q (a ∷ b ∷ []) (b ∷ a ∷ [])
  cases true false e f = refl
  cases false true e f = refl
  cases true true e f = absurd (grind (arith, nat_tests, e, f))
  cases false false e f = absurd (grind (arith, nat_tests, e, f, ne))
insert_fixed-twice a b (x ∷ xs) ne = cases (insert_fixed-twice a b xs ne) (ltb x.slot a.slot) (ltb x.slot b.slot) refl refl where
  cases : insert_fixed a (insert_fixed b xs) ≡ insert_fixed b (insert_fixed a xs) → (p q : Bool) → ltb x.slot a.slot ≡ p → ltb x.slot b.slot ≡ q → insert_fixed a (cond q (x ∷ insert_fixed b xs) (b ∷ x ∷ xs)) ≡ insert_fixed b (cond p (x ∷ insert_fixed a xs) (a ∷ x ∷ xs))
  cases again true true e f = rw (e, f) (ap (λ u. x ∷ u) again)
  cases again true false e f = (let g : ltb b.slot a.slot ≡ true = grind (arith, nat_tests, e, f) in rw (g, e, f) refl)
  cases again false true e f = (let g : ltb a.slot b.slot ≡ true = grind (arith, nat_tests, e, f) in rw (g, e, f) refl)
  cases again false false e f = rw (e, f) (first (ltb b.slot a.slot) (ltb a.slot b.slot) refl refl) where
    first : (p q : Bool) → ltb b.slot a.slot ≡ p → ltb a.slot b.slot ≡ q → cond p (b ∷ a ∷ x ∷ xs) (a ∷ b ∷ x ∷ xs) ≡ cond q (a ∷ b ∷ x ∷ xs) (b ∷ a ∷ x ∷ xs)
    first true false e f = refl
    first false true e f = refl
    first true true e f = absurd (grind (arith, nat_tests, e, f))
    first false false e f = absurd (grind (arith, nat_tests, e, f, ne))

after-first : (c : Bool) (a b : Placed) (xs ys fs : List Placed) → (a.slot ≡ b.slot → ⊥) → ((gs : List Placed) → insert_all xs (insert_fixed b gs) ≡ insert_all ys gs) → insert_all (cond c (a ∷ xs) xs) (insert_fixed b fs) ≡ insert_all (cond c (a ∷ ys) ys) fs
after-first true a b xs ys fs ne again = ap (insert_all xs) (insert_fixed-twice a b fs ne) ∙ again (insert_fixed a fs)
after-first false a b xs ys fs ne again = again fs

-- one of the flights that are fixed may be fixed first
pub insert_all-first : (P : ℕ → Bool) (first : ℕ → ℕ) (fixed : List Placed) (t : List ℕ) (n k : ℕ) (ws : List Planned) (fs : List Placed) → P n ≡ true → WaitingApart fixed ws → slot_in n (greedy first t ws) ≡ Some k
    → insert_all (filter (λ a. P a.flight) (without_fixed n (greedy first t ws))) (insert_fixed (record { flight = n; slot = k }) fs) ≡ insert_all (filter (λ a. P a.flight) (greedy first t ws)) fs
insert_all-first P first fixed t n k [] fs d apart e = absurd cc
insert_all-first P first fixed t n k (w ∷ ws) fs d apart e =
    cases (λ gs q. insert_all-first P first fixed (first_free t (first w.entry) ∷ t) n k ws gs d apart.2 q) (cases_eq w.flight n) where
      cases : ((gs : List Placed) → slot_in n (greedy first (first_free t (first w.entry) ∷ t) ws) ≡ Some k → insert_all (filter (λ a. P a.flight) (without_fixed n (greedy first (first_free t (first w.entry) ∷ t) ws))) (insert_fixed (record { flight = n; slot = k }) gs) ≡ insert_all (filter (λ a. P a.flight) (greedy first (first_free t (first w.entry) ∷ t) ws)) gs)
          → (w.flight ≡ n) ⊎ (w.flight ≡ n → ⊥) → insert_all (filter (λ a. P a.flight) (without_fixed n (greedy first t (w ∷ ws)))) (insert_fixed (record { flight = n; slot = k }) fs) ≡ insert_all (filter (λ a. P a.flight) (greedy first t (w ∷ ws))) fs
      cases again (inl q) =
          let j = first_free t (first w.entry) in
          let a : Placed = record { flight = w.flight; slot = j } in
          let rest = greedy first (j ∷ t) ws in
          let found : Some j ≡ Some k = sym (slot_in-here n a rest q) ∙ e in
          let same : j ≡ k = cc in
          let none : NoneIs n ws = (let N : ℕ → Type 0 = λ m. NoneIs m ws in subst N q apart.1) in
          let pair : record { flight = n; slot = k } ≡ a = ap (λ m. let b : Placed = record { flight = m; slot = k } in b) (sym q) ∙ ap (λ m. let b : Placed = record { flight = w.flight; slot = m } in b) (sym same) in
          let gone : without_fixed n (a ∷ rest) ≡ rest = without_fixed-here n a rest q ∙ without_fixed-none n rest (none-placed first (j ∷ t) n ws none) in
          let does : P w.flight ≡ true = ap P q ∙ d in
          ap (λ xs. insert_all (filter (λ a. P a.flight) xs) (insert_fixed (record { flight = n; slot = k }) fs)) gone
          ∙ (ap (λ b. insert_all (filter (λ a. P a.flight) rest) (insert_fixed b fs)) pair
          ∙ sym (ap (λ b. insert_all (cond b (a ∷ filter (λ a. P a.flight) rest) (filter (λ a. P a.flight) rest)) fs) does))
      cases again (inr q) =
          let j = first_free t (first w.entry) in
          let a : Placed = record { flight = w.flight; slot = j } in
          let b : Placed = record { flight = n; slot = k } in
          let rest = greedy first (j ∷ t) ws in
          let later : slot_in n rest ≡ Some k = sym (slot_in-other n a rest q) ∙ e in
          let apart_slots : j ≡ k → ⊥ = eqb-false j k (or_parts (eqb j k) (is_in k t) (slot-free first (j ∷ t) n k ws later)).0 in
          ap (λ xs. insert_all (filter (λ a. P a.flight) xs) (insert_fixed b fs)) (without_fixed-other n a rest q)
          ∙ after-first (P w.flight) a b (filter (λ a. P a.flight) (without_fixed n rest)) (filter (λ a. P a.flight) rest) fs apart_slots (λ gs. again gs later)

pub slots-insert : (j : ℕ) (a : Placed) (fs : List Placed) → is_in j (slots (insert_fixed a fs)) ≡ is_in j (a.slot ∷ slots fs)
slots-insert j a [] = refl
slots-insert j a (x ∷ xs) = cases (slots-insert j a xs) (ltb x.slot a.slot) where
  cases : is_in j (slots (insert_fixed a xs)) ≡ is_in j (a.slot ∷ slots xs) → (b : Bool) → is_in j (slots (cond b (x ∷ insert_fixed a xs) (a ∷ x ∷ xs))) ≡ is_in j (a.slot ∷ x.slot ∷ slots xs)
  cases again true = ap (λ b. eqb x.slot j || b) again ∙ swap (eqb x.slot j) (eqb a.slot j) (is_in j (slots xs))
  cases again false = refl
