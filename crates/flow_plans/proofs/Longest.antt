-- How long a flight takes to its route points.
use Rattle.std.proofs.Common.{◌≡◌, ℕ, ◌+◌, ◌-◌, ◌*◌, ◌≤◌, ◌⊎◌, inl, inr, arith, Bool, true, false, ◌&&◌, ◌==◌, nat_lt, if◌then◌else◌, List, [], ◌∷◌, length, take, drop, Option, Some, None, subst}
use Rattle.std.proofs.lemmas.Bool.{cases_Bool, ltb-true}
use Rattle.std.specs.Prelude.{IfSome, codes}
use Rattle.std.specs.Option.{option_or}
use Rattle.std.specs.List.{list_all}
use Rattle.fpl_text.specs.Bytes.{is_digit}
use Rattle.fpl_text.specs.Times.{two_digits, hhmm_below, elapsed_time}
use Rattle.fpl_text.specs.Words.{words_of}
use Rattle.fpl_items.specs.Kinds.{is_text}
use Rattle.fpl_items.specs.Items.{ItemView, items_of, estimate_for, elapsed_to}
use Rattle.fpl_items.specs.declared.estimate.Estimate.{Estimate}
use Rattle.fpl_items.specs.Estimates.{first_for, AreEstimatesOf}

-- no elapsed time reaches a hundred hours
elapsed-below : (text : List ℕ) → IfSome (elapsed_time text) (λ minutes. minutes ≤ 6000)
unfolding hhmm_below
elapsed-below text = by ((length text == 4) && list_all is_digit text) (two_digits text 0) (two_digits text 2) (cases_Bool (nat_lt (two_digits text 0) 100)) (cases_Bool (nat_lt (two_digits text 2) 60))
  where
    by : (a : Bool) (h m : ℕ) → (nat_lt h 100 ≡ true) ⊎ (nat_lt h 100 ≡ false) → (nat_lt m 60 ≡ true) ⊎ (nat_lt m 60 ≡ false)
        → IfSome (if a && nat_lt h 100 && nat_lt m 60 then Some (60 * h + m) else None) (λ minutes. minutes ≤ 6000)
    by false h m p q = tt
    by true h m (inr p) q = rw p tt
    by true h m (inl p) (inr q) = rw (p, q) tt
    by true h m (inl p) (inl q) = rw (p, q) (omega (arith, ltb-true _ _ p, ltb-true _ _ q))

estimate-below : (place : List ℕ) (words : List (List ℕ)) → IfSome (estimate_for place words) (λ minutes. minutes ≤ 6000)
estimate-below place [] = tt
estimate-below place (word ∷ words) =
    elim (is_text place (take (length word - 4) word)) as (λ b. IfSome (if b then elapsed_time (drop (length word - 4) word) else estimate_for place words) (λ minutes. minutes ≤ 6000)) [
      | true ↦ elapsed-below (drop (length word - 4) word)
      | false ↦ estimate-below place words
    ]

or-below : (a b : Option ℕ) → IfSome a (λ minutes. minutes ≤ 6000) → IfSome b (λ minutes. minutes ≤ 6000) → IfSome (option_or a b) (λ minutes. minutes ≤ 6000)
or-below None b p q = q
or-below (Some x) b p q = p

if-below : (b : Bool) (o : Option ℕ) → IfSome o (λ minutes. minutes ≤ 6000) → IfSome (if b then o else None) (λ minutes. minutes ≤ 6000)
if-below true o p = p
if-below false o p = tt

-- nor does that to any route point
pub way-below : (place : List ℕ) (items : List ItemView) → IfSome (elapsed_to place items) (λ minutes. minutes ≤ 6000)
way-below place [] = tt
way-below place (item ∷ items) =
    or-below _ (elapsed_to place items) (if-below (is_text (codes "EET") item.name) (estimate_for place item.words) (estimate-below place item.words)) (way-below place items)

-- the longest of the estimates
pub way-longest : (field : List ℕ) (notes : List Estimate) (longest : ℕ) → AreEstimatesOf (items_of (words_of field)) notes
    → ((place : List ℕ) → IfSome (first_for place notes) (λ minutes. minutes ≤ longest))
    → (place : List ℕ) → IfSome (elapsed_to place (items_of (words_of field))) (λ minutes. minutes ≤ longest)
way-longest field notes longest are found place = subst (λ o. IfSome o (λ minutes. minutes ≤ longest)) (are place) (found place)
