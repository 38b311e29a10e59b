-- What reads of a slot list find.
use Rattle.std.proofs.Common.{◌≡◌, ℕ, ◌++◌, ◌⊎◌, inl, inr, Bool, true, false, List, [], ◌∷◌, Option, Some, None, refl, sym, ◌∙◌}
use Rattle.std.specs.Prelude.{IsSome}
use Rattle.std.proofs.lemmas.Bool.{cases_eq, false≢true}
use Rattle.flow_slots.specs.Assignment.{Placed}
use Rattle.flow_slots.specs.Lineup.{Lineup, slot_in, held_slot, fixed_slot}
use Rattle.flow_regulations.proofs.Served.{slot_in-here, slot_in-other}

pub slot_in-before : (f k : ℕ) (xs ys : List Placed) → slot_in f xs ≡ Some k → slot_in f (xs ++ ys) ≡ Some k
slot_in-before f k [] ys e = absurd cc
slot_in-before f k (x ∷ xs) ys e = cases (λ h. slot_in-before f k xs ys h) (cases_eq x.flight f) where
  cases : (slot_in f xs ≡ Some k → slot_in f (xs ++ ys) ≡ Some k) → (x.flight ≡ f) ⊎ (x.flight ≡ f → ⊥) → slot_in f (x ∷ (xs ++ ys)) ≡ Some k
  cases again (inl q) = slot_in-here f x (xs ++ ys) q ∙ (sym (slot_in-here f x xs q) ∙ e)
  cases again (inr q) = slot_in-other f x (xs ++ ys) q ∙ again (sym (slot_in-other f x xs q) ∙ e)

-- a frozen flight is held in the slot in which it is frozen
pub held-fixed : (l : Lineup) (f : ℕ) → IsSome (fixed_slot l f) → held_slot l f ≡ fixed_slot l f
held-fixed l f h = cases (fixed_slot l f) refl h where
  cases : (o : Option ℕ) → fixed_slot l f ≡ o → IsSome o → held_slot l f ≡ o
  cases None e h = absurd (false≢true h)
  cases (Some k) e h = slot_in-before f k l.fixed _ e

pub fixed-none : (l : Lineup) (f : ℕ) (b : Bool) → (b ≡ true → IsSome (fixed_slot l f)) × (IsSome (fixed_slot l f) → b ≡ true) → b ≡ false → fixed_slot l f ≡ None
fixed-none l f b h e = cases (fixed_slot l f) h.1 where
  cases : (o : Option ℕ) → (IsSome o → b ≡ true) → o ≡ None
  cases None k = refl
  cases (Some k) q = absurd (false≢true (sym e ∙ q refl))
