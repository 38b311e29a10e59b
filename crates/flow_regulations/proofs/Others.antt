-- The pairs of the other flights, when one flight is removed, inserted, or frozen.
use Rattle.std.proofs.Common.{◌≡◌, ℕ, ◌⊎◌, inl, inr, Bool, true, false, cond, eqb, ltb, List, [], ◌∷◌, Option, Some, None, refl, sym, ap, ◌∙◌}
use Rattle.std.specs.Option.{is_some}
use Rattle.std.proofs.lemmas.Bool.{ne_eqb, cases_eq}
use Rattle.flow_slots.specs.Assignment.{Placed}
use Rattle.flow_slots.specs.Lineup.{Lineup, held_slot, fixed_slot, without_fixed, insert_fixed, with_waiting}
use Rattle.flow_slots.specs.ChangeList.{fixed_there}
use Rattle.flow_regulations.specs.Settling.{pairs_of}
use Rattle.flow_regulations.specs.Listing.{RegulationView, with_lineup, placed, fixed_waiting}
use Rattle.flow_regulations.proofs.FixedOnes.{without_fixed-here, without_fixed-other}

pairs-other : (f : ℕ) (a : Placed) (xs : List Placed) → (a.flight ≡ f → ⊥) → pairs_of f (a ∷ xs) ≡ pairs_of f xs
pairs-other f a xs ne = ap (λ b. cond b (a ∷ pairs_of f xs) (pairs_of f xs)) (ne_eqb a.flight f ne)

pub pairs-without : (f n : ℕ) (xs : List Placed) → (f ≡ n → ⊥) → pairs_of f (without_fixed n xs) ≡ pairs_of f xs
pairs-without f n [] ne = refl
pairs-without f n (x ∷ xs) ne = cases (pairs-without f n xs ne) (cases_eq x.flight n) where
  cases : pairs_of f (without_fixed n xs) ≡ pairs_of f xs → (x.flight ≡ n) ⊎ (x.flight ≡ n → ⊥) → pairs_of f (without_fixed n (x ∷ xs)) ≡ pairs_of f (x ∷ xs)
  cases again (inl e) = ap (pairs_of f) (without_fixed-here n x xs e) ∙ (again ∙ sym (pairs-other f x xs (λ q. ne (sym q ∙ e))))
  cases again (inr e) = ap (pairs_of f) (without_fixed-other n x xs e) ∙ ap (λ ys. cond (eqb x.flight f) (x ∷ ys) ys) again

pub pairs-insert : (f : ℕ) (a : Placed) (xs : List Placed) → (a.flight ≡ f → ⊥) → pairs_of f (insert_fixed a xs) ≡ pairs_of f xs
pairs-insert f a [] ne = pairs-other f a [] ne
pairs-insert f a (x ∷ xs) ne = cases (pairs-insert f a xs ne) (ltb x.slot a.slot) where
  cases : pairs_of f (insert_fixed a xs) ≡ pairs_of f xs → (b : Bool) → pairs_of f (cond b (x ∷ insert_fixed a xs) (a ∷ x ∷ xs)) ≡ pairs_of f (x ∷ xs)
  cases again true = ap (λ ys. cond (eqb x.flight f) (x ∷ ys) ys) again
  cases again false = pairs-other f a (x ∷ xs) ne

pub pairs-there : (f n : ℕ) (o : Option ℕ) (l : Lineup) → (f ≡ n → ⊥) → pairs_of f (fixed_there o n l).fixed ≡ pairs_of f l.fixed
pairs-there f n None l ne = refl
pairs-there f n (Some k) l ne = pairs-insert f (record { flight = n; slot = k }) l.fixed (λ e. ne (sym e))

pub pairs-placed : (f n : ℕ) (o : Option ℕ) (d : Bool) (l : Lineup) → (f ≡ n → ⊥) → pairs_of f (placed o d n l).fixed ≡ pairs_of f l.fixed
pairs-placed f n None d l ne = refl
pairs-placed f n (Some e) false l ne = refl
pairs-placed f n (Some e) true l ne = pairs-there f n (held_slot (with_waiting (record { entry = e; flight = n }) l) n) (with_waiting (record { entry = e; flight = n }) l) ne

pub pairs-waiting : (f n : ℕ) (l : Lineup) → (f ≡ n → ⊥) → pairs_of f (fixed_waiting n l).fixed ≡ pairs_of f l.fixed
pairs-waiting f n l ne = cases (is_some (fixed_slot l n)) where
  cases : (b : Bool) → pairs_of f (cond b l (fixed_there (held_slot l n) n l)).fixed ≡ pairs_of f l.fixed
  cases true = refl
  cases false = pairs-there f n (held_slot l n) l ne

pub pairs-fixed : (f n : ℕ) (l m : RegulationView) → (f ≡ n → ⊥) → m ≡ with_lineup (fixed_waiting n l.lineup) l → pairs_of f m.lineup.fixed ≡ pairs_of f l.lineup.fixed
pairs-fixed f n l m ne e = ap (λ v. pairs_of f v.lineup.fixed) e ∙ pairs-waiting f n l.lineup ne
