-- Frozen pairs stay.
use Rattle.std.proofs.Common.{◌≡◌, ℕ, inl, inr, Bool, true, false, cond, ltb, List, [], ◌∷◌, sym, ap, subst, ◌∙◌}
use Rattle.std.specs.List.{filter}
use Rattle.flow_plans.specs.Plans.{PlanView}
use Rattle.flow_slots.specs.Assignment.{Placed}
use Rattle.flow_slots.specs.Lineup.{insert_fixed, assigned}
use Rattle.flow_regulations.specs.Regulations.{Regulation, has_flight, lineup_of}
use Rattle.flow_regulations.specs.Settling.{keeps_pair, kept_pairs, insert_all, is_due_flight, assigned_around, settled, pairs_of, frozen_at_departure}
use Rattle.flow_regulations.specs.Listing.{HasPair}

has-filter : (T : Placed → Bool) (a : Placed) (xs : List Placed) → T a ≡ true → HasPair a xs → HasPair a (filter T xs)
has-filter T a [] t h = h
has-filter T a (x ∷ xs) t (inl e) =
    let H : Bool → Type 0 = λ b. HasPair a (cond b (x ∷ filter T xs) (filter T xs)) in
    subst H (sym (ap T e ∙ t)) (inl e)
has-filter T a (x ∷ xs) t (inr h) = cases (has-filter T a xs t h) (T x) where
  cases : HasPair a (filter T xs) → (b : Bool) → HasPair a (cond b (x ∷ filter T xs) (filter T xs))
  cases again true = inr again
  cases again false = again

has-insert_fixed : (a b : Placed) (xs : List Placed) → HasPair a xs → HasPair a (insert_fixed b xs)
has-insert_fixed a b [] h = absurd h
has-insert_fixed a b (x ∷ xs) h = cases (λ q. has-insert_fixed a b xs q) (ltb x.slot b.slot) h where
  cases : (HasPair a xs → HasPair a (insert_fixed b xs)) → (c : Bool) → HasPair a (x ∷ xs) → HasPair a (cond c (x ∷ insert_fixed b xs) (b ∷ x ∷ xs))
  cases again true (inl e) = inl e
  cases again true (inr q) = inr (again q)
  cases again false q = inr q

has-insert_all : (a : Placed) (ys xs : List Placed) → HasPair a xs → HasPair a (insert_all ys xs)
has-insert_all a [] xs h = h
has-insert_all a (y ∷ ys) xs h = has-insert_all a ys (insert_fixed y xs) (has-insert_fixed a y xs h)

pub settling-keeps : (taxi now : ℕ) (plans : List PlanView) (r : Regulation) (a : Placed) → keeps_pair taxi now plans r a ≡ true → HasPair a r.fixed → HasPair a (settled taxi now plans r).fixed
unfolding settled
settling-keeps taxi now plans r a t h =
    has-insert_all a (filter (λ (a : Placed). is_due_flight now plans a.flight) (assigned_around taxi plans r (kept_pairs taxi now plans r))) (kept_pairs taxi now plans r) (has-filter (keeps_pair taxi now plans r) a r.fixed t h)

pub departing-keeps : (taxi max flight : ℕ) (before : List PlanView) (r : Regulation) (a : Placed) → HasPair a r.fixed → HasPair a (frozen_at_departure taxi max before flight r).fixed
unfolding frozen_at_departure
departing-keeps taxi max flight before r a h = cases (has_flight flight r.fixed) where
  cases : (b : Bool) → HasPair a (cond b r (record r { fixed = insert_all (pairs_of flight (assigned (lineup_of taxi max before r))) r.fixed })).fixed
  cases true = h
  cases false = has-insert_all a (pairs_of flight (assigned (lineup_of taxi max before r))) r.fixed h
