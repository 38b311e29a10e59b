-- One flight is removed from a slot list, inserted and frozen: the others stay, and it can get back
-- what it had.
use Rattle.std.proofs.Common.{◌≡◌, ℕ, Bool, true, false, not, cond, eqb, ltb, List, [], ◌∷◌, Option, Some, None, refl, sym, ap, subst, ◌∙◌}
use Rattle.std.specs.Option.{is_some}
use Rattle.std.proofs.lemmas.Bool.{eq-eqb, eqb-true}
use Rattle.flow_slots.specs.declared.cell.Planned.{Planned}
use Rattle.flow_slots.specs.Order.{stands_before, insert, without}
use Rattle.flow_slots.specs.Assignment.{Placed}
use Rattle.flow_slots.specs.Lineup.{Lineup, IsLineup, NoneFixed, WaitingApart, slot_in, held_slot, fixed_slot, entry_in, waiting_entry, without_fixed, insert_fixed, with_waiting, without_flight}
use Rattle.flow_slots.specs.ChangeList.{fixed_there}
use Rattle.flow_slots.proofs.TakenBack.{removed-inserted}
use Rattle.flow_regulations.specs.Listing.{placed, fixed_waiting}
use Rattle.flow_regulations.proofs.Placing.{fixes-there}

-- a list without a flight, after the flight is inserted or removed
without-twice : (f : ℕ) (ws : List Planned) → without f (without f ws) ≡ without f ws
without-twice f [] = refl
without-twice f (w ∷ ws) = cases (without-twice f ws) (eqb w.flight f) refl where
  cases : without f (without f ws) ≡ without f ws → (b : Bool) → eqb w.flight f ≡ b → without f (cond (not b) (w ∷ without f ws) (without f ws)) ≡ cond (not b) (w ∷ without f ws) (without f ws)
  cases again true e = again
  cases again false e = ap (λ b. cond (not b) (w ∷ without f (without f ws)) (without f (without f ws))) e ∙ ap (λ u. w ∷ u) again

without-comes : (x : Planned) (ws : List Planned) → without x.flight (insert x ws) ≡ without x.flight ws
without-comes x [] = ap (λ b. cond (not b) (x ∷ []) []) (eq-eqb x.flight x.flight refl)
without-comes x (w ∷ ws) = cases (without-comes x ws) (stands_before w x) where
  cases : without x.flight (insert x ws) ≡ without x.flight ws → (b : Bool) → without x.flight (cond b (w ∷ insert x ws) (x ∷ w ∷ ws)) ≡ without x.flight (w ∷ ws)
  cases again true = ap (λ us. cond (not (eqb w.flight x.flight)) (w ∷ us) us) again
  cases again false = ap (λ b. cond (not b) (x ∷ without x.flight (w ∷ ws)) (without x.flight (w ∷ ws))) (eq-eqb x.flight x.flight refl)

without_fixed-twice : (f : ℕ) (xs : List Placed) → without_fixed f (without_fixed f xs) ≡ without_fixed f xs
without_fixed-twice f [] = refl
without_fixed-twice f (x ∷ xs) = cases (without_fixed-twice f xs) (eqb x.flight f) refl where
  cases : without_fixed f (without_fixed f xs) ≡ without_fixed f xs → (b : Bool) → eqb x.flight f ≡ b → without_fixed f (cond (not b) (x ∷ without_fixed f xs) (without_fixed f xs)) ≡ cond (not b) (x ∷ without_fixed f xs) (without_fixed f xs)
  cases again true e = again
  cases again false e = ap (λ b. cond (not b) (x ∷ without_fixed f (without_fixed f xs)) (without_fixed f (without_fixed f xs))) e ∙ ap (λ u. x ∷ u) again

pub without_fixed-comes : (a : Placed) (xs : List Placed) → without_fixed a.flight (insert_fixed a xs) ≡ without_fixed a.flight xs
without_fixed-comes a [] = ap (λ b. cond (not b) (a ∷ []) []) (eq-eqb a.flight a.flight refl)
without_fixed-comes a (x ∷ xs) = cases (without_fixed-comes a xs) (ltb x.slot a.slot) where
  cases : without_fixed a.flight (insert_fixed a xs) ≡ without_fixed a.flight xs → (b : Bool) → without_fixed a.flight (cond b (x ∷ insert_fixed a xs) (a ∷ x ∷ xs)) ≡ without_fixed a.flight (x ∷ xs)
  cases again true = ap (λ us. cond (not (eqb x.flight a.flight)) (x ∷ us) us) again
  cases again false = ap (λ b. cond (not b) (a ∷ without_fixed a.flight (x ∷ xs)) (without_fixed a.flight (x ∷ xs))) (eq-eqb a.flight a.flight refl)

lined_as : Lineup → List Planned → List Placed → Lineup
lined_as l ws fs = record { period = l.period; capacity = l.capacity; waiting = ws; fixed = fs }

pub alone-twice : (f : ℕ) (l : Lineup) → without_flight f (without_flight f l) ≡ without_flight f l
unfolding lined_as
alone-twice f l = ap (λ ws. lined_as l ws (without_fixed f (without_fixed f l.fixed))) (without-twice f l.waiting) ∙ ap (lined_as l (without f l.waiting)) (without_fixed-twice f l.fixed)

pub alone-waiting : (x : Planned) (l : Lineup) → without_flight x.flight (with_waiting x l) ≡ without_flight x.flight l
unfolding lined_as
alone-waiting x l = ap (λ ws. lined_as l ws (without_fixed x.flight l.fixed)) (without-comes x l.waiting)

alone-there : (o : Option ℕ) (f : ℕ) (l : Lineup) → without_flight f (fixed_there o f l) ≡ without_flight f l
unfolding lined_as
alone-there None f l = refl
alone-there (Some k) f l = ap (λ ws. lined_as l ws (without_fixed f (insert_fixed (record { flight = f; slot = k }) l.fixed))) (without-twice f l.waiting) ∙ ap (lined_as l (without f l.waiting)) (without_fixed-comes (record { flight = f; slot = k }) l.fixed)

pub alone-fixed_waiting : (f : ℕ) (l : Lineup) → without_flight f (fixed_waiting f l) ≡ without_flight f l
alone-fixed_waiting f l = cases (is_some (fixed_slot l f)) where
  cases : (b : Bool) → without_flight f (cond b l (fixed_there (held_slot l f) f l)) ≡ without_flight f l
  cases true = refl
  cases false = alone-there (held_slot l f) f l

pub alone-placed : (o : Option ℕ) (d : Bool) (f : ℕ) (l : Lineup) → without_flight f (placed o d f l) ≡ without_flight f l
alone-placed None d f l = refl
alone-placed (Some e) false f l = alone-waiting (record { entry = e; flight = f }) l
alone-placed (Some e) true f l = alone-there (held_slot (with_waiting (record { entry = e; flight = f }) l) f) f (with_waiting (record { entry = e; flight = f }) l) ∙ alone-waiting (record { entry = e; flight = f }) l

-- a flight with a provisional slot isn't frozen
waits-apart : (f e : ℕ) (fixed : List Placed) (ws : List Planned) → WaitingApart fixed ws → entry_in f ws ≡ Some e → NoneFixed f fixed
waits-apart f e fixed [] a h = cc
waits-apart f e fixed (w ∷ ws) a h = cases (waits-apart f e fixed ws a.2) (eqb w.flight f) refl h where
  cases : (entry_in f ws ≡ Some e → NoneFixed f fixed) → (b : Bool) → eqb w.flight f ≡ b → cond b (Some w.entry) (entry_in f ws) ≡ Some e → NoneFixed f fixed
  cases again true q k = subst (λ g. NoneFixed g fixed) (eqb-true w.flight f q) a.0
  cases again false q k = again k

pub none-slot : (f : ℕ) (xs : List Placed) → NoneFixed f xs → slot_in f xs ≡ None
none-slot f [] h = refl
none-slot f (x ∷ xs) h = cases (none-slot f xs h.1) (eqb x.flight f) refl where
  cases : slot_in f xs ≡ None → (b : Bool) → eqb x.flight f ≡ b → cond b (Some x.slot) (slot_in f xs) ≡ None
  cases again true q = absurd (h.0 (eqb-true x.flight f q))
  cases again false q = again

pub waits-unfixed : (f e : ℕ) (l : Lineup) → IsLineup l → waiting_entry l f ≡ Some e → fixed_slot l f ≡ None
waits-unfixed f e l lined h = none-slot f l.fixed (waits-apart f e l.fixed l.waiting lined.waiting_apart h)

-- a flight with a provisional slot by its entry already
pub stands : (d : Bool) (f e : ℕ) (l : Lineup) → IsLineup l → waiting_entry l f ≡ Some e → placed (Some e) d f (without_flight f l) ≡ cond d (fixed_waiting f l) l
stands d f e l lined h =
    ap (λ v. cond d (fixed_there (held_slot v f) f v) v) (removed-inserted l (record { entry = e; flight = f }) lined h)
    ∙ ap (λ v. cond d v l) (sym (fixes-there f l (held_slot l f) (waits-unfixed f e l lined h) refl))
