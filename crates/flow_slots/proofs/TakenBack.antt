-- The calls that undo a change, from what a caller knows of a lineup.
use Rattle.std.proofs.Common.{◌≡◌, ℕ, ◌++◌, inl, inr, Bool, true, false, cond, not, eqb, List, [], ◌∷◌, Some, refl, ap, subst, ◌∙◌}
use Rattle.std.proofs.lemmas.Bool.{eqb-true, eqb-false, false≢true}
use Rattle.std.specs.Option.{IsSome, is_some}
use Rattle.flow_slots.specs.declared.cell.Planned.{Planned}
use Rattle.flow_slots.specs.Period.{first_slot}
use Rattle.flow_slots.specs.Assignment.{Placed, greedy, slots}
use Rattle.flow_slots.specs.Lineup.{Lineup, IsLineup, NoneIs, NoneFixed, FixedApart, WaitingApart, entry_in, waiting_entry, slot_in, held_slot, fixed_slot, with_waiting, with_fixed, without_flight, without_fixed, fixed_at}
use Rattle.flow_slots.proofs.Undone.{IsOne, IsOneFixed, without_flight-undone, without_flight-put_back, fixed_at-undone}

-- a provisional flight with an entry is one of the provisional ones, and none of the frozen ones
pub entry_in-one : (fixed : List Placed) (w : Planned) (ws : List Planned) → WaitingApart fixed ws → entry_in w.flight ws ≡ Some w.entry → IsOne w ws × NoneFixed w.flight fixed
entry_in-one fixed w [] a e = cc
entry_in-one fixed w (v ∷ ws) a e = cases (entry_in-one fixed w ws a.2) (eqb v.flight w.flight) refl e where
  cases : (entry_in w.flight ws ≡ Some w.entry → IsOne w ws × NoneFixed w.flight fixed) → (b : Bool) → eqb v.flight w.flight ≡ b → cond b (Some v.entry) (entry_in w.flight ws) ≡ Some w.entry → IsOne w (v ∷ ws) × NoneFixed w.flight fixed
  cases again true q h =
      let number : v.flight ≡ w.flight = eqb-true v.flight w.flight q in
      let time : v.entry ≡ w.entry = cc in
      let same : v ≡ w = ap (λ f. let p : Planned = record { entry = v.entry; flight = f } in p) number ∙ ap (λ t. let p : Planned = record { entry = t; flight = w.flight } in p) time in
      (inl (same, subst (λ f. NoneIs f ws) number a.1), subst (λ f. NoneFixed f fixed) number a.0)
  cases again false q h =
      let r = again h in
      (inr (eqb-false v.flight w.flight q, r.0), r.1)

-- a frozen flight is one of the frozen ones, and none of the provisional ones
slot_in-one : (a : Placed) (xs : List Placed) → FixedApart xs → slot_in a.flight xs ≡ Some a.slot → IsOneFixed a xs
slot_in-one a [] d e = cc
slot_in-one a (x ∷ xs) d e = cases (slot_in-one a xs d.1) (eqb x.flight a.flight) refl e where
  cases : (slot_in a.flight xs ≡ Some a.slot → IsOneFixed a xs) → (b : Bool) → eqb x.flight a.flight ≡ b → cond b (Some x.slot) (slot_in a.flight xs) ≡ Some a.slot → IsOneFixed a (x ∷ xs)
  cases again true q h =
      let number : x.flight ≡ a.flight = eqb-true x.flight a.flight q in
      let at : x.slot ≡ a.slot = cc in
      let same : x ≡ a = ap (λ f. let p : Placed = record { flight = f; slot = x.slot } in p) number ∙ ap (λ k. let p : Placed = record { flight = a.flight; slot = k } in p) at in
      inl (same, subst (λ f. NoneFixed f xs) number d.0)
  cases again false q h = inr (eqb-false x.flight a.flight q, again h)

NoneFixed-found : (f k : ℕ) (xs : List Placed) → NoneFixed f xs → slot_in f xs ≡ Some k → ⊥
NoneFixed-found f k [] n e = cc
NoneFixed-found f k (x ∷ xs) n e = cases (NoneFixed-found f k xs n.1) (eqb x.flight f) refl e where
  cases : (slot_in f xs ≡ Some k → ⊥) → (b : Bool) → eqb x.flight f ≡ b → cond b (Some x.slot) (slot_in f xs) ≡ Some k → ⊥
  cases again true q h = n.0 (eqb-true x.flight f q)
  cases again false q h = again h

fixed-none_waits : (f k : ℕ) (fixed : List Placed) (ws : List Planned) → WaitingApart fixed ws → slot_in f fixed ≡ Some k → NoneIs f ws
fixed-none_waits f k fixed [] a e = tt
fixed-none_waits f k fixed (w ∷ ws) a e =
    ((λ q. NoneFixed-found f k fixed (subst (λ v. NoneFixed v fixed) q a.0) e), fixed-none_waits f k fixed ws a.2 e)

-- no frozen flight has the number of one that was taken out
pub without_fixed-gone : (f : ℕ) (xs : List Placed) → NoneFixed f (without_fixed f xs)
without_fixed-gone f [] = tt
without_fixed-gone f (x ∷ xs) =
    elim (eqb x.flight f) as (λ b. eqb x.flight f ≡ b → NoneFixed f (cond (not b) (x ∷ without_fixed f xs) (without_fixed f xs))) [ true ↦ λ q. without_fixed-gone f xs | false ↦ λ q. (eqb-false x.flight f q, without_fixed-gone f xs) ] refl

-- where a frozen flight has a slot, the look-up among the frozen ones finds the same slot
held-fixed : (f k : ℕ) (xs ys : List Placed) → slot_in f (xs ++ ys) ≡ Some k → is_some (slot_in f xs) ≡ true → slot_in f xs ≡ Some k
held-fixed f k [] ys e s = absurd (false≢true s)
held-fixed f k (x ∷ xs) ys e s = cases (held-fixed f k xs ys) (eqb x.flight f) e s where
  cases : (slot_in f (xs ++ ys) ≡ Some k → is_some (slot_in f xs) ≡ true → slot_in f xs ≡ Some k) → (b : Bool) → cond b (Some x.slot) (slot_in f (xs ++ ys)) ≡ Some k → is_some (cond b (Some x.slot) (slot_in f xs)) ≡ true → cond b (Some x.slot) (slot_in f xs) ≡ Some k
  cases again true h t = h
  cases again false h t = again h t

fixed_at_slot : (a : Placed) (l : Lineup) → held_slot l a.flight ≡ Some a.slot → IsSome (fixed_slot l a.flight) → slot_in a.flight l.fixed ≡ Some a.slot
fixed_at_slot a l e s = held-fixed a.flight a.slot l.fixed (greedy (λ v. first_slot l.period v) (slots l.fixed) l.waiting) e s

pub removed-inserted : (l : Lineup) (w : Planned) → IsLineup l → waiting_entry l w.flight ≡ Some w.entry → with_waiting w (without_flight w.flight l) ≡ l
removed-inserted l w i e =
    let one = entry_in-one l.fixed w l.waiting i.waiting_apart e in
    without_flight-undone w l i.in_order one.0 one.1

pub fixed-released : (l : Lineup) (w : Planned) (k : ℕ) → IsLineup l → waiting_entry l w.flight ≡ Some w.entry → with_waiting w (without_flight w.flight (fixed_at (record { flight = w.flight; slot = k }) l)) ≡ l
fixed-released l w k i e =
    let one = entry_in-one l.fixed w l.waiting i.waiting_apart e in
    fixed_at-undone w k l i.in_order one.0 one.1

pub removed-put_fixed : (l : Lineup) (a : Placed) → IsLineup l → held_slot l a.flight ≡ Some a.slot → IsSome (fixed_slot l a.flight) → with_fixed a (without_flight a.flight l) ≡ l
removed-put_fixed l a i e s =
    let at = fixed_at_slot a l e s in
    without_flight-put_back a l i.by_slot (slot_in-one a l.fixed i.fixed_apart at) (fixed-none_waits a.flight a.slot l.fixed l.waiting i.waiting_apart at)
