-- A flight that has no slot is none of the provisional and none of the frozen ones.
use Rattle.std.proofs.Common.{◌≡◌, ℕ, ◌++◌, Bool, true, false, cond, eqb, List, [], ◌∷◌, None, Some, refl}
use Rattle.std.proofs.lemmas.Bool.{eqb-false}
use Rattle.flow_slots.specs.declared.cell.Planned.{Planned}
use Rattle.flow_slots.specs.Period.{first_slot}
use Rattle.flow_slots.specs.Assignment.{Placed, first_free, greedy, slots}
use Rattle.flow_slots.specs.Lineup.{Lineup, slot_in, held_slot, with_waiting, with_fixed, without_flight, NoneIs, NoneFixed}
use Rattle.flow_slots.proofs.Undone.{with_waiting-undone, with_fixed-undone}

-- one step of a look-up that finds nothing
slot_in-passes : (f : ℕ) (x : Placed) (xs : List Placed) → slot_in f (x ∷ xs) ≡ None → (x.flight ≡ f → ⊥) × (slot_in f xs ≡ None)
slot_in-passes f x xs e = cases (eqb x.flight f) refl e where
  cases : (b : Bool) → eqb x.flight f ≡ b → cond b (Some x.slot) (slot_in f xs) ≡ None → (x.flight ≡ f → ⊥) × (slot_in f xs ≡ None)
  cases true q h = cc
  cases false q h = (eqb-false x.flight f q, h)

none_fixed : (f : ℕ) (xs ys : List Placed) → slot_in f (xs ++ ys) ≡ None → NoneFixed f xs × (slot_in f ys ≡ None)
none_fixed f [] ys e = (tt, e)
none_fixed f (x ∷ xs) ys e =
    let step = slot_in-passes f x (xs ++ ys) e in
    let again = none_fixed f xs ys step.1 in
    ((step.0, again.0), again.1)

none_waiting : (first : ℕ → ℕ) (f : ℕ) (taken : List ℕ) (ws : List Planned) → slot_in f (greedy first taken ws) ≡ None → NoneIs f ws
none_waiting first f taken [] e = tt
none_waiting first f taken (w ∷ ws) e =
    let k = first_free taken (first w.entry) in
    let step = slot_in-passes f (record { flight = w.flight; slot = k }) (greedy first (k ∷ taken) ws) e in
    (step.0, none_waiting first f (k ∷ taken) ws step.1)

pub absent-fixed : (l : Lineup) (f : ℕ) → held_slot l f ≡ None → NoneFixed f l.fixed
absent-fixed l f e = (none_fixed f l.fixed (greedy (λ v. first_slot l.period v) (slots l.fixed) l.waiting) e).0

pub absent-waiting : (l : Lineup) (f : ℕ) → held_slot l f ≡ None → NoneIs f l.waiting
absent-waiting l f e =
    none_waiting (λ v. first_slot l.period v) f (slots l.fixed) l.waiting (none_fixed f l.fixed (greedy (λ v. first_slot l.period v) (slots l.fixed) l.waiting) e).1

-- `insert` and `put_fixed` are undone by `remove`, under their own conditions
pub insert-undone : (w : Planned) (l : Lineup) → held_slot l w.flight ≡ None → without_flight w.flight (with_waiting w l) ≡ l
insert-undone w l e = with_waiting-undone w l (absent-waiting l w.flight e) (absent-fixed l w.flight e)

pub put_fixed-undone : (a : Placed) (l : Lineup) → held_slot l a.flight ≡ None → without_flight a.flight (with_fixed a l) ≡ l
put_fixed-undone a l e = with_fixed-undone a l (absent-waiting l a.flight e) (absent-fixed l a.flight e)
