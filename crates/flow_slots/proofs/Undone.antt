-- Changes that undo each other.
use Rattle.std.proofs.Common.{◌≡◌, ℕ, ◌<◌, ◌⊎◌, inl, inr, Bool, true, false, not, cond, eqb, ltb, List, [], ◌∷◌, refl, sym, ap, ◌∙◌, arith}
use Rattle.std.specs.List.{AllByRecursion}
use Rattle.std.proofs.lemmas.Bool.{eq-eqb, ne_eqb, lt-ltb, le-ltb}
use Rattle.std.proofs.lemmas.Bool.Decides.{nat_tests}
use Rattle.flow_slots.specs.declared.cell.Planned.{Planned}
use Rattle.flow_slots.specs.Order.{stands_before, insert, without}
use Rattle.flow_slots.specs.Assignment.{Placed}
use Rattle.flow_slots.specs.Row.{NoneBefore}
use Rattle.flow_slots.specs.Lineup.{Lineup, with_waiting, with_fixed, without_flight, insert_fixed, without_fixed, fixed_at, InOrder, BySlot, NoneIs, NoneFixed}
use Rattle.flow_slots.proofs.Chain.{insert-first}
use Rattle.flow_slots.proofs.Leaving.{without-here, without-other}

pub without-none : (f : ℕ) (ws : List Planned) → NoneIs f ws → without f ws ≡ ws
without-none f [] a = refl
without-none f (w ∷ ws) a = without-other f w ws a.0 ∙ ap (λ v. w ∷ v) (without-none f ws a.1)

pub without_fixed-none : (f : ℕ) (xs : List Placed) → NoneFixed f xs → without_fixed f xs ≡ xs
without_fixed-none f [] a = refl
without_fixed-none f (x ∷ xs) a =
    ap (λ b. cond (not b) (x ∷ without_fixed f xs) (without_fixed f xs)) (ne_eqb x.flight f a.0) ∙ ap (λ v. x ∷ v) (without_fixed-none f xs a.1)

without-insert : (w : Planned) (ws : List Planned) → NoneIs w.flight ws → without w.flight (insert w ws) ≡ ws
without-insert w [] a = without-here w.flight w [] refl
without-insert w (v ∷ ws) a = cases (without-insert w ws a.1) (stands_before v w) where
  cases : without w.flight (insert w ws) ≡ ws → (b : Bool) → without w.flight (cond b (v ∷ insert w ws) (w ∷ v ∷ ws)) ≡ v ∷ ws
  cases again true = without-other w.flight v (insert w ws) a.0 ∙ ap (λ u. v ∷ u) again
  cases again false = without-here w.flight w (v ∷ ws) refl ∙ without-none w.flight (v ∷ ws) a

-- a flight that came in is taken out
pub with_waiting-undone : (w : Planned) (l : Lineup) → NoneIs w.flight l.waiting → NoneFixed w.flight l.fixed → without_flight w.flight (with_waiting w l) ≡ l
with_waiting-undone w l a b =
    ap (λ ws. let m : Lineup = record { period = l.period; capacity = l.capacity; waiting = ws; fixed = without_fixed w.flight l.fixed } in m) (without-insert w l.waiting a) ∙ ap (λ fs. let m : Lineup = record { period = l.period; capacity = l.capacity; waiting = l.waiting; fixed = fs } in m) (without_fixed-none w.flight l.fixed b)

-- `w` is one of them, and no other has its number
abbrev pub IsOne : Planned → List Planned → Type 0
IsOne w [] = ⊥
IsOne w (v ∷ ws) = ((v ≡ w) × NoneIs w.flight ws) ⊎ ((v.flight ≡ w.flight → ⊥) × IsOne w ws)

later-none : (w : Planned) (ws : List Planned) → AllByRecursion (λ v. stands_before w v ≡ true) ws → NoneBefore w ws
later-none w [] a = tt
later-none w (v ∷ ws) a = (let now : stands_before v w ≡ false = grind (arith, nat_tests, a.0) in now, later-none w ws a.1)

later-one : (v w : Planned) (ws : List Planned) → AllByRecursion (λ u. stands_before v u ≡ true) ws → IsOne w ws → stands_before v w ≡ true
later-one v w [] a o = absurd o
later-one v w (u ∷ ws) a (inl q) = ap (stands_before v) (sym q.0) ∙ a.0
later-one v w (u ∷ ws) a (inr q) = later-one v w ws a.1 q.1

insert-without : (w : Planned) (ws : List Planned) → InOrder ws → IsOne w ws → insert w (without w.flight ws) ≡ ws
insert-without w [] s o = absurd o
insert-without w (v ∷ ws) s (inl q) =
    let gone : without w.flight (v ∷ ws) ≡ ws = without-here w.flight v ws (ap (λ u. u.flight) q.0) ∙ without-none w.flight ws q.1 in
    let none : NoneBefore v ws = later-none v ws s.0 in
    ap (insert w) gone ∙ (ap (λ u. insert u ws) (sym q.0) ∙ insert-first v ws none)
insert-without w (v ∷ ws) s (inr q) =
    let again = insert-without w ws s.1 q.1 in
    ap (insert w) (without-other w.flight v ws q.0) ∙ (ap (λ b. cond b (v ∷ insert w (without w.flight ws)) (w ∷ v ∷ without w.flight ws)) (later-one v w ws s.0 q.1) ∙ ap (λ u. v ∷ u) again)

-- a flight that was taken out comes back
pub without_flight-undone : (w : Planned) (l : Lineup) → InOrder l.waiting → IsOne w l.waiting → NoneFixed w.flight l.fixed → with_waiting w (without_flight w.flight l) ≡ l
without_flight-undone w l s o b =
    ap (λ ws. let m : Lineup = record { period = l.period; capacity = l.capacity; waiting = ws; fixed = without_fixed w.flight l.fixed } in m) (insert-without w l.waiting s o) ∙ ap (λ fs. let m : Lineup = record { period = l.period; capacity = l.capacity; waiting = l.waiting; fixed = fs } in m) (without_fixed-none w.flight l.fixed b)

without_fixed-here : (f : ℕ) (x : Placed) (xs : List Placed) → x.flight ≡ f → without_fixed f (x ∷ xs) ≡ without_fixed f xs
without_fixed-here f x xs e = ap (λ b. cond (not b) (x ∷ without_fixed f xs) (without_fixed f xs)) (eq-eqb x.flight f e)

without_fixed-other : (f : ℕ) (x : Placed) (xs : List Placed) → (x.flight ≡ f → ⊥) → without_fixed f (x ∷ xs) ≡ x ∷ without_fixed f xs
without_fixed-other f x xs ne = ap (λ b. cond (not b) (x ∷ without_fixed f xs) (without_fixed f xs)) (ne_eqb x.flight f ne)

without-insert_fixed : (a : Placed) (xs : List Placed) → NoneFixed a.flight xs → without_fixed a.flight (insert_fixed a xs) ≡ xs
without-insert_fixed a [] n = without_fixed-here a.flight a [] refl
without-insert_fixed a (x ∷ xs) n = cases (without-insert_fixed a xs n.1) (ltb x.slot a.slot) where
  cases : without_fixed a.flight (insert_fixed a xs) ≡ xs → (b : Bool) → without_fixed a.flight (cond b (x ∷ insert_fixed a xs) (a ∷ x ∷ xs)) ≡ x ∷ xs
  cases again true = without_fixed-other a.flight x (insert_fixed a xs) n.0 ∙ ap (λ u. x ∷ u) again
  cases again false = without_fixed-here a.flight a (x ∷ xs) refl ∙ without_fixed-none a.flight (x ∷ xs) n

-- a flight that was put into a slot is taken out
pub with_fixed-undone : (a : Placed) (l : Lineup) → NoneIs a.flight l.waiting → NoneFixed a.flight l.fixed → without_flight a.flight (with_fixed a l) ≡ l
with_fixed-undone a l n b =
    ap (λ ws. let m : Lineup = record { period = l.period; capacity = l.capacity; waiting = ws; fixed = without_fixed a.flight (insert_fixed a l.fixed) } in m) (without-none a.flight l.waiting n) ∙ ap (λ fs. let m : Lineup = record { period = l.period; capacity = l.capacity; waiting = l.waiting; fixed = fs } in m) (without-insert_fixed a l.fixed b)

-- `a` is one of them, and no other has its number
abbrev pub IsOneFixed : Placed → List Placed → Type 0
IsOneFixed a [] = ⊥
IsOneFixed a (x ∷ xs) = ((x ≡ a) × NoneFixed a.flight xs) ⊎ ((x.flight ≡ a.flight → ⊥) × IsOneFixed a xs)

insert_fixed-first : (a : Placed) (xs : List Placed) → AllByRecursion (λ y. a.slot < y.slot) xs → insert_fixed a xs ≡ a ∷ xs
insert_fixed-first a [] s = refl
insert_fixed-first a (x ∷ xs) s = ap (λ b. cond b (x ∷ insert_fixed a xs) (a ∷ x ∷ xs)) (le-ltb x.slot a.slot (omega (arith, s.0)))

later-fixed : (x a : Placed) (xs : List Placed) → AllByRecursion (λ y. x.slot < y.slot) xs → IsOneFixed a xs → x.slot < a.slot
later-fixed x a [] s o = absurd o
later-fixed x a (y ∷ xs) s (inl q) = (let here = ap (λ v. v.slot) q.0 in omega (arith, s.0, here))
later-fixed x a (y ∷ xs) s (inr q) = later-fixed x a xs s.1 q.1

insert-without_fixed : (a : Placed) (xs : List Placed) → BySlot xs → IsOneFixed a xs → insert_fixed a (without_fixed a.flight xs) ≡ xs
insert-without_fixed a [] s o = absurd o
insert-without_fixed a (x ∷ xs) s (inl q) =
    let gone : without_fixed a.flight (x ∷ xs) ≡ xs = without_fixed-here a.flight x xs (ap (λ u. u.flight) q.0) ∙ without_fixed-none a.flight xs q.1 in
    ap (insert_fixed a) gone ∙ (ap (λ u. insert_fixed u xs) (sym q.0) ∙ insert_fixed-first x xs s.0)
insert-without_fixed a (x ∷ xs) s (inr q) =
    let again = insert-without_fixed a xs s.1 q.1 in
    let before = lt-ltb x.slot a.slot (later-fixed x a xs s.0 q.1) in
    ap (insert_fixed a) (without_fixed-other a.flight x xs q.0) ∙ (ap (λ b. cond b (x ∷ insert_fixed a (without_fixed a.flight xs)) (a ∷ x ∷ without_fixed a.flight xs)) before ∙ ap (λ u. x ∷ u) again)

-- a frozen flight that was taken out is put back into its slot
pub without_flight-put_back : (a : Placed) (l : Lineup) → BySlot l.fixed → IsOneFixed a l.fixed → NoneIs a.flight l.waiting → with_fixed a (without_flight a.flight l) ≡ l
without_flight-put_back a l s o n =
    ap (λ ws. let m : Lineup = record { period = l.period; capacity = l.capacity; waiting = ws; fixed = insert_fixed a (without_fixed a.flight l.fixed) } in m) (without-none a.flight l.waiting n) ∙ ap (λ fs. let m : Lineup = record { period = l.period; capacity = l.capacity; waiting = l.waiting; fixed = fs } in m) (insert-without_fixed a l.fixed s o)

without-twice : (f : ℕ) (ws : List Planned) → without f (without f ws) ≡ without f ws
without-twice f [] = refl
without-twice f (w ∷ ws) = cases (without-twice f ws) (eqb w.flight f) refl where
  cases : without f (without f ws) ≡ without f ws → (b : Bool) → eqb w.flight f ≡ b → without f (cond (not b) (w ∷ without f ws) (without f ws)) ≡ cond (not b) (w ∷ without f ws) (without f ws)
  cases again true e = again
  cases again false e = ap (λ b. cond (not b) (w ∷ without f (without f ws)) (without f (without f ws))) e ∙ ap (λ u. w ∷ u) again

-- a flight that was frozen in its provisional slot is provisional again
pub fixed_at-undone : (w : Planned) (k : ℕ) (l : Lineup) → InOrder l.waiting → IsOne w l.waiting → NoneFixed w.flight l.fixed → with_waiting w (without_flight w.flight (fixed_at (record { flight = w.flight; slot = k }) l)) ≡ l
fixed_at-undone w k l s o n =
    ap (λ ws. let m : Lineup = record { period = l.period; capacity = l.capacity; waiting = insert w ws; fixed = without_fixed w.flight (insert_fixed (record { flight = w.flight; slot = k }) l.fixed) } in m) (without-twice w.flight l.waiting) ∙ (ap (λ ws. let m : Lineup = record { period = l.period; capacity = l.capacity; waiting = ws; fixed = without_fixed w.flight (insert_fixed (record { flight = w.flight; slot = k }) l.fixed) } in m) (insert-without w l.waiting s o) ∙ ap (λ fs. let m : Lineup = record { period = l.period; capacity = l.capacity; waiting = l.waiting; fixed = fs } in m) (without-insert_fixed (record { flight = w.flight; slot = k }) l.fixed n))
