-- A flight leaves its slot, and the row is settled without it.
use Rattle.std.proofs.Common.{◌≡◌, ℕ, zero, suc, ◌+◌, ◌<◌, ◌++◌, true, false, not, cond, eqb, List, [], ◌∷◌, length, take, drop, Option, None, Some, refl, sym, ap, subst, ◌∙◌, add-one, arith}
use Rattle.std.proofs.lemmas.Bool.{eq-eqb, ne_eqb}
use Rattle.std.proofs.lemmas.List.{length-drop}
use Rattle.flow_slots.specs.declared.cell.Planned.{Planned}
use Rattle.flow_slots.specs.declared.cell.Cell.{Cell}
use Rattle.flow_slots.specs.declared.cell.Cell.TheVariants.{Empty, Waiting, Fixed}
use Rattle.flow_slots.specs.Period.{Period, first_slot}
use Rattle.flow_slots.specs.Order.{without}
use Rattle.flow_slots.specs.Assignment.{Placed}
use Rattle.flow_slots.specs.Row.{waiting_of, fixed_of, flight_at, place_at, NoneBefore, AllAfter, AllWithin, IsSettledRow, IsTied}
use Rattle.flow_slots.specs.Walk.{next_up, moved_up, shift, close}
use Rattle.flow_slots.specs.Lineup.{Lineup, IsKept, without_fixed, without_flight}
use Rattle.flow_slots.proofs.Chain.{IsMonotone, close-closes}
use Rattle.flow_slots.proofs.Held.{IsAway, StandsOnlyAt, IsAway-tail, IsAway-after, StandsOnlyAt-tail, StandsOnlyAt-first}
use Rattle.flow_slots.proofs.Kept.{lineup_of, length-parts}
use Rattle.flow_slots.proofs.Periods.{first_slot-monotone}
use Rattle.flow_slots.proofs.Tied.{flight_at-within}

pub without-here : (f : ℕ) (w : Planned) (ws : List Planned) → w.flight ≡ f → without f (w ∷ ws) ≡ without f ws
without-here f w ws e = ap (λ b. cond (not b) (w ∷ without f ws) (without f ws)) (eq-eqb w.flight f e)

pub without-other : (f : ℕ) (w : Planned) (ws : List Planned) → (w.flight ≡ f → ⊥) → without f (w ∷ ws) ≡ w ∷ without f ws
without-other f w ws ne = ap (λ b. cond (not b) (w ∷ without f ws) (without f ws)) (ne_eqb w.flight f ne)

without_fixed-here : (f : ℕ) (a : Placed) (xs : List Placed) → a.flight ≡ f → without_fixed f (a ∷ xs) ≡ without_fixed f xs
without_fixed-here f a xs e = ap (λ b. cond (not b) (a ∷ without_fixed f xs) (without_fixed f xs)) (eq-eqb a.flight f e)

without_fixed-other : (f : ℕ) (a : Placed) (xs : List Placed) → (a.flight ≡ f → ⊥) → without_fixed f (a ∷ xs) ≡ a ∷ without_fixed f xs
without_fixed-other f a xs ne = ap (λ b. cond (not b) (a ∷ without_fixed f xs) (without_fixed f xs)) (ne_eqb a.flight f ne)

-- a flight that has no slot is missed by nobody
pub without-away : (f : ℕ) (cs : List Cell) → IsAway f cs → without f (waiting_of cs) ≡ waiting_of cs
without-away f [] a = refl
without-away f (Empty ∷ cs) a = without-away f cs (IsAway-tail f Empty cs a)
without-away f (Fixed g ∷ cs) a = without-away f cs (IsAway-tail f (Fixed g) cs a)
without-away f (Waiting w ∷ cs) a =
    without-other f w (waiting_of cs) (λ e. a 0 (ap Some e)) ∙ ap (λ ws. w ∷ ws) (without-away f cs (IsAway-tail f (Waiting w) cs a))

without_fixed-away : (f o : ℕ) (cs : List Cell) → IsAway f cs → without_fixed f (fixed_of o cs) ≡ fixed_of o cs
without_fixed-away f o [] a = refl
without_fixed-away f o (Empty ∷ cs) a = without_fixed-away f (o + 1) cs (IsAway-tail f Empty cs a)
without_fixed-away f o (Waiting w ∷ cs) a = without_fixed-away f (o + 1) cs (IsAway-tail f (Waiting w) cs a)
without_fixed-away f o (Fixed g ∷ cs) a =
    without_fixed-other f (record { flight = g; slot = o }) (fixed_of (o + 1) cs) (λ e. a 0 (ap Some e)) ∙ ap (λ xs. record { flight = g; slot = o } ∷ xs) (without_fixed-away f (o + 1) cs (IsAway-tail f (Fixed g) cs a))

pub NoneBefore-without : (f : ℕ) (x : Planned) (ws : List Planned) → NoneBefore x ws → NoneBefore x (without f ws)
NoneBefore-without f x [] a = tt
NoneBefore-without f x (w ∷ ws) a =
    elim (not (eqb w.flight f)) as (λ b. NoneBefore x (cond b (w ∷ without f ws) (without f ws))) [ true ↦ (a.0, NoneBefore-without f x ws a.1) | false ↦ NoneBefore-without f x ws a.1 ]

pub AllAfter-without : (first : ℕ → ℕ) (k f : ℕ) (ws : List Planned) → AllAfter first k ws → AllAfter first k (without f ws)
AllAfter-without first k f [] a = tt
AllAfter-without first k f (w ∷ ws) a =
    elim (not (eqb w.flight f)) as (λ b. AllAfter first k (cond b (w ∷ without f ws) (without f ws))) [ true ↦ (a.0, AllAfter-without first k f ws a.1) | false ↦ AllAfter-without first k f ws a.1 ]

pub AllWithin-without : (p : Period) (f : ℕ) (ws : List Planned) → AllWithin p ws → AllWithin p (without f ws)
AllWithin-without p f [] a = tt
AllWithin-without p f (w ∷ ws) a =
    elim (not (eqb w.flight f)) as (λ b. AllWithin p (cond b (w ∷ without f ws) (without f ws))) [ true ↦ (a.0, AllWithin-without p f ws a.1) | false ↦ AllWithin-without p f ws a.1 ]

-- what becomes of a row that flight `f` leaves
pub record Leaves (first : ℕ → ℕ) (o f : ℕ) (cs new : List Cell) : Type 0 where
  pub settled : IsSettledRow first o new
  pub waiting : waiting_of new ≡ without f (waiting_of cs)
  pub fixed : fixed_of o new ≡ without_fixed f (fixed_of o cs)

leaves : (first : ℕ → ℕ) (mono : IsMonotone first) (o f k i : ℕ) (cs : List Cell) → i ≡ o + k → flight_at cs k ≡ Some f → StandsOnlyAt f k cs → IsSettledRow first o cs → Leaves first o f cs (take k cs ++ close first i (drop (suc k) cs))
leaves first mono o f k i [] q e a s = cc
leaves first mono o f zero i (Empty ∷ cs) q e a s = cc
leaves first mono o f zero i (Fixed g ∷ cs) q e a s =
    let here : g ≡ f = cc in
    let at : o ≡ i = omega arith in
    let away = IsAway-after f (Fixed g) cs a in
    let r = close-closes first mono o cs s in
    subst (λ j. Leaves first o f (Fixed g ∷ cs) (close first j cs)) at
    (record {
      settled = r.settled;
      waiting = r.waiting ∙ sym (without-away f cs away);
      fixed = r.fixed ∙ sym (without_fixed-here f (record { flight = g; slot = o }) (fixed_of (o + 1) cs) here ∙ without_fixed-away f (o + 1) cs away);
    })
leaves first mono o f zero i (Waiting w ∷ cs) q e a s =
    let here : w.flight ≡ f = cc in
    let at : o ≡ i = omega arith in
    let away = IsAway-after f (Waiting w) cs a in
    let r = close-closes first mono o cs s.2 in
    subst (λ j. Leaves first o f (Waiting w ∷ cs) (close first j cs)) at
    (record {
      settled = r.settled;
      waiting = r.waiting ∙ sym (without-here f w (waiting_of cs) here ∙ without-away f cs away);
      fixed = r.fixed ∙ sym (without_fixed-away f (o + 1) cs away);
    })
leaves first mono o f (suc k) i (Empty ∷ cs) q e a s =
    let r = leaves first mono (o + 1) f k i cs (omega arith) e (StandsOnlyAt-tail f k Empty cs a) s.1 in
    let late : AllAfter first o (waiting_of (take k cs ++ close first i (drop (suc k) cs))) = rw r.waiting (AllAfter-without first o f (waiting_of cs) s.0) in
    record { settled = (late, r.settled); waiting = r.waiting; fixed = r.fixed }
leaves first mono o f (suc k) i (Fixed g ∷ cs) q e a s =
    let r = leaves first mono (o + 1) f k i cs (omega arith) e (StandsOnlyAt-tail f k (Fixed g) cs a) s in
    let other = without_fixed-other f (record { flight = g; slot = o }) (fixed_of (o + 1) cs) (λ u. StandsOnlyAt-first f k (Fixed g) cs a (ap Some u)) in
    record { settled = r.settled; waiting = r.waiting; fixed = ap (λ xs. record { flight = g; slot = o } ∷ xs) r.fixed ∙ sym other }
leaves first mono o f (suc k) i (Waiting w ∷ cs) q e a s =
    let r = leaves first mono (o + 1) f k i cs (omega arith) e (StandsOnlyAt-tail f k (Waiting w) cs a) s.2 in
    let other = without-other f w (waiting_of cs) (λ u. StandsOnlyAt-first f k (Waiting w) cs a (ap Some u)) in
    let order : NoneBefore w (waiting_of (take k cs ++ close first i (drop (suc k) cs))) = rw r.waiting (NoneBefore-without f w (waiting_of cs) s.1) in
    record { settled = (s.0, order, r.settled); waiting = ap (λ ws. w ∷ ws) r.waiting ∙ sym other; fixed = r.fixed }

-- the same by the code's `k + 1`, for a row whose places are known
pub row-leaves : (p : Period) (capacity f k : ℕ) (row : List Cell) (places : List (Option ℕ)) → IsKept p capacity row places → flight_at row k ≡ Some f → Leaves (λ e. first_slot p e) 0 f row (take k row ++ close (λ e. first_slot p e) k (drop (k + 1) row))
row-leaves p capacity f k row places kept e =
    let only : StandsOnlyAt f k row = λ j q. (let here : place_at places f ≡ Some k = (kept.tied.each f k).1 e in let there : place_at places f ≡ Some j = (kept.tied.each f j).1 q in cc) in
    let r = leaves (λ v. first_slot p v) (first_slot-monotone p) 0 f k k row (omega arith) e only kept.settled in
    subst (λ n. Leaves (λ v. first_slot p v) 0 f row (take k row ++ close (λ v. first_slot p v) k (drop n row))) (sym (add-one k)) r

length-moved_up : (o : Option Planned) (shifted cs : List Cell) → length shifted ≡ length cs → length (moved_up o shifted cs) ≡ suc (length cs)
length-moved_up None shifted cs e = refl
length-moved_up (Some w) shifted cs e = ap suc e

length-shift : (first : ℕ → ℕ) (k : ℕ) (cs : List Cell) → length (shift first k cs) ≡ length cs
length-shift first k [] = refl
length-shift first k (Empty ∷ cs) = refl
length-shift first k (Fixed f ∷ cs) = ap suc (length-shift first (k + 1) cs)
length-shift first k (Waiting w ∷ cs) = length-moved_up (next_up first k cs) (shift first (k + 1) cs) cs (length-shift first (k + 1) cs)

length-closed : (first : ℕ → ℕ) (k : ℕ) (row : List Cell) → k < length row → length (take k row ++ close first k (drop (k + 1) row)) ≡ length row
length-closed first k row h =
    length-parts k row _ (length-moved_up (next_up first k (drop (k + 1) row)) (shift first (k + 1) (drop (k + 1) row)) (drop (k + 1) row) (length-shift first (k + 1) (drop (k + 1) row)) ∙ omega (arith, length-drop k row, length-drop (k + 1) row))

pub IsKept-leave : (p : Period) (capacity f k : ℕ) (row new : List Cell) (places after : List (Option ℕ)) → IsKept p capacity row places → flight_at row k ≡ Some f → new ≡ take k row ++ close (λ e. first_slot p e) k (drop (k + 1) row) → IsTied after new → length after ≡ length places → IsKept p capacity new after
IsKept-leave p capacity f k row new places after kept e is tied len =
    let r = row-leaves p capacity f k row places kept e in
    let all : AllWithin p (waiting_of (take k row ++ close (λ v. first_slot p v) k (drop (k + 1) row))) = rw r.waiting (AllWithin-without p f (waiting_of row) kept.entries) in
    record {
      settled = rw is r.settled;
      tied = tied;
      entries = rw is all;
      len = ap length is ∙ (length-closed (λ v. first_slot p v) k row (flight_at-within row k f e) ∙ kept.len);
      places_len = len ∙ kept.places_len;
      regular = kept.regular;
      some_flight = kept.some_flight;
      flights = kept.flights;
    }

pub lineup-leave : (p : Period) (capacity f k : ℕ) (row new : List Cell) (places : List (Option ℕ)) → IsKept p capacity row places → flight_at row k ≡ Some f → new ≡ take k row ++ close (λ e. first_slot p e) k (drop (k + 1) row) → lineup_of p capacity new ≡ without_flight f (lineup_of p capacity row)
lineup-leave p capacity f k row new places kept e is =
    let r = row-leaves p capacity f k row places kept e in
    let w : waiting_of new ≡ without f (waiting_of row) = ap waiting_of is ∙ r.waiting in
    let x : fixed_of 0 new ≡ without_fixed f (fixed_of 0 row) = ap (fixed_of 0) is ∙ r.fixed in
    ap (λ ws. let l : Lineup = record { period = p; capacity = capacity; waiting = ws; fixed = fixed_of 0 new } in l) w ∙ ap (λ fs. let l : Lineup = record { period = p; capacity = capacity; waiting = without f (waiting_of row); fixed = fs } in l) x
