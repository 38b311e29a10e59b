-- What a change of the row keeps.
use Rattle.std.proofs.Common.{◌≡◌, ℕ, zero, suc, ◌<◌, ◌≤◌, ◌++◌, true, false, cond, List, [], ◌∷◌, length, take, drop, Option, None, refl, sym, ap, subst, ◌∙◌, arith}
use Rattle.flow_slots.specs.declared.cell.Planned.{Planned}
use Rattle.flow_slots.specs.declared.cell.Cell.{Cell}
use Rattle.flow_slots.specs.declared.cell.Cell.TheVariants.{Empty, Waiting, Fixed}
use Rattle.flow_slots.specs.Period.{Period, IsWithin, first_slot}
use Rattle.flow_slots.specs.Order.{stands_before, insert}
use Rattle.flow_slots.specs.Row.{waiting_of, fixed_of, place_at, IsTied, AllWithin, EntriesWithin}
use Rattle.flow_slots.specs.Walk.{displace, has_empty}
use Rattle.flow_slots.specs.Lineup.{Lineup, IsKept, held_slot, with_waiting}
use Rattle.flow_slots.proofs.Chain.{TakesIn, enter-takes_in}
use Rattle.flow_slots.proofs.Held.{held_slot-is}
use Rattle.flow_slots.proofs.Periods.{first_slot-monotone}
use Rattle.flow_slots.proofs.Room.{room, first_slot-early}

AllWithin-insert : (p : Period) (x : Planned) (ws : List Planned) → IsWithin p x.entry → AllWithin p ws → AllWithin p (insert x ws)
AllWithin-insert p x [] h a = (h, tt)
AllWithin-insert p x (w ∷ ws) h a =
    elim (stands_before w x) as (λ b. AllWithin p (cond b (w ∷ insert x ws) (x ∷ w ∷ ws))) [ true ↦ (a.0, AllWithin-insert p x ws h a.1) | false ↦ (h, a) ]

pub EntriesWithin-row : (p : Period) (row : List Cell) → AllWithin p (waiting_of row) → EntriesWithin p row
EntriesWithin-row p [] a k w e = cc
EntriesWithin-row p (Empty ∷ cs) a zero w e = cc
EntriesWithin-row p (Fixed f ∷ cs) a zero w e = cc
EntriesWithin-row p (Waiting v ∷ cs) a zero w e =
    let same : v ≡ w = cc in subst (λ u. IsWithin p u.entry) same a.0
EntriesWithin-row p (Empty ∷ cs) a (suc k) w e = EntriesWithin-row p cs a k w e
EntriesWithin-row p (Fixed f ∷ cs) a (suc k) w e = EntriesWithin-row p cs a k w e
EntriesWithin-row p (Waiting v ∷ cs) a (suc k) w e = EntriesWithin-row p cs a.1 k w e

pub length-displace : (x : Planned) (cs : List Cell) → length (displace x cs) ≡ length cs
length-displace x [] = refl
length-displace x (Empty ∷ cs) = refl
length-displace x (Fixed f ∷ cs) = ap suc (length-displace x cs)
length-displace x (Waiting w ∷ cs) =
    elim (stands_before w x) as (λ b. length (cond b (Waiting w ∷ displace x cs) (Waiting x ∷ displace w cs)) ≡ suc (length cs)) [ true ↦ ap suc (length-displace x cs) | false ↦ ap suc (length-displace w cs) ]

pub length-parts : (n : ℕ) (row cs : List Cell) → length cs ≡ length (drop n row) → length (take n row ++ cs) ≡ length row
length-parts zero row cs e = e
length-parts (suc n) [] cs e = e
length-parts (suc n) (c ∷ row) cs e = ap suc (length-parts n row cs e)

-- a flight is inserted at its first slot
pub insert-takes_in : (p : Period) (capacity : ℕ) (row : List Cell) (places : List (Option ℕ)) (x : Planned) → IsKept p capacity row places → has_empty (drop (first_slot p x.entry) row) ≡ true → TakesIn (λ e. first_slot p e) 0 x row (take (first_slot p x.entry) row ++ displace x (drop (first_slot p x.entry) row))
insert-takes_in p capacity row places x kept room =
    enter-takes_in (λ e. first_slot p e) (first_slot-monotone p) 0 (first_slot p x.entry) x row (omega arith) room kept.settled

pub IsKept-insert : (p : Period) (capacity : ℕ) (row new : List Cell) (places after : List (Option ℕ)) (x : Planned) → IsKept p capacity row places → has_empty (drop (first_slot p x.entry) row) ≡ true → IsWithin p x.entry → new ≡ take (first_slot p x.entry) row ++ displace x (drop (first_slot p x.entry) row) → IsTied after new → length after ≡ length places → IsKept p capacity new after
IsKept-insert p capacity row new places after x kept room within is tied len =
    let from = first_slot p x.entry in
    let r = insert-takes_in p capacity row places x kept room in
    let all : AllWithin p (waiting_of (take from row ++ displace x (drop from row))) = rw r.waiting (AllWithin-insert p x (waiting_of row) within kept.entries) in
    let same : length new ≡ length row = ap length is ∙ length-parts from row _ (length-displace x (drop from row)) in
    record {
      settled = rw is r.settled;
      tied = tied;
      entries = rw is all;
      len = same ∙ kept.len;
      places_len = len ∙ kept.places_len;
      regular = kept.regular;
      some_flight = kept.some_flight;
      flights = kept.flights;
    }

-- the lineup that a row represents
abbrev pub lineup_of : Period → ℕ → List Cell → Lineup
lineup_of p capacity row = record { period = p; capacity = capacity; waiting = waiting_of row; fixed = fixed_of 0 row }

pub lineup-insert : (p : Period) (capacity : ℕ) (row new : List Cell) (places : List (Option ℕ)) (x : Planned) → IsKept p capacity row places → has_empty (drop (first_slot p x.entry) row) ≡ true → new ≡ take (first_slot p x.entry) row ++ displace x (drop (first_slot p x.entry) row) → lineup_of p capacity new ≡ with_waiting x (lineup_of p capacity row)
lineup-insert p capacity row new places x kept room is =
    let r = insert-takes_in p capacity row places x kept room in
    let w : waiting_of new ≡ insert x (waiting_of row) = ap waiting_of is ∙ r.waiting in
    let f : fixed_of 0 new ≡ fixed_of 0 row = ap (fixed_of 0) is ∙ r.fixed in
    ap (λ ws. let l : Lineup = record { period = p; capacity = capacity; waiting = ws; fixed = fixed_of 0 new } in l) w ∙ ap (λ fs. let l : Lineup = record { period = p; capacity = capacity; waiting = insert x (waiting_of row); fixed = fs } in l) f

-- What a call for a flight without a slot finds: the table has none for it, and there is capacity.
pub record MayComeIn (p : Period) (row : List Cell) (places : List (Option ℕ)) (x : Planned) : Type 0 where
  pub absent : place_at places x.flight ≡ None
  pub some : 0 < x.flight
  pub number : x.flight < length places
  pub within : IsWithin p x.entry
  pub room : has_empty (drop (first_slot p x.entry) row) ≡ true

pub may_come_in : (p : Period) (capacity : ℕ) (row : List Cell) (places : List (Option ℕ)) (x : Planned) (l : Lineup) → IsKept p capacity row places → lineup_of p capacity row ≡ l → held_slot l x.flight ≡ None → 0 < x.flight → x.flight ≤ l.capacity → IsWithin l.period x.entry → MayComeIn p row places x
may_come_in p capacity row places x l kept e none some most within =
    let absent : place_at places x.flight ≡ None =
    sym (held_slot-is p capacity capacity row places x.flight kept) ∙ (ap (λ v. held_slot v x.flight) e ∙ none) in
    let most' : x.flight ≤ capacity = subst (λ v. x.flight ≤ v.capacity) (sym e) most in
    let within' : IsWithin p x.entry = subst (λ v. IsWithin v.period x.entry) (sym e) within in
    record {
      absent = absent;
      some = some;
      number = omega (arith, kept.places_len);
      within = within';
      room = room p capacity row places x.flight (first_slot p x.entry) kept some most' absent (first_slot-early p x.entry within');
    }
