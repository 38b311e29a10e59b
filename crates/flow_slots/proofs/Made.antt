-- A row of empty cells.
use Rattle.std.proofs.Common.{◌≡◌, ℕ, zero, suc, ◌+◌, ◌<◌, ◌≤◌, List, [], replicate, Option, None, refl, ap, ◌∙◌}
use Rattle.std.proofs.lemmas.List.{length-replicate}
use Rattle.flow_slots.specs.declared.cell.Cell.{Cell}
use Rattle.flow_slots.specs.declared.cell.Cell.TheVariants.{Empty}
use Rattle.flow_slots.specs.Period.{Period, IsRegular, first_slot, slots_before_end}
use Rattle.flow_slots.specs.Row.{waiting_of, fixed_of, flight_at, place_at, AllAfter, IsSettledRow, IsTied}
use Rattle.flow_slots.specs.Cells.{CellsView}
use Rattle.flow_slots.specs.Lineup.{Lineup, SlotListView, IsKept}
use Rattle.flow_slots.proofs.Kept.{lineup_of}

waiting_of-empty : (n : ℕ) → waiting_of (replicate n Empty) ≡ []
waiting_of-empty zero = refl
waiting_of-empty (suc n) = waiting_of-empty n

fixed_of-empty : (k n : ℕ) → fixed_of k (replicate n Empty) ≡ []
fixed_of-empty k zero = refl
fixed_of-empty k (suc n) = fixed_of-empty (k + 1) n

IsSettled-empty : (first : ℕ → ℕ) (k n : ℕ) → IsSettledRow first k (replicate n Empty)
IsSettled-empty first k zero = tt
IsSettled-empty first k (suc n) =
    let none : AllAfter first k (waiting_of (replicate n Empty)) = rw waiting_of-empty tt in
    (none, IsSettled-empty first (k + 1) n)

flight_at-empty : (n k : ℕ) → flight_at (replicate n Empty) k ≡ None
flight_at-empty zero k = refl
flight_at-empty (suc n) zero = refl
flight_at-empty (suc n) (suc k) = flight_at-empty n k

place_at-empty : (n f : ℕ) → place_at (replicate n None) f ≡ None
place_at-empty zero f = refl
place_at-empty (suc n) zero = refl
place_at-empty (suc n) (suc f) = place_at-empty n f

IsTied-empty : (m n : ℕ) → IsTied (replicate m None) (replicate n Empty)
IsTied-empty m n =
    record {
      each = λ f k. ((λ e. let none = place_at-empty m f in cc), (λ e. let none = flight_at-empty n k in cc));
      unused = place_at-empty m 0;
    }

pub IsKept-new : (p : Period) (capacity : ℕ) (row : List Cell) (places : List (Option ℕ)) → IsRegular p → 0 < capacity → capacity ≤ 20000 → row ≡ replicate (slots_before_end p + capacity) Empty → places ≡ replicate (capacity + 1) None → IsKept p capacity row places
IsKept-new p capacity row places regular some most is are =
    let n = slots_before_end p + capacity in
    rw (is, are) (record {
      settled = IsSettled-empty (λ e. first_slot p e) 0 n;
      tied = IsTied-empty (capacity + 1) n;
      entries = rw waiting_of-empty tt;
      len = length-replicate n Empty;
      places_len = length-replicate (capacity + 1) None;
      regular = regular;
      some_flight = some;
      flights = most;
    })

pub lineup-new : (p : Period) (capacity n : ℕ) (row : List Cell) → row ≡ replicate n Empty → lineup_of p capacity row ≡ record { period = p; capacity = capacity; waiting = []; fixed = [] }
lineup-new p capacity n row is =
    let w : waiting_of row ≡ [] = ap waiting_of is ∙ waiting_of-empty n in
    let f : fixed_of 0 row ≡ [] = ap (fixed_of 0) is ∙ fixed_of-empty 0 n in
    ap (λ ws. let l : Lineup = record { period = p; capacity = capacity; waiting = ws; fixed = fixed_of 0 row } in l) w ∙ ap (λ fs. let l : Lineup = record { period = p; capacity = capacity; waiting = []; fixed = fs } in l) f

pub slots-new : (p : Period) (capacity n start : ℕ) (cells : CellsView) → cells ≡ record { row = replicate n Empty; writes = 0; start = start } → (let s : SlotListView = record { lineup = lineup_of p capacity cells.row; writes = cells.writes } in s) ≡ record { lineup = record { period = p; capacity = capacity; waiting = []; fixed = [] }; writes = 0 }
slots-new p capacity n start cells is =
    let l = lineup-new p capacity n cells.row (ap (λ c. c.row) is) in
    let w : cells.writes ≡ 0 = ap (λ c. c.writes) is in
    ap (λ v. let s : SlotListView = record { lineup = v; writes = cells.writes } in s) l ∙ ap (λ v. let s : SlotListView = record { lineup = record { period = p; capacity = capacity; waiting = []; fixed = [] }; writes = v } in s) w
