-- A row of slots, read from the left, and the lineup that it represents.
use Rattle.std.specs.Prelude.{◌≡◌, ℕ, ◌+◌, ◌<◌, ◌≤◌, ◌↔◌, false, List, [], ◌∷◌, Option, None, Some, slice_index_or, length}
use Rattle.std.specs.List.{AllByRecursion}
use Rattle.flow_slots.specs.declared.cell.Planned.{Planned}
use Rattle.flow_slots.specs.declared.cell.Cell.{Cell}
use Rattle.flow_slots.specs.declared.cell.Cell.TheVariants.{Empty, Waiting, Fixed}
use Rattle.flow_slots.specs.Order.{stands_before}
use Rattle.flow_slots.specs.Assignment.{Placed}
use Rattle.flow_slots.specs.Period.{Period, IsWithin, first_slot}

-- the provisional flights
abbrev pub waiting_of : List Cell → List Planned
waiting_of [] = []
waiting_of (Empty ∷ cs) = waiting_of cs
waiting_of (Waiting w ∷ cs) = w ∷ waiting_of cs
waiting_of (Fixed f ∷ cs) = waiting_of cs

-- the frozen flights with their slots, if the row begins with slot `k`
abbrev pub fixed_of : ℕ → List Cell → List Placed
fixed_of k [] = []
fixed_of k (Empty ∷ cs) = fixed_of (k + 1) cs
fixed_of k (Waiting w ∷ cs) = fixed_of (k + 1) cs
fixed_of k (Fixed f ∷ cs) = record { flight = f; slot = k } ∷ fixed_of (k + 1) cs

-- the provisional flights with their slots, if the row begins with slot `k`
abbrev pub placed_of : ℕ → List Cell → List Placed
placed_of k [] = []
placed_of k (Empty ∷ cs) = placed_of (k + 1) cs
placed_of k (Waiting w ∷ cs) = record { flight = w.flight; slot = k } ∷ placed_of (k + 1) cs
placed_of k (Fixed f ∷ cs) = placed_of (k + 1) cs

-- no provisional flight of the list precedes `w` in the order
abbrev pub NoneBefore : Planned → List Planned → Type 0
NoneBefore w ws = AllByRecursion (λ v. stands_before v w ≡ false) ws

-- the first slots of all of the list are after slot `k`
abbrev pub AllAfter : (ℕ → ℕ) → ℕ → List Planned → Type 0
AllAfter first k ws = AllByRecursion (λ v. k < first v.entry) ws

-- In a settled row that begins with slot `k`, no later flight could be in an empty slot; a
-- provisional flight isn't before its first slot, and is in the order.
abbrev pub IsSettledRow : (ℕ → ℕ) → ℕ → List Cell → Type 0
IsSettledRow first k [] = Unit {0}
IsSettledRow first k (Empty ∷ cs) = AllAfter first k (waiting_of cs) × IsSettledRow first (k + 1) cs
IsSettledRow first k (Waiting w ∷ cs) =
    (first w.entry ≤ k) × NoneBefore w (waiting_of cs) × IsSettledRow first (k + 1) cs
IsSettledRow first k (Fixed f ∷ cs) = IsSettledRow first (k + 1) cs

-- the flight in a cell
abbrev pub flight_of : Cell → Option ℕ
flight_of Empty = None
flight_of (Waiting w) = Some w.flight
flight_of (Fixed f) = Some f

-- the cell and the flight at slot `k`
abbrev pub cell_at : List Cell → ℕ → Cell
cell_at row k = slice_index_or row k Empty

abbrev pub flight_at : List Cell → ℕ → Option ℕ
flight_at row k = flight_of (cell_at row k)

-- `places` has for each flight, by its number, the cell of the row that it is in; no flight has the
-- number 0
abbrev pub place_at : List (Option ℕ) → ℕ → Option ℕ
place_at places flight = slice_index_or places flight None

pub record IsTied (places : List (Option ℕ)) (row : List Cell) : Type 0 where
  pub each : (flight k : ℕ) → (place_at places flight ≡ Some k) ↔ (flight_at row k ≡ Some flight)
  pub unused : place_at places 0 ≡ None

-- the entries of the provisional flights are in the period
abbrev pub AllWithin : Period → List Planned → Type 0
AllWithin p ws = AllByRecursion (λ w. IsWithin p w.entry) ws

abbrev pub EntriesWithin : Period → List Cell → Type 0
EntriesWithin p row = (k : ℕ) (w : Planned) → cell_at row k ≡ Waiting w → IsWithin p w.entry

abbrev pub IsFixedCell : Cell → Type 0
IsFixedCell Empty = ⊥
IsFixedCell (Waiting w) = ⊥
IsFixedCell (Fixed f) = Unit {0}

-- `held` is provisional in slot `next`, with only frozen slots between `hole` and that, and may be
-- in `hole`
pub record MovesUp (p : Period) (row : List Cell) (hole next : ℕ) (held : Planned) : Type 0 where
  pub after : hole < next
  pub within : next < length row
  pub stands : cell_at row next ≡ Waiting held
  pub early : first_slot p held.entry ≤ hole
  pub between : (j : ℕ) → hole < j → j < next → IsFixedCell (cell_at row j)
