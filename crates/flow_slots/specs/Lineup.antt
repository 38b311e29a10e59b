-- What a slot list represents (ATFCM Users Manual, slot allocation): the flights with provisional
-- slots, and those with frozen ones.
use Rattle.std.specs.Prelude.{◌≡◌, ℕ, ◌+◌, ◌<◌, ◌≤◌, not, true, ◌==◌, nat_lt, if◌then◌else◌, List, [], ◌∷◌, ◌++◌, length, filter, Option, None, Some}
use Rattle.std.specs.List.{AllByRecursion}
use Rattle.flow_slots.specs.declared.cell.Planned.{Planned}
use Rattle.flow_slots.specs.declared.cell.Cell.{Cell}
use Rattle.flow_slots.specs.Period.{Period, IsRegular, first_slot, slots_before_end, most_flights}
use Rattle.flow_slots.specs.Order.{stands_before, insert, without}
use Rattle.flow_slots.specs.Assignment.{Placed, greedy, slots}
use Rattle.flow_slots.specs.Row.{waiting_of, IsSettledRow, IsTied, AllWithin}

-- the provisional flights in the order, and the frozen ones with their slots, by slot; flights are
-- numbered from 1 to `capacity`
pub record Lineup : Type 0 where
  pub period : Period
  pub capacity : ℕ
  pub waiting : List Planned
  pub fixed : List Placed

-- the number of slots of the list
abbrev pub len_of : Lineup → ℕ
len_of l = slots_before_end l.period + l.capacity

-- the frozen flights in their slots, and the provisional ones afresh around them
abbrev pub assigned : Lineup → List Placed
assigned l = l.fixed ++ greedy (λ e. first_slot l.period e) (slots l.fixed) l.waiting

-- the slot of a flight, and the flight in a slot
abbrev pub slot_in : ℕ → List Placed → Option ℕ
slot_in flight [] = None
slot_in flight (a ∷ others) = if a.flight == flight then Some a.slot else slot_in flight others

abbrev pub flight_in : ℕ → List Placed → Option ℕ
flight_in slot [] = None
flight_in slot (a ∷ others) = if a.slot == slot then Some a.flight else flight_in slot others

abbrev pub held_slot : Lineup → ℕ → Option ℕ
held_slot l flight = slot_in flight (assigned l)

abbrev pub held_flight : Lineup → ℕ → Option ℕ
held_flight l slot = flight_in slot (assigned l)

abbrev pub fixed_slot : Lineup → ℕ → Option ℕ
fixed_slot l flight = slot_in flight l.fixed

-- the frozen flights but one
abbrev pub without_fixed : ℕ → List Placed → List Placed
without_fixed flight fs = filter (λ a. not (a.flight == flight)) fs

-- one more frozen flight, inserted by slot
abbrev pub insert_fixed : Placed → List Placed → List Placed
insert_fixed a [] = a ∷ []
insert_fixed a (b ∷ bs) = if nat_lt b.slot a.slot then b ∷ insert_fixed a bs else a ∷ b ∷ bs

-- the changes: each of one flight alone
abbrev pub with_waiting : Planned → Lineup → Lineup
with_waiting w l =
    record { period = l.period; capacity = l.capacity; waiting = insert w l.waiting; fixed = l.fixed }

abbrev pub with_fixed : Placed → Lineup → Lineup
with_fixed a l =
    record { period = l.period; capacity = l.capacity; waiting = l.waiting; fixed = insert_fixed a l.fixed }

abbrev pub without_flight : ℕ → Lineup → Lineup
without_flight flight l =
    record {
      period = l.period;
      capacity = l.capacity;
      waiting = without flight l.waiting;
      fixed = without_fixed flight l.fixed;
    }

-- a provisional flight is frozen in a slot
abbrev pub fixed_at : Placed → Lineup → Lineup
fixed_at a l =
    record {
      period = l.period;
      capacity = l.capacity;
      waiting = without a.flight l.waiting;
      fixed = insert_fixed a l.fixed;
    }

-- a lineup, and how often the cells of its row were written
pub record SlotListView : Type 0 where
  pub lineup : Lineup
  pub writes : ℕ

-- what a slot list stores of its row and of the slots of the flights
pub record IsKept (p : Period) (capacity : ℕ) (row : List Cell) (places : List (Option ℕ)) : Type 0 where
  pub settled : IsSettledRow (λ e. first_slot p e) 0 row
  pub tied : IsTied places row
  pub entries : AllWithin p (waiting_of row)
  pub len : length row ≡ slots_before_end p + capacity
  pub places_len : length places ≡ capacity + 1
  pub regular : IsRegular p
  pub some_flight : 0 < capacity
  pub flights : capacity ≤ most_flights

-- so is a row whose entries are counted from the start of the period
pub record IsKeptFrom (start : ℕ) (p : Period) (capacity : ℕ) (row : List Cell) (places : List (Option ℕ)) : Type 0 where
  pub kept : IsKept p capacity row places
  pub from : start ≡ p.start

-- the provisional flights are in the order, and the frozen ones by slot
abbrev pub InOrder : List Planned → Type 0
InOrder [] = Unit {0}
InOrder (w ∷ ws) = AllByRecursion (λ v. stands_before w v ≡ true) ws × InOrder ws

abbrev pub BySlot : List Placed → Type 0
BySlot [] = Unit {0}
BySlot (a ∷ others) = AllByRecursion (λ b. a.slot < b.slot) others × BySlot others

-- none of them has this number
abbrev pub NoneIs : ℕ → List Planned → Type 0
NoneIs flight ws = AllByRecursion (λ w. w.flight ≡ flight → ⊥) ws

abbrev pub NoneFixed : ℕ → List Placed → Type 0
NoneFixed flight xs = AllByRecursion (λ x. x.flight ≡ flight → ⊥) xs

-- no two flights have one number
abbrev pub FixedApart : List Placed → Type 0
FixedApart [] = Unit {0}
FixedApart (x ∷ xs) = NoneFixed x.flight xs × FixedApart xs

abbrev pub WaitingApart : List Placed → List Planned → Type 0
WaitingApart fixed [] = Unit {0}
WaitingApart fixed (w ∷ ws) = NoneFixed w.flight fixed × NoneIs w.flight ws × WaitingApart fixed ws

pub record IsLineup (l : Lineup) : Type 0 where
  pub in_order : InOrder l.waiting
  pub by_slot : BySlot l.fixed
  pub fixed_apart : FixedApart l.fixed
  pub waiting_apart : WaitingApart l.fixed l.waiting

-- the entry of a provisional flight
abbrev pub entry_in : ℕ → List Planned → Option ℕ
entry_in flight [] = None
entry_in flight (w ∷ ws) = if w.flight == flight then Some w.entry else entry_in flight ws

abbrev pub waiting_entry : Lineup → ℕ → Option ℕ
waiting_entry l flight = entry_in flight l.waiting

-- a lineup with these provisional flights and none frozen
abbrev pub with_all_waiting : List Planned → Lineup → Lineup
with_all_waiting ws l = record { period = l.period; capacity = l.capacity; waiting = ws; fixed = [] }

-- flights that may be inserted into an empty list at once: they are in the order, none twice, with
-- numbers from 1 to `capacity` and entries in the period
pub record MayFill (ws : List Planned) (l : Lineup) : Type 0 where
  pub none_waiting : l.waiting ≡ []
  pub none_fixed : l.fixed ≡ []
  pub lined : IsLineup (with_all_waiting ws l)
  pub numbers : AllByRecursion (λ w. (0 < w.flight) × (w.flight ≤ l.capacity)) ws
  pub entries : AllWithin l.period ws
