-- What the fresh allocation of a lineup is, however it is computed: one slot a flight, slots that
-- rise, and no free slot between a flight's entry and its slot.
use Rattle.std.specs.Prelude.{◌≡◌, ◌≢◌, ℕ, ◌<◌, ◌≤◌, ◌⊎◌, true, List, [], ◌∷◌, Some, IsSome}
use Rattle.std.specs.List.{AllByRecursion}
use Rattle.std.specs.Option.{IsSomeAnd}
use Rattle.flow_slots.specs.declared.cell.Planned.{Planned}
use Rattle.flow_slots.specs.Period.{IsRegular, slot_time}
use Rattle.flow_slots.specs.Order.{stands_before}
use Rattle.flow_slots.specs.Assignment.{Placed}
use Rattle.flow_slots.specs.Row.{AllWithin}
use Rattle.flow_slots.specs.Lineup.{Lineup, IsLineup, len_of, held_flight, fixed_slot, waiting_entry}

-- a number that a flight may have
abbrev pub IsNumber : Lineup → ℕ → Type 0
IsNumber l flight = (0 < flight) × (flight ≤ l.capacity)

-- what the lineup of each slot list is: flights in the order and none twice, entries in the period,
-- and frozen slots of the list
pub record IsSound (l : Lineup) : Type 0 where
  pub lined : IsLineup l
  pub regular : IsRegular l.period
  pub entries : AllWithin l.period l.waiting
  pub waiting_numbers : AllByRecursion (λ w. IsNumber l w.flight) l.waiting
  pub fixed_numbers : AllByRecursion (λ a. IsNumber l a.flight) l.fixed
  pub fixed_slots : AllByRecursion (λ a. a.slot < len_of l) l.fixed

-- no two of these have the same flight, and no two the same slot
abbrev pub NoneTwice : List Placed → Type 0
NoneTwice [] = Unit {0}
NoneTwice (a ∷ others) =
    AllByRecursion (λ b. (b.flight ≢ a.flight) × (b.slot ≢ a.slot)) others × NoneTwice others

-- a flight is provisional, with this entry
abbrev pub Waits : Lineup → Planned → Type 0
Waits l w = waiting_entry l w.flight ≡ Some w.entry

-- what may be in a slot that `w` would take otherwise: a frozen flight, or a provisional one that
-- precedes `w`
abbrev pub GoesFirst : Lineup → Planned → ℕ → Type 0
GoesFirst l w flight =
    IsSome (fixed_slot l flight)
    ⊎ IsSomeAnd (waiting_entry l flight) (λ e. stands_before (record { entry = e; flight = flight }) w ≡ true)

-- slot `k` isn't before the entry of `w`, and no slot between them is free for `w`
pub record IsNextFree (l : Lineup) (w : Planned) (k : ℕ) : Type 0 where
  pub not_before : w.entry ≤ slot_time l.period k
  pub no_gap : (j : ℕ) → w.entry ≤ slot_time l.period j → j < k → IsSomeAnd (held_flight l j) (λ flight. GoesFirst l w flight)
