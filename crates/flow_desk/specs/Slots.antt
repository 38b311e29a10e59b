-- The held slots of a regulation, by number.
use Rattle.std.specs.Prelude.{ℕ, zero, suc, ◌+◌, List, [], ◌∷◌, ◌++◌, Option, Some, None}
use Rattle.std.specs.Option.{option_map, is_some}
use Rattle.flow_plans.specs.Settings.{SetupView}
use Rattle.flow_slots.specs.Period.{slot_time}
use Rattle.flow_slots.specs.Lineup.{Lineup, len_of, held_flight, fixed_slot}
use Rattle.flow_traffic.specs.Traffic.{slots_of}
use Rattle.flow_core.specs.State.{EntryView}
use Rattle.flow_desk.specs.declared.slots.SlotRow.{SlotRow}
use Rattle.flow_desk.specs.Histories.{after}

-- the slot of this number, if a flight holds it
abbrev pub held_at : Lineup → ℕ → Option ℕ → List SlotRow
held_at l slot None = []
held_at l slot (Some flight) = record { slot = slot; at = slot_time l.period slot; plan = flight; frozen = is_some (fixed_slot l flight) } ∷ []

-- the held ones among `count` slots from this one on
abbrev pub held_from : Lineup → ℕ → ℕ → List SlotRow
held_from l slot zero = []
held_from l slot (suc count) = held_at l slot (held_flight l slot) ++ held_from l (slot + 1) count

-- all held slots of a slot list
abbrev pub held_slots : Lineup → List SlotRow
held_slots l = held_from l 0 (len_of l)

-- the held slots of the open regulation of this name after these entries; None if no regulation of
-- this name is open
abbrev pub slots_at : SetupView → List EntryView → List ℕ → Option (List SlotRow)
slots_at setup es id = option_map held_slots (slots_of (after setup es).traffic id)
