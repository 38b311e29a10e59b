use Rattle.std.proofs.Common.{sym, ap, ◌∙◌}
use Rattle.flow_slots.specs.Lineup.{held_flight}
use Rattle.flow_slots.proofs.Kept.{lineup_of}
use Rattle.flow_slots.proofs.Orderly.{row-rise}
use Rattle.flow_slots.proofs.Optimal.{first_served, least_delay}
use Rattle.flow_slots.proofs.Held.{held_slot-is, held_flight-is}
use Rattle.flow_slots.proofs.StaysSound.{row-sound}
use Rattle.flow_slots.proofs.slot_list.SlotList.cells.Goals as goal

pub returns-clause-row : goal.returns-clause-row
returns-clause-row g c = λ k.
    (let s = c.self.inside in
    sym (held_flight-is s.first_slots s.capacity s.capacity s.cells.row s.places.items k c.self.invariant.kept) ∙ ap (λ v. held_flight v.lineup k) c.self.view_is)

pub returns-clause-least_delay : goal.returns-clause-least_delay
returns-clause-least_delay g c =
    let s = c.self.inside in
    rw (← c.self.view_is) (least_delay (lineup_of s.first_slots s.capacity s.cells.row) c.self.invariant.kept.regular c.self.invariant.kept.entries)

pub returns-clause-one_each : goal.returns-clause-one_each
returns-clause-one_each g c = λ f k.
    (let s = c.self.inside in
    let slot = held_slot-is s.first_slots s.capacity s.capacity s.cells.row s.places.items f c.self.invariant.kept in
    let holder = held_flight-is s.first_slots s.capacity s.capacity s.cells.row s.places.items k c.self.invariant.kept in
    rw (← c.self.view_is, slot, holder) (c.self.invariant.kept.tied.each f k))

pub returns-clause-first_served : goal.returns-clause-first_served
returns-clause-first_served g c =
    let s = c.self.inside in
    rw (← c.self.view_is) (first_served (lineup_of s.first_slots s.capacity s.cells.row) c.self.invariant.kept.regular c.self.invariant.kept.entries)

pub returns-clause-sound : goal.returns-clause-sound
returns-clause-sound g c =
    let s = c.self.inside in
    rw (← c.self.view_is) (row-sound s.first_slots s.capacity s.cells.row s.places.items c.self.invariant.kept)

pub returns-clause-rise : goal.returns-clause-rise
returns-clause-rise g c =
    let s = c.self.inside in
    rw (← c.self.view_is) (row-rise s.first_slots s.capacity s.cells.row c.self.invariant.kept.settled)
