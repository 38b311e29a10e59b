use Rattle.std.proofs.Common.{sym, ap, ◌∙◌}
use Rattle.flow_slots.specs.Lineup.{held_slot}
use Rattle.flow_slots.specs.Period.{first_slot}
use Rattle.flow_slots.proofs.Held.{held_slot-is, place_at-below}
use Rattle.flow_slots.proofs.Holders.{place-most, place-holder, place-number}
use Rattle.flow_slots.proofs.Orderly.{row-lineup}
use Rattle.flow_slots.proofs.slot_list.SlotList.slot_of.Goals as goal

pub returns-clause-slot : goal.returns-clause-slot
returns-clause-slot g c =
    let s = c.self.inside in
    let held = held_slot-is s.first_slots s.capacity s.capacity s.cells.row s.places.items c.args.flight c.self.invariant.kept in
    c.place_of.ensures ∙ (sym held ∙ ap (λ v. held_slot v.lineup c.args.flight) c.self.view_is)

pub returns-clause-within : goal.returns-clause-within
returns-clause-within g c =
    let s = c.self.inside in
    rw (← c.self.view_is) (place_at-below s.first_slots s.capacity s.cells.row s.places.items c.args.flight c.place_of.result c.self.invariant.kept c.place_of.ensures)

pub returns-clause-most : goal.returns-clause-most
returns-clause-most g c =
    let s = c.self.inside in
    place-most s.first_slots s.capacity s.cells.row s.places.items c.self.invariant.kept c.args.flight c.place_of.result c.place_of.ensures

pub returns-clause-holder : goal.returns-clause-holder
returns-clause-holder g c =
    let s = c.self.inside in
    rw (← c.self.view_is) (place-holder s.first_slots s.capacity s.cells.row s.places.items c.self.invariant.kept c.args.flight c.place_of.result c.place_of.ensures)

pub returns-clause-number : goal.returns-clause-number
returns-clause-number g c =
    let s = c.self.inside in
    rw (← c.self.view_is) (place-number s.first_slots s.capacity s.cells.row s.places.items c.self.invariant.kept c.args.flight c.place_of.result c.place_of.ensures)

pub returns-clause-lined : goal.returns-clause-lined
returns-clause-lined g c =
    let s = c.self.inside in
    rw (← c.self.view_is) (row-lineup (λ e. first_slot s.first_slots e) s.first_slots s.capacity s.places.items s.cells.row c.self.invariant.kept.settled c.self.invariant.kept.tied)
