use Rattle.std.proofs.Common.{sym, ap, ◌∙◌, arith}
use Rattle.std.proofs.lemmas.List.{get_or_past}
use Rattle.flow_slots.specs.declared.cell.Cell.TheVariants.{Empty}
use Rattle.flow_slots.specs.Lineup.{held_flight}
use Rattle.flow_slots.specs.Row.{flight_of}
use Rattle.flow_slots.proofs.Held.{held_flight-is}
use Rattle.flow_slots.proofs.Holders.{flight-slot, flight-number, flight-within, flight-most}
use Rattle.flow_slots.proofs.slot_list.SlotList.holder.Goals as goal

pub returns-then-k-len-clause-flight : goal.returns-then-k-len-clause-flight
returns-then-k-len-clause-flight g c =
    let s = c.self.inside in
    let held = held_flight-is s.first_slots s.capacity s.capacity s.cells.row s.places.items c.args.k c.self.invariant.kept in
    c.at.ensures ∙ (sym held ∙ ap (λ v. held_flight v.lineup c.args.k) c.self.view_is)

pub returns-else-k-len-clause-flight : goal.returns-else-k-len-clause-flight
returns-else-k-len-clause-flight g c =
    let s = c.self.inside in
    let held = held_flight-is s.first_slots s.capacity s.capacity s.cells.row s.places.items c.args.k c.self.invariant.kept in
    let past = ap flight_of (get_or_past s.cells.row c.args.k Empty (omega arith)) in
    sym past ∙ (sym held ∙ ap (λ v. held_flight v.lineup c.args.k) c.self.view_is)

pub returns-then-k-len-clause-slot : goal.returns-then-k-len-clause-slot
returns-then-k-len-clause-slot g c =
    let s = c.self.inside in
    rw (← c.self.view_is) (flight-slot s.first_slots s.capacity s.cells.row s.places.items c.self.invariant.kept c.args.k c.at.result c.at.ensures)

pub returns-then-k-len-clause-number : goal.returns-then-k-len-clause-number
returns-then-k-len-clause-number g c =
    let s = c.self.inside in
    rw (← c.self.view_is) (flight-number s.first_slots s.capacity s.cells.row s.places.items c.self.invariant.kept c.args.k c.at.result c.at.ensures)

pub returns-then-k-len-clause-within : goal.returns-then-k-len-clause-within
returns-then-k-len-clause-within g c =
    let s = c.self.inside in
    rw (← c.self.view_is) (flight-within s.first_slots s.capacity s.cells.row s.places.items c.self.invariant.kept c.args.k c.at.result c.at.ensures)

pub returns-then-k-len-clause-most : goal.returns-then-k-len-clause-most
returns-then-k-len-clause-most g c =
    let s = c.self.inside in
    flight-most s.first_slots s.capacity s.cells.row s.places.items c.self.invariant.kept c.args.k c.at.result c.at.ensures
