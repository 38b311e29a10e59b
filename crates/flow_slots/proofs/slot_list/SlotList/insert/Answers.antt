use Rattle.std.proofs.Common.{refl, ap, ◌∙◌, arith}
use Rattle.flow_slots.specs.Period.{first_slot}
use Rattle.flow_slots.proofs.Following.{AllFollow-settled, AllFollow-drop}
use Rattle.flow_slots.proofs.Gained.{gained-moved}
use Rattle.flow_slots.proofs.Kept.{may_come_in, IsKept-insert, lineup-insert}
use Rattle.flow_slots.specs.declared.cell.Planned.{Planned}
use Rattle.flow_slots.specs.Lineup.{with_waiting}
use Rattle.flow_slots.proofs.slot_list.SlotList.insert.Goals as goal

pub displace-requires-clause-order : goal.displace-requires-clause-order
displace-requires-clause-order g c =
    let s = c.self.inside in
    AllFollow-drop c.at-from.result s.cells.row (AllFollow-settled (λ e. first_slot s.first_slots e) 0 s.cells.row c.self.invariant.kept.settled)

pub displace-requires-clause-absent : goal.displace-requires-clause-absent
displace-requires-clause-absent g c =
    let s = c.self.inside in
    (may_come_in s.first_slots s.capacity s.cells.row s.places.items (record { entry = c.args.entry; flight = c.args.flight }) _ c.self.invariant.kept (ap (λ v. v.lineup) c.self.view_is) c.requires.absent c.requires.first c.requires.last c.requires.entry).absent

pub displace-requires-clause-room : goal.displace-requires-clause-room
displace-requires-clause-room g c =
    let s = c.self.inside in
    let may = may_come_in s.first_slots s.capacity s.cells.row s.places.items (record { entry = c.args.entry; flight = c.args.flight }) _ c.self.invariant.kept (ap (λ v. v.lineup) c.self.view_is) c.requires.absent c.requires.first c.requires.last c.requires.entry in
    rw (c.at-from.ensures, c.minutes-entry.ensures.value) may.room

pub invariant_of-self : goal.invariant_of-self
invariant_of-self g c =
    let s = c.self.inside in
    let x : Planned = record { entry = c.args.entry; flight = c.args.flight } in
    let may = may_come_in s.first_slots s.capacity s.cells.row s.places.items x _ c.self.invariant.kept (ap (λ v. v.lineup) c.self.view_is) c.requires.absent c.requires.first c.requires.last c.requires.entry in
    let new = rw (c.at-from.ensures, c.minutes-entry.ensures.value) at c.displace.ensures.row in
    record { kept = IsKept-insert s.first_slots s.capacity s.cells.row c.displace.new.self.row s.places.items c.displace.new.places.items x c.self.invariant.kept may.room may.within new c.displace.ensures.tied (omega (arith, c.displace.ensures.len)); from = c.displace.ensures.start ∙ c.self.invariant.from }

pub returns-clause-lineup : goal.returns-clause-lineup
returns-clause-lineup g c =
    let s = c.self.inside in
    let x : Planned = record { entry = c.args.entry; flight = c.args.flight } in
    let may = may_come_in s.first_slots s.capacity s.cells.row s.places.items x _ c.self.invariant.kept (ap (λ v. v.lineup) c.self.view_is) c.requires.absent c.requires.first c.requires.last c.requires.entry in
    let new = rw (c.at-from.ensures, c.minutes-entry.ensures.value) at c.displace.ensures.row in
    lineup-insert s.first_slots s.capacity s.cells.row c.displace.new.self.row s.places.items x c.self.invariant.kept may.room new ∙ ap (λ v. with_waiting x v.lineup) c.self.view_is

pub returns-clause-writes : goal.returns-clause-writes
returns-clause-writes g c =
    let s = c.self.inside in
    let before = ap (λ v. v.writes) c.self.view_is in
    let moved = gained-moved s.first_slots s.capacity s.cells.row c.displace.new.self.row s.places.items c.displace.new.places.items _ _ c.self.invariant.kept (invariant_of-self g c).kept (ap (λ v. v.lineup) c.self.view_is) refl in
    omega (arith, before, moved, c.displace.ensures.writes)
