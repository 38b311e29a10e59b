use Rattle.std.proofs.Common.{refl, ap, ◌∙◌, arith}
use Rattle.flow_slots.specs.Lineup.{with_fixed}
use Rattle.flow_slots.specs.Period.{first_slot}
use Rattle.flow_slots.proofs.Following.{AllFollow-settled}
use Rattle.flow_slots.proofs.Gained.{gained-moved}
use Rattle.flow_slots.proofs.Changes.{may_be_put, row-put, IsKept-put, lineup-put}
use Rattle.flow_slots.proofs.slot_list.SlotList.put_fixed.Goals as goal

pub put_fixed-requires-clause-order : goal.put_fixed-requires-clause-order
put_fixed-requires-clause-order g c =
    let s = c.self.inside in
    AllFollow-settled (λ e. first_slot s.first_slots e) 0 s.cells.row c.self.invariant.kept.settled

pub put_fixed-requires-clause-absent : goal.put_fixed-requires-clause-absent
put_fixed-requires-clause-absent g c =
    let s = c.self.inside in
    (may_be_put s.first_slots s.capacity s.cells.row s.places.items c.args.flight c.args.k _ c.self.invariant.kept (ap (λ v. v.lineup) c.self.view_is) c.requires.absent c.requires.first c.requires.last c.requires.slot c.requires.open).absent

pub put_fixed-requires-clause-open : goal.put_fixed-requires-clause-open
put_fixed-requires-clause-open g c =
    let s = c.self.inside in
    (may_be_put s.first_slots s.capacity s.cells.row s.places.items c.args.flight c.args.k _ c.self.invariant.kept (ap (λ v. v.lineup) c.self.view_is) c.requires.absent c.requires.first c.requires.last c.requires.slot c.requires.open).not_fixed

pub put_fixed-requires-clause-room : goal.put_fixed-requires-clause-room
put_fixed-requires-clause-room g c =
    let s = c.self.inside in
    (may_be_put s.first_slots s.capacity s.cells.row s.places.items c.args.flight c.args.k _ c.self.invariant.kept (ap (λ v. v.lineup) c.self.view_is) c.requires.absent c.requires.first c.requires.last c.requires.slot c.requires.open).room

pub invariant_of-self : goal.invariant_of-self
invariant_of-self g c =
    let s = c.self.inside in
    let may = may_be_put s.first_slots s.capacity s.cells.row s.places.items c.args.flight c.args.k _ c.self.invariant.kept (ap (λ v. v.lineup) c.self.view_is) c.requires.absent c.requires.first c.requires.last c.requires.slot c.requires.open in
    let r = row-put s.first_slots s.capacity c.args.flight c.args.k s.cells.row s.places.items c.self.invariant.kept may.within may.not_fixed may.room in
    record { kept = IsKept-put s.first_slots s.capacity c.args.flight c.args.k s.cells.row _ s.places.items _ c.self.invariant.kept r c.put_fixed.ensures.row c.put_fixed.ensures.tied (omega (arith, c.put_fixed.ensures.len)); from = c.put_fixed.ensures.start ∙ c.self.invariant.from }

pub returns-clause-lineup : goal.returns-clause-lineup
returns-clause-lineup g c =
    let s = c.self.inside in
    let may = may_be_put s.first_slots s.capacity s.cells.row s.places.items c.args.flight c.args.k _ c.self.invariant.kept (ap (λ v. v.lineup) c.self.view_is) c.requires.absent c.requires.first c.requires.last c.requires.slot c.requires.open in
    let r = row-put s.first_slots s.capacity c.args.flight c.args.k s.cells.row s.places.items c.self.invariant.kept may.within may.not_fixed may.room in
    lineup-put s.first_slots s.capacity c.args.flight c.args.k s.cells.row _ r c.put_fixed.ensures.row ∙ ap (λ v. with_fixed (record { flight = c.args.flight; slot = c.args.k }) v.lineup) c.self.view_is

pub returns-clause-writes : goal.returns-clause-writes
returns-clause-writes g c =
    let s = c.self.inside in
    let before = ap (λ v. v.writes) c.self.view_is in
    let moved = gained-moved s.first_slots s.capacity s.cells.row c.put_fixed.new.self.row s.places.items c.put_fixed.new.places.items _ _ c.self.invariant.kept (invariant_of-self g c).kept (ap (λ v. v.lineup) c.self.view_is) refl in
    omega (arith, before, moved, c.put_fixed.ensures.writes)
