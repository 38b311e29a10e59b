use Rattle.std.proofs.Common.{refl, sym, ap, ◌∙◌}
use Rattle.std.specs.Option.{is_some}
use Rattle.std.proofs.lemmas.Bool.{false≢true}
use Rattle.flow_slots.specs.Period.{first_slot}
use Rattle.flow_slots.specs.Lineup.{fixed_slot}
use Rattle.flow_slots.proofs.Held.{fixed_slot-none, fixed_slot-fixed, fixed_slot-not}
use Rattle.flow_slots.proofs.Orderly.{row-lineup}
use Rattle.flow_slots.proofs.Tied.{flight_at-within}
use Rattle.flow_slots.proofs.slot_list.SlotList.is_fixed.Goals as goal

pub cell-requires : goal.cell-requires
cell-requires g c =
    flight_at-within c.self.inside.cells.row c.in-Some.k c.args.flight ((c.self.invariant.kept.tied.each c.args.flight c.in-Some.k).0 (sym c.in-Some.ensures))

pub returns-in-Fixed-clause-fixed : goal.returns-in-Fixed-clause-fixed
returns-in-Fixed-clause-fixed g c =
    let s = c.self.inside in
    let found = fixed_slot-fixed s.places.items s.cells.row c.args.flight c.in-Fixed.field-0 c.in-Some.k c.self.invariant.kept.tied (sym c.in-Some.ensures) (sym c.in-Fixed.ensures.value) in
    let at = sym (ap (λ v. fixed_slot v.lineup c.args.flight) c.self.view_is) ∙ found in
    ((λ _. ap is_some at), (λ _. refl))

pub returns-in_default-clause-fixed : goal.returns-in_default-clause-fixed
returns-in_default-clause-fixed g c =
    let s = c.self.inside in
    let found = fixed_slot-not s.places.items s.cells.row c.args.flight c.in-Some.k c.self.invariant.kept.tied (sym c.in-Some.ensures) (λ g e. c.in_default.not-Fixed g (c.cell.ensures.value ∙ e)) in
    let none = sym (ap (λ v. fixed_slot v.lineup c.args.flight) c.self.view_is) ∙ found in
    ((λ h. absurd (false≢true h)), (λ h. absurd (false≢true (rw none at h))))

pub returns-in-None-clause-fixed : goal.returns-in-None-clause-fixed
returns-in-None-clause-fixed g c =
    let s = c.self.inside in
    let found = fixed_slot-none s.places.items s.cells.row c.args.flight c.self.invariant.kept.tied (sym c.in-None.ensures) in
    let none = sym (ap (λ v. fixed_slot v.lineup c.args.flight) c.self.view_is) ∙ found in
    ((λ h. absurd (false≢true h)), (λ h. absurd (false≢true (rw none at h))))

pub returns-in-Fixed-clause-lined : goal.returns-in-Fixed-clause-lined
returns-in-Fixed-clause-lined g c =
    let s = c.self.inside in
    rw (← c.self.view_is) (row-lineup (λ e. first_slot s.first_slots e) s.first_slots s.capacity s.places.items s.cells.row c.self.invariant.kept.settled c.self.invariant.kept.tied)

pub returns-in_default-clause-lined : goal.returns-in_default-clause-lined
returns-in_default-clause-lined g c =
    let s = c.self.inside in
    rw (← c.self.view_is) (row-lineup (λ e. first_slot s.first_slots e) s.first_slots s.capacity s.places.items s.cells.row c.self.invariant.kept.settled c.self.invariant.kept.tied)

pub returns-in-None-clause-lined : goal.returns-in-None-clause-lined
returns-in-None-clause-lined g c =
    let s = c.self.inside in
    rw (← c.self.view_is) (row-lineup (λ e. first_slot s.first_slots e) s.first_slots s.capacity s.places.items s.cells.row c.self.invariant.kept.settled c.self.invariant.kept.tied)
