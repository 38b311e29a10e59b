use Rattle.std.proofs.Common.{ℕ, sym, ap, subst, ◌∙◌, Some, arith}
use Rattle.flow_slots.specs.Period.{IsWithin, first_slot}
use Rattle.flow_slots.specs.Lineup.{SlotListView, waiting_entry}
use Rattle.flow_slots.proofs.Held.{entry-none, entry-waiting, entry-not}
use Rattle.flow_slots.proofs.Kept.{EntriesWithin-row}
use Rattle.flow_slots.proofs.Orderly.{row-lineup}
use Rattle.flow_slots.proofs.Tied.{flight_at-within}
use Rattle.flow_slots.proofs.slot_list.SlotList.entry_of.Goals as goal

pub cell-requires : goal.cell-requires
cell-requires g c =
    flight_at-within c.self.inside.cells.row c.in_ok-place_of.field-0 c.args.flight ((c.self.invariant.kept.tied.each c.args.flight c.in_ok-place_of.field-0).0 (sym c.in_ok-place_of.ensures))

pub from_minutes-requires : goal.from_minutes-requires
from_minutes-requires g c =
    let s = c.self.inside in
    let within = EntriesWithin-row s.first_slots s.cells.row c.self.invariant.kept.entries c.in_ok-place_of.field-0 c.in-Waiting.planned (sym c.in-Waiting.ensures.value) in
    omega (arith, within.1, c.self.invariant.kept.regular.before)

pub returns-in_err-place_of-clause-entry : goal.returns-in_err-place_of-clause-entry
returns-in_err-place_of-clause-entry g c =
    let s = c.self.inside in
    let none = entry-none s.places.items s.cells.row c.args.flight c.self.invariant.kept.tied (sym c.in_err-place_of.ensures) in
    c.from_residual.ensures ∙ (sym none ∙ ap (λ v. waiting_entry v.lineup c.args.flight) c.self.view_is)

pub returns-in-Waiting-clause-entry : goal.returns-in-Waiting-clause-entry
returns-in-Waiting-clause-entry g c =
    let s = c.self.inside in
    let found = entry-waiting s.places.items s.cells.row c.args.flight c.in_ok-place_of.field-0 c.in-Waiting.planned c.self.invariant.kept.tied (sym c.in_ok-place_of.ensures) (sym c.in-Waiting.ensures.value) in
    ap Some c.from_minutes.ensures ∙ (sym found ∙ ap (λ v. waiting_entry v.lineup c.args.flight) c.self.view_is)

pub returns-in_default-clause-entry : goal.returns-in_default-clause-entry
returns-in_default-clause-entry g c =
    let s = c.self.inside in
    let none = entry-not s.places.items s.cells.row c.args.flight c.in_ok-place_of.field-0 c.self.invariant.kept.tied (sym c.in_ok-place_of.ensures) (λ w e. c.in_default.not-Waiting w (c.cell.ensures.value ∙ e)) in
    sym none ∙ ap (λ v. waiting_entry v.lineup c.args.flight) c.self.view_is

pub returns-in-Waiting-clause-within : goal.returns-in-Waiting-clause-within
returns-in-Waiting-clause-within g c =
    let s = c.self.inside in
    let within = EntriesWithin-row s.first_slots s.cells.row c.self.invariant.kept.entries c.in_ok-place_of.field-0 c.in-Waiting.planned (sym c.in-Waiting.ensures.value) in
    let W : ℕ → Type 0 = λ e. IsWithin s.first_slots e in
    let V : SlotListView → Type 0 = λ v. IsWithin v.lineup.period c.from_minutes.result in
    subst V c.self.view_is (subst W (sym c.from_minutes.ensures) within)

pub returns-in_err-place_of-clause-lined : goal.returns-in_err-place_of-clause-lined
returns-in_err-place_of-clause-lined g c =
    let s = c.self.inside in
    rw (← c.self.view_is) (row-lineup (λ e. first_slot s.first_slots e) s.first_slots s.capacity s.places.items s.cells.row c.self.invariant.kept.settled c.self.invariant.kept.tied)

pub returns-in-Waiting-clause-lined : goal.returns-in-Waiting-clause-lined
returns-in-Waiting-clause-lined g c =
    let s = c.self.inside in
    rw (← c.self.view_is) (row-lineup (λ e. first_slot s.first_slots e) s.first_slots s.capacity s.places.items s.cells.row c.self.invariant.kept.settled c.self.invariant.kept.tied)

pub returns-in_default-clause-lined : goal.returns-in_default-clause-lined
returns-in_default-clause-lined g c =
    let s = c.self.inside in
    rw (← c.self.view_is) (row-lineup (λ e. first_slot s.first_slots e) s.first_slots s.capacity s.places.items s.cells.row c.self.invariant.kept.settled c.self.invariant.kept.tied)
