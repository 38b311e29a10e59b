use Rattle.std.proofs.Common.{◌≡◌, None, refl, sym, ap, ◌∙◌, arith}
use Rattle.std.proofs.lemmas.Bool.{false≢true}
use Rattle.flow_slots.specs.Lineup.{held_slot, without_flight}
use Rattle.flow_slots.proofs.Gained.{gained-moved}
use Rattle.flow_slots.proofs.Held.{held_slot-is, place_at-number}
use Rattle.flow_slots.proofs.Kept.{EntriesWithin-row}
use Rattle.flow_slots.proofs.Leaving.{IsKept-leave, lineup-leave}
use Rattle.flow_slots.proofs.slot_list.SlotList.remove.Goals as goal

pub vacate-requires-clause-entries : goal.vacate-requires-clause-entries
vacate-requires-clause-entries g c =
    EntriesWithin-row c.self.inside.first_slots c.self.inside.cells.row c.self.invariant.kept.entries

pub invariant_of-self : goal.invariant_of-self
invariant_of-self g c =
    let s = c.self.inside in
    let stands = (c.self.invariant.kept.tied.each c.args.flight c.in-Some.k).0 (sym c.in-Some.ensures) in
    record { kept = IsKept-leave s.first_slots s.capacity c.args.flight c.in-Some.k s.cells.row _ s.places.items _ c.self.invariant.kept stands c.vacate.ensures.row c.vacate.ensures.tied (omega (arith, c.vacate.ensures.len)); from = c.vacate.ensures.start ∙ c.self.invariant.from }

pub returns-in-Some-clause-lineup : goal.returns-in-Some-clause-lineup
returns-in-Some-clause-lineup g c =
    let s = c.self.inside in
    let stands = (c.self.invariant.kept.tied.each c.args.flight c.in-Some.k).0 (sym c.in-Some.ensures) in
    lineup-leave s.first_slots s.capacity c.args.flight c.in-Some.k s.cells.row _ s.places.items c.self.invariant.kept stands c.vacate.ensures.row ∙ ap (λ v. without_flight c.args.flight v.lineup) c.self.view_is

pub returns-in-Some-clause-number : goal.returns-in-Some-clause-number
returns-in-Some-clause-number g c =
    let s = c.self.inside in
    place_at-number s.first_slots s.capacity c.args.flight c.in-Some.k s.cells.row s.places.items c.args.self.now.lineup c.self.invariant.kept (ap (λ v. v.lineup.capacity) c.self.view_is) (sym c.in-Some.ensures)

pub returns-in-Some-clause-writes : goal.returns-in-Some-clause-writes
returns-in-Some-clause-writes g c =
    let s = c.self.inside in
    let before = ap (λ v. v.writes) c.self.view_is in
    let moved = gained-moved s.first_slots s.capacity s.cells.row c.vacate.new.self.row s.places.items c.vacate.new.places.items _ _ c.self.invariant.kept (invariant_of-self g c).kept (ap (λ v. v.lineup) c.self.view_is) refl in
    omega (arith, before, moved, c.vacate.ensures.writes)

pub returns-in_default : goal.returns-in_default
returns-in_default g c =
    let s = c.self.inside in
    let held = held_slot-is s.first_slots s.capacity s.capacity s.cells.row s.places.items c.args.flight c.self.invariant.kept in
    let none : held_slot c.args.self.now.lineup c.args.flight ≡ None =
    ap (λ v. held_slot v.lineup c.args.flight) (sym c.self.view_is) ∙ (held ∙ (sym c.place_of.ensures ∙ c.in_default.is)) in
    let some = rw none at c.requires in
    absurd (false≢true some)
