use Rattle.std.proofs.Common.{◌≡◌, None, Some, sym, ap, ◌∙◌, arith}
use Rattle.std.proofs.lemmas.Bool.{false≢true}
use Rattle.flow_slots.specs.Lineup.{held_slot, fixed_slot, fixed_at}
use Rattle.flow_slots.proofs.Changes.{IsKept-fixed, lineup-fixed}
use Rattle.flow_slots.proofs.Held.{held_slot-is, place_at-number, waits}
use Rattle.flow_slots.proofs.Storing.{stored-fixed}
use Rattle.flow_slots.proofs.Tied.{flight_at-within}
use Rattle.flow_slots.proofs.slot_list.SlotList.fix.Goals as goal

pub write-requires-clause-kept : goal.write-requires-clause-kept
write-requires-clause-kept g c =
    let s = c.self.inside in
    let number = place_at-number s.first_slots s.capacity c.args.flight c.in-Some.k s.cells.row s.places.items c.args.self.now.lineup c.self.invariant.kept (ap (λ v. v.lineup.capacity) c.self.view_is) (sym c.in-Some.ensures) in
    stored-fixed c.args.self.now.lineup.capacity c.args.flight number.0 number.1 (omega (arith, c.self.invariant.kept.flights, ap (λ v. v.lineup.capacity) c.self.view_is))

pub write-requires-clause-slot : goal.write-requires-clause-slot
write-requires-clause-slot g c =
    flight_at-within c.self.inside.cells.row c.in-Some.k c.args.flight ((c.self.invariant.kept.tied.each c.args.flight c.in-Some.k).0 (sym c.in-Some.ensures))

pub invariant_of-self : goal.invariant_of-self
invariant_of-self g c =
    let s = c.self.inside in
    let w = waits s.places.items s.cells.row c.args.flight c.in-Some.k c.self.invariant.kept.tied (sym c.in-Some.ensures) (ap (λ v. fixed_slot v.lineup c.args.flight) c.self.view_is ∙ c.requires.waits) in
    rw c.write.ensures.cells (record { kept = IsKept-fixed s.first_slots s.capacity c.args.flight c.in-Some.k s.cells.row s.places.items c.self.invariant.kept w; from = c.self.invariant.from })

pub returns-in-Some-clause-lineup : goal.returns-in-Some-clause-lineup
returns-in-Some-clause-lineup g c =
    let s = c.self.inside in
    let w = waits s.places.items s.cells.row c.args.flight c.in-Some.k c.self.invariant.kept.tied (sym c.in-Some.ensures) (ap (λ v. fixed_slot v.lineup c.args.flight) c.self.view_is ∙ c.requires.waits) in
    let held = held_slot-is s.first_slots s.capacity s.capacity s.cells.row s.places.items c.args.flight c.self.invariant.kept in
    let at : held_slot c.args.self.now.lineup c.args.flight ≡ Some c.in-Some.k =
    sym (ap (λ v. held_slot v.lineup c.args.flight) c.self.view_is) ∙ (held ∙ sym c.in-Some.ensures) in
    let fixed = lineup-fixed s.first_slots s.capacity c.args.flight c.in-Some.k s.cells.row s.places.items c.self.invariant.kept w in
    rw (at, c.write.ensures.cells) (fixed ∙ ap (λ v. fixed_at (record { flight = c.args.flight; slot = c.in-Some.k }) v.lineup) c.self.view_is)

pub returns-in_default : goal.returns-in_default
returns-in_default g c =
    let s = c.self.inside in
    let held = held_slot-is s.first_slots s.capacity s.capacity s.cells.row s.places.items c.args.flight c.self.invariant.kept in
    let none : held_slot c.args.self.now.lineup c.args.flight ≡ None =
    ap (λ v. held_slot v.lineup c.args.flight) (sym c.self.view_is) ∙ (held ∙ (sym c.place_of.ensures ∙ c.in_default.is)) in
    let some = rw none at c.requires.held in
    absurd (false≢true some)

pub returns-in-Some-clause-writes : goal.returns-in-Some-clause-writes
returns-in-Some-clause-writes g c =
    let before = ap (λ v. v.writes) c.self.view_is in
    let one = ap (λ v. v.writes) c.write.ensures.cells in
    omega (arith, before, one)

pub returns-in-Some-clause-nobody_moves : goal.returns-in-Some-clause-nobody_moves
returns-in-Some-clause-nobody_moves g c = λ f.
    (let s = c.self.inside in
    let before = held_slot-is s.first_slots s.capacity s.capacity s.cells.row s.places.items f c.self.invariant.kept in
    let after = held_slot-is s.first_slots s.capacity s.capacity c.write.new.self.row s.places.items f (invariant_of-self g c).kept in
    after ∙ (sym before ∙ ap (λ v. held_slot v.lineup f) c.self.view_is))
