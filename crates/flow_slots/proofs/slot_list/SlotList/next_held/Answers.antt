use Rattle.std.proofs.Common.{ℕ, Option, sym, ap, subst, ◌∙◌, arith}
use Rattle.std.specs.Prelude.{IsSome}
use Rattle.flow_slots.specs.Lineup.{held_slot}
use Rattle.flow_slots.proofs.Held.{held_slot-is}
use Rattle.flow_slots.proofs.slot_list.SlotList.next_held.Goals as goal

pub returns-clause-passed : goal.returns-clause-passed
returns-clause-passed g c = λ f low high.
    (let s = c.self.inside in
    let held = held_slot-is s.first_slots s.capacity s.capacity s.cells.row s.places.items f c.self.invariant.kept in
    ap (λ v. held_slot v.lineup f) (sym c.self.view_is) ∙ (held ∙ c.next_placed.ensures.passed f low high))

pub returns-clause-stops : goal.returns-clause-stops
returns-clause-stops g c = λ within.
    (let s = c.self.inside in
    let f : ℕ = c.next_placed.result in
    let held = held_slot-is s.first_slots s.capacity s.capacity s.cells.row s.places.items f c.self.invariant.kept in
    let capacity = ap (λ v. v.lineup.capacity) c.self.view_is in
    let S : Option ℕ → Type 0 = IsSome in
    subst S (sym (ap (λ v. held_slot v.lineup f) (sym c.self.view_is) ∙ held)) (c.next_placed.ensures.stops (omega (arith, within, capacity, c.self.invariant.kept.places_len))))
