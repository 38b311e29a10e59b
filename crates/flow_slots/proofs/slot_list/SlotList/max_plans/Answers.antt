use Rattle.std.proofs.Common.{refl, sym, ap, ◌∙◌}
use Rattle.flow_slots.specs.Lineup.{held_slot}
use Rattle.flow_slots.proofs.Kept.{lineup_of}
use Rattle.flow_slots.proofs.Held.{held_slot-is, place_at-number}
use Rattle.flow_slots.proofs.slot_list.SlotList.max_plans.Goals as goal

pub returns-clause-held : goal.returns-clause-held
returns-clause-held g c = λ flight k e.
    (let s = c.self.inside in
    let is = held_slot-is s.first_slots s.capacity s.capacity s.cells.row s.places.items flight c.self.invariant.kept in
    place_at-number s.first_slots s.capacity flight k s.cells.row s.places.items (lineup_of s.first_slots s.capacity s.cells.row) c.self.invariant.kept refl
    (sym is ∙ (ap (λ v. held_slot v.lineup flight) c.self.view_is ∙ e)))
