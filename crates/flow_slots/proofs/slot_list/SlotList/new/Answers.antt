use Rattle.std.proofs.Common.{rules, ◌≡◌, replicate, None, ap, ◌∙◌, ◌+◌}
use Rattle.flow_slots.proofs.Made.{IsKept-new, slots-new}
use Rattle.flow_slots.proofs.slot_list.SlotList.new.Goals as goal

pub invariant_of-result : goal.invariant_of-result
invariant_of-result g c =
    let row = rw c.slots_before_end.ensures.value at (ap (λ v. v.row) c.in_ok-cells.ensures) in
    let places : c.in_ok-places.places.items ≡ replicate (c.args.max_plans + 1) None = search rules in
    rw c.in_ok-first_slots.ensures (record {
      kept = IsKept-new c.args.shape c.args.max_plans c.in_ok-cells.cells.row c.in_ok-places.places.items c.slots_before_end.ensures.regular c.requires.some c.requires.most row places;
      from = ap (λ v. v.start) c.in_ok-cells.ensures ∙ c.start_minutes.ensures;
    })

pub returns-clause-empty : goal.returns-clause-empty
returns-clause-empty g c =
    rw c.in_ok-first_slots.ensures (slots-new c.args.shape c.args.max_plans (c.slots_before_end.result + c.args.max_plans) c.start_minutes.result c.in_ok-cells.cells c.in_ok-cells.ensures)
