use Rattle.std.proofs.Common.{◌≡◌, ◌≤◌, List, length, take, vec_capacity}
use Rattle.fpl_message.specs.declared.order.Spot.{Spot}
use Rattle.flow_plans.specs.Plans.{PlanView}
use Rattle.flow_plans.specs.Letters.{IsDepartureOf}
use Rattle.flow_plans.specs.Outlines.{AreOutlines}
use Rattle.flow_plans.specs.Entries.{subject, entering_from, NoneEarlier}
use Rattle.flow_plans.proofs.plan_list.note_departing.Given as goal

abbrev pub invariant-loop-index : goal.invariant-loop-index
invariant-loop-index g l = record {
  noted : (plans : List PlanView) (spot : Spot) → AreOutlines l.outlines plans → IsDepartureOf l.letters spot → l.coming.items ≡ entering_from 1 (subject l.taxi spot l.start l.end) (take l.index plans);
  few : length l.coming.items ≤ l.index;
  room : length l.outlines ≤ vec_capacity l.coming;
  none : (plans : List PlanView) → AreOutlines l.outlines plans → NoneEarlier l.first plans l.coming.items;
}
