use Rattle.std.proofs.Common.{◌≡◌, ◌<◌, ◌≤◌, ◌+◌, ◌-◌, length, take, vec_capacity}
use Rattle.flow_plans.specs.Entries.{subject, entering_from, NoneEarlier}
use Rattle.flow_plans.proofs.plan_list.PlanList.note_coming.Given as goal

abbrev pub invariant-loop-number : goal.invariant-loop-number
invariant-loop-number g l = record {
  some : 0 < l.from;
  within : l.from ≤ length l.self + 1;
  noted : l.coming.items ≡ entering_from 1 (subject l.taxi l.spot l.start l.end) (take (l.from - 1) l.self);
  few : length l.coming.items < l.from;
  room : length l.self ≤ vec_capacity l.coming;
  none : NoneEarlier l.first l.self l.coming.items;
}

abbrev pub decreases-loop-number : goal.decreases-loop-number
decreases-loop-number g l = length l.self + 1 - l.from
