use Rattle.std.proofs.Common.{◌≡◌, ◌≤◌, ◌<◌, ◌+◌, ◌-◌, ℕ, None, max}
use Rattle.std.specs.Prelude.{IfSome}
use Rattle.flow_plans.specs.Plans.{plan_at}
use Rattle.flow_plans.specs.Entries.{subject}
use Rattle.flow_plans.proofs.plan_list.PlanList.next_coming.Given as goal

abbrev pub invariant-loop-number : goal.invariant-loop-number
invariant-loop-number g l = record {
  from : l.fn.from ≤ l.number;
  passed : (n : ℕ) → l.fn.from ≤ n → n < l.number → IfSome (plan_at l.self n) (λ plan. subject l.taxi l.spot l.start l.end plan ≡ None);
  most : l.number ≤ max l.fn.from (l.count + 1);
}

abbrev pub decreases-loop-number : goal.decreases-loop-number
decreases-loop-number g l = l.count + 1 - l.number
