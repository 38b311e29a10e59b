use Rattle.std.proofs.Common.{◌≡◌, ◌+◌, ◌-◌, ◌≤◌, IfSome, drop, map, length}
use Rattle.flow_plans.specs.Plans.{plan_at}
use Rattle.flow_plans.specs.Entries.{take_off}
use Rattle.flow_regulations.specs.Listing.{regulation_of}
use Rattle.flow_regulations.specs.Advice.{worse, worst}
use Rattle.flow_regulations.proofs.telling.advice_of.Given as goal

abbrev pub invariant-loop-index : goal.invariant-loop-index
invariant-loop-index g l = record {
  value : IfSome (plan_at l.plans.plans l.number) (λ p. worse l.worst (worst l.plans.taxi l.number p (map regulation_of (drop l.index l.regulations)))
      ≡ worst l.plans.taxi l.number p (map regulation_of l.regulations));
  bound : IfSome (plan_at l.plans.plans l.number) (λ p. IfSome l.worst (λ d. take_off l.plans.taxi p + d.minutes ≤ 100_000_000));
}

abbrev pub decreases-loop-index : goal.decreases-loop-index
decreases-loop-index g l = length l.regulations - l.index
