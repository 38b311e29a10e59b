use Rattle.std.proofs.Common.{◌≡◌, take}
use Rattle.flow_traffic.specs.Same.{standings}
use Rattle.flow_traffic.proofs.same.stand_alike.Given as goal

abbrev pub invariant-loop-index : goal.invariant-loop-index
invariant-loop-index g l = take l.index (standings l.plans.plans) ≡ take l.index (standings l.others.plans)
