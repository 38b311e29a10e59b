use Rattle.std.proofs.Common.{◌+◌, ◌-◌, ◌<◌}
use Rattle.flow_regulations.specs.Listing.{IsAdvancing, is_below}
use Rattle.flow_regulations.proofs.regulations.settle.Given as goal

abbrev pub invariant-loop-number : goal.invariant-loop-number
invariant-loop-number g l = record {
  some : 0 < l.number;
  advancing : IsAdvancing (is_below l.number) l.plans.taxi l.now l.plans.plans l.initial.regulation l.regulation;
}

abbrev pub decreases-loop-number : goal.decreases-loop-number
decreases-loop-number g l = l.count + 1 - l.number
