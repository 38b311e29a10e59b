use Rattle.std.proofs.Common.{◌≡◌}
use Rattle.flow_view.specs.Counts.{counts_before}
use Rattle.flow_view.proofs.count.counts_with.Given as goal

abbrev pub invariant-loop-index : goal.invariant-loop-index
invariant-loop-index g l = l.counts.items ≡ counts_before l.index l.windows l.entrants
