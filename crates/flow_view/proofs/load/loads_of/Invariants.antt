use Rattle.std.proofs.Common.{◌≡◌}
use Rattle.flow_view.specs.Load.{loads_before}
use Rattle.flow_view.proofs.load.loads_of.Given as goal

abbrev pub invariant-loop-index : goal.invariant-loop-index
invariant-loop-index g l = l.loads.items ≡ loads_before l.index l.step l.shape l.rows
