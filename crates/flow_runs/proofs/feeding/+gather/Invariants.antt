use Rattle.std.proofs.Common.{length}
use Rattle.flow_runs.proofs.feeding.+gather.Given as goal

abbrev pub decreases-gather : goal.decreases-gather
decreases-gather g l = length l.passes.now.items
