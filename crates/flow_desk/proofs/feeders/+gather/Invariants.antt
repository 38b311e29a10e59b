use Rattle.std.proofs.Common.{length}
use Rattle.flow_desk.proofs.feeders.+gather.Given as goal

abbrev pub decreases-gather : goal.decreases-gather
decreases-gather g l = length l.passes.now.items
