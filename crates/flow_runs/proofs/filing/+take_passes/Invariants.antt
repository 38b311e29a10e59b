use Rattle.std.proofs.Common.{length}
use Rattle.flow_runs.proofs.filing.+take_passes.Given as goal

abbrev pub decreases-take_passes : goal.decreases-take_passes
decreases-take_passes g l = length l.feeds.now.items
