use Rattle.std.proofs.Common.{length}
use Rattle.flow_live.proofs.run.+unseat_all.Given as goal

abbrev pub decreases-unseat_all : goal.decreases-unseat_all
decreases-unseat_all g l = length l.seated.now.items
