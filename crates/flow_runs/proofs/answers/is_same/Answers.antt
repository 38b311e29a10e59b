use Rattle.flow_core.proofs.Comparing.{one-history}
use Rattle.std.proofs.Common.{sym}
use Rattle.flow_runs.proofs.answers.is_same.Goals as goal

pub returns : goal.returns
returns g c = c.same.ensures.1 (one-history c.args.core.now c.args.again.now (sym c.requires.setup) (sym c.requires.filed))
