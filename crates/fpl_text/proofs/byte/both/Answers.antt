use Rattle.fpl_text.proofs.LaneLemmas.{lanes-both}
use Rattle.fpl_text.proofs.byte.both.Goals as goal

pub returns : goal.returns
returns c = lanes-both c.args.a c.args.b
