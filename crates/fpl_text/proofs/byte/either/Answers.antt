use Rattle.fpl_text.proofs.LaneLemmas.{lanes-either}
use Rattle.fpl_text.proofs.byte.either.Goals as goal

pub returns : goal.returns
returns c = lanes-either c.args.a c.args.b
