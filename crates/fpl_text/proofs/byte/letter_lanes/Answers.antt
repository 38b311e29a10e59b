use Rattle.std.proofs.Common.{ap, get_or}
use Rattle.fpl_text.specs.Lanes.{flag}
use Rattle.fpl_text.proofs.LaneLemmas.{lanes-same, letters_are}
use Rattle.fpl_text.proofs.byte.letter_lanes.Goals as goal

pub returns : goal.returns
returns c = lanes-same _ _ _ (λ k l. ap flag (letters_are (get_or c.args.v k 0))) c.between.ensures
