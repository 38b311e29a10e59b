use Rattle.flow_input.proofs.Texts.{frames-text}
use Rattle.flow_input.proofs.laws.no_byte_is_lost.Goals as goal

pub returns : goal.returns
returns c = frames-text
