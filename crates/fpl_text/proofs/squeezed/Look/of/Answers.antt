use Rattle.fpl_text.proofs.LookLemmas.{look-is}
use Rattle.fpl_text.proofs.squeezed.Look.of.Goals as goal

pub returns-clause-look : goal.returns-clause-look
returns-clause-look c f held = look-is f c.args.classes _ _ _ held c.bits_from.ensures.bits c.bits_from-2.ensures.bits c.bits_from-3.ensures.bits
