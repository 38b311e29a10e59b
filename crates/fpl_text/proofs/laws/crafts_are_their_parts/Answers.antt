use Rattle.fpl_text.proofs.FieldPartsProofs.{craft_is}
use Rattle.fpl_text.proofs.laws.crafts_are_their_parts.Goals as goal

pub returns : goal.returns
returns c = craft_is
