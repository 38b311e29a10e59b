use Rattle.fpl_text.proofs.FieldPartsProofs.{ident_is}
use Rattle.fpl_text.proofs.laws.idents_are_their_parts.Goals as goal

pub returns : goal.returns
returns c = ident_is
