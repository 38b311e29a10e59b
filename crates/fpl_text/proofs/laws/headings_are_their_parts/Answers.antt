use Rattle.fpl_text.proofs.FieldPartsProofs.{heading_is, message_number_is}
use Rattle.fpl_text.proofs.laws.headings_are_their_parts.Goals as goal

pub returns-clause-field : goal.returns-clause-field
returns-clause-field c = heading_is

pub returns-clause-number : goal.returns-clause-number
returns-clause-number c = message_number_is
