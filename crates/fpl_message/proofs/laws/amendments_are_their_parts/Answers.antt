use Rattle.fpl_message.proofs.AmendmentLawsProofs.{amendment-found, amendment-only}
use Rattle.fpl_message.proofs.laws.amendments_are_their_parts.Goals as goal

pub returns-clause-found : goal.returns-clause-found
returns-clause-found c = amendment-found

pub returns-clause-only : goal.returns-clause-only
returns-clause-only c = λ field text number i. amendment-only field number text i
