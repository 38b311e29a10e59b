use Rattle.fpl_text.proofs.SqueezingLawsProofs.{squeezed-is, squeezed-stays, squeezed-again}
use Rattle.fpl_text.proofs.laws.squeezing_ends.Goals as goal

pub returns-clause-squeezed : goal.returns-clause-squeezed
returns-clause-squeezed c = squeezed-is

pub returns-clause-stays : goal.returns-clause-stays
returns-clause-stays c = squeezed-stays

pub returns-clause-again : goal.returns-clause-again
returns-clause-again c = squeezed-again
