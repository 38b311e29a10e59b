use Rattle.fpl_items.proofs.SpeedLawsProofs.{cut-found, cut-only}
use Rattle.fpl_items.proofs.laws.speed_and_level_have_one_cut.Goals as goal

pub returns-clause-found : goal.returns-clause-found
returns-clause-found c = cut-found

pub returns-clause-only : goal.returns-clause-only
returns-clause-only c = λ word speed level h. cut-only word speed level h
