use Rattle.fpl_items.proofs.RouteLawsProofs.{elements_law}
use Rattle.fpl_items.proofs.laws.elements_are_words.Goals as goal

pub returns-clause-words : goal.returns-clause-words
returns-clause-words c = λ field path read. (elements_law field path read).all

pub returns-clause-order : goal.returns-clause-order
returns-clause-order c = λ field path read. (elements_law field path read).order
