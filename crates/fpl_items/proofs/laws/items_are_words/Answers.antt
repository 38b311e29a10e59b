use Rattle.fpl_items.proofs.ItemLawsProofs.{items-found, items-only, items-of_field}
use Rattle.fpl_items.proofs.laws.items_are_words.Goals as goal

pub returns-clause-found : goal.returns-clause-found
returns-clause-found c = items-found

pub returns-clause-only : goal.returns-clause-only
returns-clause-only c = items-only

pub returns-clause-field : goal.returns-clause-field
returns-clause-field c = items-of_field
