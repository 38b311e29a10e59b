use Rattle.fpl_message.proofs.EditionLemmas.{reading_of-same}
use Rattle.fpl_message.proofs.laws.editions_differ_in_open.Goals as goal

pub returns : goal.returns
returns c = λ bytes h. reading_of-same bytes h
