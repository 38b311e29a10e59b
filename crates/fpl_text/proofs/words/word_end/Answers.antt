use Rattle.fpl_text.proofs.WordsLemmas.{end-some, end-none}
use Rattle.fpl_text.proofs.words.word_end.Goals as goal

pub returns-in-Some-clause-split : goal.returns-in-Some-clause-split
returns-in-Some-clause-split c = end-some c.args.text.now c.args.from c.in-Some.end c.requires c.in-Some.ensures

pub returns-in-None-clause-split : goal.returns-in-None-clause-split
returns-in-None-clause-split c = end-none c.args.text.now c.args.from c.requires c.in-None.ensures
