use Rattle.flow_regulations.proofs.Stays.{advice-same, quiet-same}
use Rattle.flow_regulations.proofs.laws.quiet_stays.Goals as goal

pub returns-clause-advice : goal.returns-clause-advice
returns-clause-advice c = λ taxi number p before after k. advice-same taxi number p before after k

pub returns-clause-quiet : goal.returns-clause-quiet
returns-clause-quiet c = λ taxi number p told before after k q. quiet-same taxi number p told before after k q
