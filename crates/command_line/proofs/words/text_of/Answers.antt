use Rattle.std.proofs.Common.{rules}
use Rattle.command_line.specs.Words.{Tells}
use Rattle.command_line.proofs.words.text_of.Goals as goal

pub returns-in_default-clause-fault : goal.returns-in_default-clause-fault
returns-in_default-clause-fault c = Tells.out_of_memory _ _

pub returns-in-Err-clause-fault : goal.returns-in-Err-clause-fault
returns-in-Err-clause-fault c =
    Tells.not_text _ _ _ (search rules) c.in-Err.ensures.cases.0 (search rules)
