use Rattle.std.proofs.Common.{◌∙◌, arith}
use Rattle.std.proofs.lemmas.List.{drop_all}
use Rattle.examples.proofs.shared.file_ready.Goals as goal

pub returns-in-Ok-clause-all : goal.returns-in-Ok-clause-all
returns-in-Ok-clause-all g c = λ _. c.in-Ok.ensures.most ∙ drop_all c.len-count.result c.args.ready.now (omega (arith, c.len-count.ensures))
