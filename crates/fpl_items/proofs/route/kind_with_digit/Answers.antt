use Rattle.std.proofs.Common.{arith}
use Rattle.fpl_items.proofs.KindsLemmas.{kind-designator, kind-digit}
use Rattle.fpl_items.proofs.route.kind_with_digit.Goals as goal

pub returns-then-word-ge2 : goal.returns-then-word-ge2
returns-then-word-ge2 c = kind-designator c.args.word.now c.requires.digit c.requires.alone (omega arith) c.requires.short

pub returns-else-word-ge2 : goal.returns-else-word-ge2
returns-else-word-ge2 c = kind-digit c.args.word.now c.requires.digit c.requires.alone (omega arith)
