use Rattle.std.proofs.Common.{arith}
use Rattle.flow_core.proofs.Digits.{digits-put}
use Rattle.flow_core.proofs.answer.put_below_10_000.Goals as goal

pub returns-clause-items : goal.returns-clause-items
returns-clause-items c = digits-put c.args.line.now.items c.put_below_100-2.new.line.items c.put_pair.new.line.items c.args.number c.if-number-lt100.false (omega (arith, c.requires.below)) c.put_below_100-2.ensures.items c.put_pair.ensures.items
