use Rattle.flow_plans.proofs.NextBits.{none-later, next-later}
use Rattle.flow_plans.proofs.texts.next_bit.Goals as goal

pub returns-then-later-eq0-clause-passed : goal.returns-then-later-eq0-clause-passed
returns-then-later-eq0-clause-passed c = λ i a b. none-later c.args.word c.args.from i a c.if-later-eq0.true

pub returns-clause-passed : goal.returns-clause-passed
returns-clause-passed c = λ i a b. next-later c.args.word c.args.from c.ranges.word.fits c.if-later-eq0.false i a b
