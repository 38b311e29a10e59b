use Rattle.flow_regulations.proofs.MarkBits.{stands-late, none-later, next-later, next-stands}
use Rattle.std.proofs.Common.{arith}
use Rattle.flow_regulations.proofs.held_marks.next_marked.Goals as goal

pub returns-then-index-ge64-clause-marked : goal.returns-then-index-ge64-clause-marked
returns-then-index-ge64-clause-marked c = stands-late c.args.word c.args.index c.if-index-ge64.true

pub returns-then-later-eq0-clause-passed : goal.returns-then-later-eq0-clause-passed
returns-then-later-eq0-clause-passed c = λ i a b. none-later c.args.word c.args.index i a b c.if-later-eq0.true

pub returns-then-later-eq0-clause-marked : goal.returns-then-later-eq0-clause-marked
returns-then-later-eq0-clause-marked c = stands-late c.args.word 64 (omega arith)

pub returns-clause-passed : goal.returns-clause-passed
returns-clause-passed c = λ i a b. next-later c.args.word c.args.index c.ranges.word.fits c.if-later-eq0.false i a b

pub returns-clause-marked : goal.returns-clause-marked
returns-clause-marked c = next-stands c.args.word c.args.index c.ranges.word.fits c.if-later-eq0.false
