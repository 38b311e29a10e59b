use Rattle.flow_regulations.proofs.MarkBits.{set-stands, or-first, stands-late}
use Rattle.flow_regulations.proofs.held_marks.with_mark.Goals as goal

pub returns-then-index-lt64-clause-marked : goal.returns-then-index-lt64-clause-marked
returns-then-index-lt64-clause-marked c = set-stands c.args.word c.args.index c.if-index-lt64.true

pub returns-then-index-lt64-clause-kept : goal.returns-then-index-lt64-clause-kept
returns-then-index-lt64-clause-kept c = or-first c.args.word _

pub returns-else-index-lt64-clause-marked : goal.returns-else-index-lt64-clause-marked
returns-else-index-lt64-clause-marked c = stands-late c.args.word c.args.index c.if-index-lt64.false
