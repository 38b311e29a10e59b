use Rattle.flow_regulations.proofs.MarkBits.{cut-stands, stands-late}
use Rattle.flow_regulations.proofs.held_marks.with_place.Goals as goal

pub returns-then-index-ge64-clause-marked : goal.returns-then-index-ge64-clause-marked
returns-then-index-ge64-clause-marked c = λ _. stands-late c.args.word c.args.index c.if-index-ge64.true

pub returns-clause-before : goal.returns-clause-before
returns-clause-before c = λ i l s. c.mark_where.ensures.kept i (cut-stands c.args.word c.args.index c.if-index-ge64.false i l s)
