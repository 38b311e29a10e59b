use Rattle.flow_regulations.proofs.Marking.{marked-none}
use Rattle.flow_regulations.proofs.held_marks.HeldMarks.clear.Goals as goal

pub returns : goal.returns
returns g c = λ ls. rw c.clear.ensures.items (marked-none ls)
