use Rattle.std.proofs.Common.{sym, subst, List, ℕ}
use Rattle.flow_regulations.specs.Marks.{AreMarked}
use Rattle.flow_regulations.proofs.Marking.{marked-none}
use Rattle.flow_regulations.proofs.held_marks.HeldMarks.new.Goals as goal

pub returns : goal.returns
returns g c = λ ls. rw c.new.ensures.items (marked-none ls)
