use Rattle.std.proofs.Common.{◌≡◌, ◌++◌, length}
use Rattle.flow_live.specs.Told.{full_answers}
use Rattle.flow_live.proofs.answering.answer_left.Given as goal

abbrev pub invariant-left : goal.invariant-left
invariant-left g l = l.answers.items ++ full_answers (length l.queue) ≡ l.initial.answers.items ++ full_answers (length l.initial.queue)

abbrev pub decreases-left : goal.decreases-left
decreases-left g l = length l.queue
