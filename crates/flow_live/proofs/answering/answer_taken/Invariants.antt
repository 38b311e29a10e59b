use Rattle.std.proofs.Common.{◌-◌, ◌≤◌, List, ℕ, Option}
use Rattle.flow_input.specs.Reader.{Agrees}
use Rattle.flow_live.specs.Feeding.{CutsTaken, Prepares}
use Rattle.flow_live.specs.Keeping.{AnswersSeen}
use Rattle.flow_live.proofs.answering.answer_taken.Given as goal

abbrev pub invariant-frames : goal.invariant-frames
invariant-frames g l = record {
  serving : CutsTaken g.N.Name.setup l.fn.pass (λ (more : List (List ℕ)). Prepares g.N.Name.setup l.fn.pass more l.pass l.batch.answers.items l.batch.queue) l.fn.input l.input;
  agrees : (rest : Option (List ℕ)) → Agrees l.fn.input rest → Agrees l.input rest;
  nearer : l.fn.input.taken ≤ l.input.taken;
  seen : AnswersSeen g.N.Name.setup l.pass l.batch.seen l.batch.answers.items;
}

abbrev pub decreases-frames : goal.decreases-frames
decreases-frames g l = 4000000000 - l.input.taken
