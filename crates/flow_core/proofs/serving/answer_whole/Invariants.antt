use Rattle.std.proofs.Common.{◌≡◌, ◌-◌, ◌≤◌, List, ℕ, Option}
use Rattle.flow_core.specs.History.{state_of, HasMore, KeepsUndoable}
use Rattle.flow_input.specs.Reader.{Agrees}
use Rattle.flow_core.specs.Serving.{ComesOn}
use Rattle.flow_core.proofs.serving.answer_whole.Given as goal

abbrev pub invariant-frames : goal.invariant-frames
invariant-frames g l = record {
  serving : ComesOn (state_of l.fn.core) (state_of l.core) (g.W.Write.contents l.fn.writer.device) (g.W.Write.contents l.writer.device) l.fn.input l.input;
  agrees : (rest : Option (List ℕ)) → Agrees l.fn.input rest → Agrees l.input rest;
  more : HasMore l.fn.core l.core;
  undoable : KeepsUndoable l.fn.core l.core;
  nearer : l.fn.input.taken ≤ l.input.taken;
  writer_calm : l.writer.failures ≡ l.fn.writer.failures;
}

abbrev pub decreases-frames : goal.decreases-frames
decreases-frames g l = 4000000000 - l.input.taken
