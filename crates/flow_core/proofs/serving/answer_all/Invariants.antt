use Rattle.std.proofs.Common.{◌≡◌, ◌-◌}
use Rattle.flow_core.specs.History.{state_of, HasMore, KeepsUndoable}
use Rattle.flow_input.specs.Reader.{Agrees}
use Rattle.flow_core.specs.Serving.{Serving}
use Rattle.flow_core.proofs.serving.answer_all.Given as goal

abbrev pub invariant-frames : goal.invariant-frames
invariant-frames g l = record {
  agrees : Agrees l.input (g.R.Read.remaining l.reader.device);
  serving : Serving (state_of l.fn.core) (state_of l.core) (g.W.Write.contents l.fn.writer.device) (g.W.Write.contents l.writer.device) l.input (g.R.Read.remaining l.fn.reader.device) (g.R.Read.remaining l.reader.device);
  more : HasMore l.fn.core l.core;
  undoable : KeepsUndoable l.fn.core l.core;
  reader_calm : l.reader.failures ≡ l.fn.reader.failures;
  writer_calm : l.writer.failures ≡ l.fn.writer.failures;
}

abbrev pub decreases-frames : goal.decreases-frames
decreases-frames g l = 4000000000 - l.input.taken
