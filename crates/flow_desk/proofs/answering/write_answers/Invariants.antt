use Rattle.std.proofs.Common.{Ok, take}
use Rattle.flow_input.specs.Writes.{Writes}
use Rattle.flow_input.specs.declared.counted.WriteFault.{WriteFault}
use Rattle.flow_core.specs.History.{state_of}
use Rattle.flow_core.proofs.JournalTexts.{part}
use Rattle.flow_desk.specs.Followers.{answers_with}
use Rattle.flow_desk.proofs.answering.write_answers.Given as goal

abbrev pub invariant-loop-index : goal.invariant-loop-index
invariant-loop-index g l =
    Writes {T = Unit {0}} {E = WriteFault} g.W.Write.contents (Ok (tt {0})) l.fn.writer l.writer
    (answers_with l.end (state_of l.core) (take l.index (part l.from l.to (state_of l.core).journal)))
