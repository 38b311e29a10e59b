use Rattle.std.proofs.Common.{◌≡◌, ◌∙◌, refl}
use Rattle.flow_core.specs.declared.serving.ServeFault.TheVariants as serve
use Rattle.flow_core.specs.History.{state_of}
use Rattle.flow_core.specs.Serving.{fault_of}
use Rattle.flow_core.proofs.Undoables.{undoable-same, undoable-both, more-same, more-both}
use Rattle.flow_core.proofs.Serves.{Serving-start, Serving-more, Served-output, Served-state, Serving-kept, Served-within, Answered-here, Answered-none, Answered-start, Stopped-answered, Starved-read, Overrun-read, err_is, err-made, of-read, of-much}
use Rattle.flow_core.proofs.serving.answer_all.Goals as goal

pub returns-in_default-clause-fault : goal.returns-in_default-clause-fault
returns-in_default-clause-fault g c = Stopped-answered (state_of c.args.core.now) (state_of c.args.core.now) (g.W.Write.contents c.args.writer.now.device) (g.W.Write.contents c.args.writer.now.device) (g.R.Read.remaining c.args.reader.now.device) (g.R.Read.remaining c.args.reader.now.device)
    (Answered-start (state_of c.args.core.now) (g.W.Write.contents c.args.writer.now.device) (g.R.Read.remaining c.args.reader.now.device))

pub returns-in_default-clause-more : goal.returns-in_default-clause-more
returns-in_default-clause-more g c = more-same _ _ refl

pub returns-in_default-clause-answered : goal.returns-in_default-clause-answered
returns-in_default-clause-answered g c = λ no. Answered-start (state_of c.args.core.now) (g.W.Write.contents c.args.writer.now.device) (g.R.Read.remaining c.args.reader.now.device)

pub frames-init : goal.frames-init
frames-init g c = record {
  agrees = rw c.in-Ok.ensures (λ e. absurd (cc));
  serving = Serving-start (state_of c.args.core.now) (g.W.Write.contents c.args.writer.now.device) c.in-Ok.input (g.R.Read.remaining c.args.reader.now.device) c.in-Ok.ensures;
  more = more-same _ _ refl;
  undoable = undoable-same _ _ refl;
  reader_calm = refl;
  writer_calm = refl;
}

pub returns-in_err-hand_on-clause-fault : goal.returns-in_err-hand_on-clause-fault
returns-in_err-hand_on-clause-fault g c =
    rw (err-made c.from_residual.result c.from_residual.ensures.1) (Stopped-answered (state_of c.args.core.now) (state_of c.frames.core) (g.W.Write.contents c.args.writer.now.device) (g.W.Write.contents c.hand_on.new.writer.device) (g.R.Read.remaining c.args.reader.now.device) (g.R.Read.remaining c.frames.reader.device)
    (Answered-here (state_of c.args.core.now) (state_of c.frames.core) (g.W.Write.contents c.args.writer.now.device) (g.W.Write.contents c.hand_on.new.writer.device) c.frames.input (g.R.Read.remaining c.args.reader.now.device) (g.R.Read.remaining c.frames.reader.device)
    (Serving-kept (state_of c.args.core.now) (state_of c.frames.core) (g.W.Write.contents c.args.writer.now.device) (g.W.Write.contents c.frames.writer.device) (g.W.Write.contents c.hand_on.new.writer.device) c.frames.input (g.R.Read.remaining c.args.reader.now.device) (g.R.Read.remaining c.frames.reader.device) c.frames.invariant.serving c.hand_on.ensures.keeps)))

pub returns-in_err-found-clause-answered : goal.returns-in_err-found-clause-answered
returns-in_err-found-clause-answered g c =
    rw (err-made c.from_residual-in_err-found.result c.from_residual-in_err-found.ensures.1) (λ no.
    Answered-none (state_of c.args.core.now) (state_of c.frames.core) (g.W.Write.contents c.args.writer.now.device) (g.W.Write.contents c.hand_on.new.writer.device) c.frames.input (g.R.Read.remaining c.args.reader.now.device) (g.R.Read.remaining c.frames.reader.device)
    (Serving-kept (state_of c.args.core.now) (state_of c.frames.core) (g.W.Write.contents c.args.writer.now.device) (g.W.Write.contents c.frames.writer.device) (g.W.Write.contents c.hand_on.new.writer.device) c.frames.input (g.R.Read.remaining c.args.reader.now.device) (g.R.Read.remaining c.frames.reader.device) c.frames.invariant.serving c.hand_on.ensures.keeps) (g.R.Read.remaining c.take_frame.new.reader.device) c.in_err-found.ensures.going c.in_err-found.ensures.err)

pub returns-in_err-found-clause-fault : goal.returns-in_err-found-clause-fault
returns-in_err-found-clause-fault g c =
    rw (err-made c.from_residual-in_err-found.result c.from_residual-in_err-found.ensures.1) (Stopped-answered (state_of c.args.core.now) (state_of c.frames.core) (g.W.Write.contents c.args.writer.now.device) (g.W.Write.contents c.hand_on.new.writer.device) (g.R.Read.remaining c.args.reader.now.device) (g.R.Read.remaining c.take_frame.new.reader.device)
    (Answered-none (state_of c.args.core.now) (state_of c.frames.core) (g.W.Write.contents c.args.writer.now.device) (g.W.Write.contents c.hand_on.new.writer.device) c.frames.input (g.R.Read.remaining c.args.reader.now.device) (g.R.Read.remaining c.frames.reader.device)
    (Serving-kept (state_of c.args.core.now) (state_of c.frames.core) (g.W.Write.contents c.args.writer.now.device) (g.W.Write.contents c.frames.writer.device) (g.W.Write.contents c.hand_on.new.writer.device) c.frames.input (g.R.Read.remaining c.args.reader.now.device) (g.R.Read.remaining c.frames.reader.device) c.frames.invariant.serving c.hand_on.ensures.keeps) (g.R.Read.remaining c.take_frame.new.reader.device) c.in_err-found.ensures.going c.in_err-found.ensures.err))

pub returns-in_err-found-clause-starved : goal.returns-in_err-found-clause-starved
returns-in_err-found-clause-starved g c =
    rw (err-made c.from_residual-in_err-found.result c.from_residual-in_err-found.ensures.1) (λ e.
    let read : fault_of c.in_err-found.field-0.0 ≡ serve.Read = cc in
    Starved-read (state_of c.args.core.now) (state_of c.frames.core) (g.W.Write.contents c.args.writer.now.device) (g.W.Write.contents c.hand_on.new.writer.device) c.frames.input (g.R.Read.remaining c.args.reader.now.device) (g.R.Read.remaining c.frames.reader.device)
    (Serving-kept (state_of c.args.core.now) (state_of c.frames.core) (g.W.Write.contents c.args.writer.now.device) (g.W.Write.contents c.frames.writer.device) (g.W.Write.contents c.hand_on.new.writer.device) c.frames.input (g.R.Read.remaining c.args.reader.now.device) (g.R.Read.remaining c.frames.reader.device) c.frames.invariant.serving c.hand_on.ensures.keeps) (g.R.Read.remaining c.take_frame.new.reader.device) c.in_err-found.ensures.going (c.in_err-found.ensures.read (err_is (of-read c.in_err-found.field-0.0 read))))

pub returns-in_err-found-clause-much : goal.returns-in_err-found-clause-much
returns-in_err-found-clause-much g c =
    rw (err-made c.from_residual-in_err-found.result c.from_residual-in_err-found.ensures.1) (λ e.
    let much : fault_of c.in_err-found.field-0.0 ≡ serve.TooMuch = cc in
    Overrun-read (state_of c.args.core.now) (state_of c.frames.core) (g.W.Write.contents c.args.writer.now.device) (g.W.Write.contents c.hand_on.new.writer.device) c.frames.input (g.R.Read.remaining c.args.reader.now.device) (g.R.Read.remaining c.frames.reader.device)
    (Serving-kept (state_of c.args.core.now) (state_of c.frames.core) (g.W.Write.contents c.args.writer.now.device) (g.W.Write.contents c.frames.writer.device) (g.W.Write.contents c.hand_on.new.writer.device) c.frames.input (g.R.Read.remaining c.args.reader.now.device) (g.R.Read.remaining c.frames.reader.device) c.frames.invariant.serving c.hand_on.ensures.keeps) (g.R.Read.remaining c.take_frame.new.reader.device) (c.in_err-found.ensures.much (err_is (of-much c.in_err-found.field-0.0 much))))

pub returns-then-not-found-clause-served : goal.returns-then-not-found-clause-served
returns-then-not-found-clause-served g c =
    Served-output (state_of c.args.core.now) (state_of c.frames.core) (g.W.Write.contents c.args.writer.now.device) (g.W.Write.contents c.hand_on.new.writer.device) c.frames.input (g.R.Read.remaining c.args.reader.now.device) (g.R.Read.remaining c.frames.reader.device)
    (Serving-kept (state_of c.args.core.now) (state_of c.frames.core) (g.W.Write.contents c.args.writer.now.device) (g.W.Write.contents c.frames.writer.device) (g.W.Write.contents c.hand_on.new.writer.device) c.frames.input (g.R.Read.remaining c.args.reader.now.device) (g.R.Read.remaining c.frames.reader.device) c.frames.invariant.serving c.hand_on.ensures.keeps) c.take_frame.new.input (g.R.Read.remaining c.take_frame.new.reader.device) (rw c.if-not-found.true at c.in_ok-found.ensures.cuts) c.in_ok-found.ensures.agrees

pub returns-then-not-found-clause-state : goal.returns-then-not-found-clause-state
returns-then-not-found-clause-state g c =
    Served-state (state_of c.args.core.now) (state_of c.frames.core) (g.W.Write.contents c.args.writer.now.device) (g.W.Write.contents c.hand_on.new.writer.device) c.frames.input (g.R.Read.remaining c.args.reader.now.device) (g.R.Read.remaining c.frames.reader.device)
    (Serving-kept (state_of c.args.core.now) (state_of c.frames.core) (g.W.Write.contents c.args.writer.now.device) (g.W.Write.contents c.frames.writer.device) (g.W.Write.contents c.hand_on.new.writer.device) c.frames.input (g.R.Read.remaining c.args.reader.now.device) (g.R.Read.remaining c.frames.reader.device) c.frames.invariant.serving c.hand_on.ensures.keeps) c.take_frame.new.input (g.R.Read.remaining c.take_frame.new.reader.device) (rw c.if-not-found.true at c.in_ok-found.ensures.cuts) c.in_ok-found.ensures.agrees

pub returns-then-not-found-clause-within : goal.returns-then-not-found-clause-within
returns-then-not-found-clause-within g c =
    Served-within (state_of c.args.core.now) (state_of c.frames.core) (g.W.Write.contents c.args.writer.now.device) (g.W.Write.contents c.hand_on.new.writer.device) c.frames.input (g.R.Read.remaining c.args.reader.now.device) (g.R.Read.remaining c.frames.reader.device)
    (Serving-kept (state_of c.args.core.now) (state_of c.frames.core) (g.W.Write.contents c.args.writer.now.device) (g.W.Write.contents c.frames.writer.device) (g.W.Write.contents c.hand_on.new.writer.device) c.frames.input (g.R.Read.remaining c.args.reader.now.device) (g.R.Read.remaining c.frames.reader.device) c.frames.invariant.serving c.hand_on.ensures.keeps) c.take_frame.new.input (g.R.Read.remaining c.take_frame.new.reader.device) (rw c.if-not-found.true at c.in_ok-found.ensures.cuts) c.in_ok-found.ensures.agrees c.in_ok-found.ensures.most

pub returns-in_err-answer_taken-clause-answered : goal.returns-in_err-answer_taken-clause-answered
returns-in_err-answer_taken-clause-answered g c =
    rw (err-made c.from_residual-in_err-answer_taken.result c.from_residual-in_err-answer_taken.ensures.1) (λ no. c.in_err-answer_taken.ensures.answered no
    c.frames.input (g.R.Read.remaining c.frames.reader.device) (g.R.Read.remaining c.take_frame.new.reader.device) (rw c.if-not-found.false at c.in_ok-found.ensures.cuts) c.in_ok-found.ensures.agrees
    (state_of c.args.core.now) (g.W.Write.contents c.args.writer.now.device) (g.R.Read.remaining c.args.reader.now.device)
    (Serving-kept (state_of c.args.core.now) (state_of c.frames.core) (g.W.Write.contents c.args.writer.now.device) (g.W.Write.contents c.frames.writer.device) (g.W.Write.contents c.hand_on.new.writer.device) c.frames.input (g.R.Read.remaining c.args.reader.now.device) (g.R.Read.remaining c.frames.reader.device) c.frames.invariant.serving c.hand_on.ensures.keeps))

pub returns-in_err-answer_taken-clause-fault : goal.returns-in_err-answer_taken-clause-fault
returns-in_err-answer_taken-clause-fault g c =
    rw (err-made c.from_residual-in_err-answer_taken.result c.from_residual-in_err-answer_taken.ensures.1) (c.in_err-answer_taken.ensures.fault
    c.frames.input (g.R.Read.remaining c.frames.reader.device) (g.R.Read.remaining c.take_frame.new.reader.device) (rw c.if-not-found.false at c.in_ok-found.ensures.cuts) c.in_ok-found.ensures.agrees
    (state_of c.args.core.now) (g.W.Write.contents c.args.writer.now.device) (g.R.Read.remaining c.args.reader.now.device)
    (Serving-kept (state_of c.args.core.now) (state_of c.frames.core) (g.W.Write.contents c.args.writer.now.device) (g.W.Write.contents c.frames.writer.device) (g.W.Write.contents c.hand_on.new.writer.device) c.frames.input (g.R.Read.remaining c.args.reader.now.device) (g.R.Read.remaining c.frames.reader.device) c.frames.invariant.serving c.hand_on.ensures.keeps))

pub frames-preserved : goal.frames-preserved
frames-preserved g c = record {
  agrees = c.in_ok-answer_taken.ensures.agrees (g.R.Read.remaining c.take_frame.new.reader.device) c.in_ok-found.ensures.agrees;
  serving = Serving-more (state_of c.args.core.now) (state_of c.frames.core) (state_of c.answer_taken.new.core) (g.W.Write.contents c.args.writer.now.device) (g.W.Write.contents c.hand_on.new.writer.device) (g.W.Write.contents c.answer_taken.new.writer.device)
      c.frames.input c.answer_taken.new.input (g.R.Read.remaining c.args.reader.now.device) (g.R.Read.remaining c.frames.reader.device) (g.R.Read.remaining c.take_frame.new.reader.device)
      (Serving-kept (state_of c.args.core.now) (state_of c.frames.core) (g.W.Write.contents c.args.writer.now.device) (g.W.Write.contents c.frames.writer.device) (g.W.Write.contents c.hand_on.new.writer.device) c.frames.input (g.R.Read.remaining c.args.reader.now.device) (g.R.Read.remaining c.frames.reader.device) c.frames.invariant.serving c.hand_on.ensures.keeps)
      (c.in_ok-answer_taken.ensures.serving c.frames.input (g.R.Read.remaining c.frames.reader.device) (g.R.Read.remaining c.take_frame.new.reader.device) (rw c.if-not-found.false at c.in_ok-found.ensures.cuts) c.in_ok-found.ensures.agrees);
  more = more-both _ _ _ c.frames.invariant.more c.answer_taken.ensures.more;
  undoable = undoable-both _ _ _ c.frames.invariant.undoable (c.in_ok-answer_taken.ensures.undoable (λ e. absurd (cc)));
  reader_calm = c.in_ok-found.ensures.failures ∙ c.frames.invariant.reader_calm;
  writer_calm = c.in_ok-answer_taken.ensures.failures ∙ (c.in_ok-hand_on.ensures.failures ∙ c.frames.invariant.writer_calm);
}

pub returns-in_err-answer_taken-clause-more : goal.returns-in_err-answer_taken-clause-more
returns-in_err-answer_taken-clause-more g c = more-both _ _ _ c.frames.invariant.more c.answer_taken.ensures.more
