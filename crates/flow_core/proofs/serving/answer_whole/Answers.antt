use Rattle.std.proofs.Common.{◌∙◌, arith, refl}
use Rattle.flow_input.specs.NextFrame.{filing_kept}
use Rattle.flow_core.specs.History.{state_of}
use Rattle.flow_core.proofs.Undoables.{undoable-same, undoable-both, more-same, more-both}
use Rattle.flow_core.proofs.Serves.{Serving-more, Served-none, Served-one, Served-both, Answered-not, Stopped-answered, Stopped-part, err_is, err-made, in_both}
use Rattle.flow_core.proofs.serving.answer_whole.Goals as goal

pub returns-in_err-answer_frame-clause-answered : goal.returns-in_err-answer_frame-clause-answered
returns-in_err-answer_frame-clause-answered g c =
    rw (err-made c.from_residual.result c.from_residual.ensures.1) (λ no first begun input rest agrees serving. in_both c.in_err-answer_frame.ensures.error_kinds (λ w. absurd (no w)) (λ m.
    let kept = c.in_err-answer_frame.ensures.nothing (err_is m) in
    Answered-not first (state_of c.frames.core) begun (g.W.Write.contents c.frames.writer.device) c.frames.input input rest (Serving-more first (state_of c.args.core.now) (state_of c.frames.core) begun (g.W.Write.contents c.args.writer.now.device) (g.W.Write.contents c.frames.writer.device)
    c.args.input.now c.frames.input input rest rest serving (c.frames.invariant.serving rest agrees)) c.take_whole.new.self rest
    (filing_kept c.take_whole.new.self.item) (c.take_whole.ensures.gave c.frames-test.true rest (c.frames.invariant.agrees rest agrees))
    (state_of c.answer_frame.new.core) (g.W.Write.contents c.answer_frame.new.writer.device) kept.0 kept.1))

pub returns-in_err-answer_frame-clause-fault : goal.returns-in_err-answer_frame-clause-fault
returns-in_err-answer_frame-clause-fault g c =
    rw (err-made c.from_residual.result c.from_residual.ensures.1) (λ first begun input rest agrees serving. in_both c.in_err-answer_frame.ensures.error_kinds
    (λ w. Stopped-part first (state_of c.frames.core) begun (g.W.Write.contents c.frames.writer.device) c.frames.input input rest (Serving-more first (state_of c.args.core.now) (state_of c.frames.core) begun (g.W.Write.contents c.args.writer.now.device) (g.W.Write.contents c.frames.writer.device)
    c.args.input.now c.frames.input input rest rest serving (c.frames.invariant.serving rest agrees)) c.take_whole.new.self rest
    (filing_kept c.take_whole.new.self.item) (c.take_whole.ensures.gave c.frames-test.true rest (c.frames.invariant.agrees rest agrees))
    (state_of c.answer_frame.new.core) (g.W.Write.contents c.answer_frame.new.writer.device)
    (c.in_err-answer_frame.ensures.part (err_is w)))
    (λ m.
    let kept = c.in_err-answer_frame.ensures.nothing (err_is m) in
    Stopped-answered first (state_of c.answer_frame.new.core) begun (g.W.Write.contents c.answer_frame.new.writer.device) input rest
    (Answered-not first (state_of c.frames.core) begun (g.W.Write.contents c.frames.writer.device) c.frames.input input rest (Serving-more first (state_of c.args.core.now) (state_of c.frames.core) begun (g.W.Write.contents c.args.writer.now.device) (g.W.Write.contents c.frames.writer.device)
    c.args.input.now c.frames.input input rest rest serving (c.frames.invariant.serving rest agrees)) c.take_whole.new.self rest
    (filing_kept c.take_whole.new.self.item) (c.take_whole.ensures.gave c.frames-test.true rest (c.frames.invariant.agrees rest agrees))
    (state_of c.answer_frame.new.core) (g.W.Write.contents c.answer_frame.new.writer.device) kept.0 kept.1)))

pub frames-init : goal.frames-init
frames-init g c = record {
  serving = λ rest agrees. Served-none (state_of c.args.core.now) (g.W.Write.contents c.args.writer.now.device) c.args.input.now rest;
  agrees = λ rest agrees. agrees;
  more = more-same _ _ refl;
  undoable = undoable-same _ _ refl;
  nearer = omega arith;
  writer_calm = refl;
}

pub frames-preserved : goal.frames-preserved
frames-preserved g c = record {
  serving = λ rest agrees.
      Served-both (state_of c.args.core.now) (state_of c.frames.core) (state_of c.answer_frame.new.core)
      (g.W.Write.contents c.args.writer.now.device) (g.W.Write.contents c.frames.writer.device) (g.W.Write.contents c.answer_frame.new.writer.device)
      c.args.input.now c.frames.input c.take_whole.new.self rest rest rest (c.frames.invariant.serving rest agrees)
      (Served-one (state_of c.frames.core) (state_of c.answer_frame.new.core) (g.W.Write.contents c.frames.writer.device) (g.W.Write.contents c.answer_frame.new.writer.device)
      c.frames.input c.take_whole.new.self rest rest (filing_kept c.take_whole.new.self.item) (c.take_whole.ensures.gave c.frames-test.true rest (c.frames.invariant.agrees rest agrees))
      c.in_ok-answer_frame.ensures.ok);
  agrees = λ rest agrees. c.take_whole.ensures.agrees rest (c.frames.invariant.agrees rest agrees);
  more = more-both _ _ _ c.frames.invariant.more c.answer_frame.ensures.more;
  undoable = undoable-both _ _ _ c.frames.invariant.undoable (c.in_ok-answer_frame.ensures.undoable (λ e. absurd (cc)));
  nearer = omega (arith, c.take_whole.ensures.nearer, c.frames.invariant.nearer);
  writer_calm = c.in_ok-answer_frame.ensures.failures ∙ c.frames.invariant.writer_calm;
}

pub returns-in_err-answer_frame-clause-more : goal.returns-in_err-answer_frame-clause-more
returns-in_err-answer_frame-clause-more g c = more-both _ _ _ c.frames.invariant.more c.answer_frame.ensures.more
