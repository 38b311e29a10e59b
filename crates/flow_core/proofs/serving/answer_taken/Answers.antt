use Rattle.flow_input.specs.NextFrame.{filing_kept}
use Rattle.flow_core.specs.History.{state_of}
use Rattle.flow_core.proofs.Undoables.{undoable-both, more-both}
use Rattle.flow_core.proofs.Serves.{Serving-more, Served-one, Served-both, Answered-not, Stopped-answered, Stopped-part, err_is, err-made, in_both}
use Rattle.flow_core.proofs.serving.answer_taken.Goals as goal

pub returns-clause-serving : goal.returns-clause-serving
returns-clause-serving g c = λ ahead mid rest gave agrees.
    Served-both (state_of c.args.core.now) (state_of c.answer_frame.new.core) (state_of c.answer_whole.new.core)
    (g.W.Write.contents c.args.writer.now.device) (g.W.Write.contents c.answer_frame.new.writer.device) (g.W.Write.contents c.answer_whole.new.writer.device)
    ahead c.args.input.now c.answer_whole.new.input mid rest rest
    (Served-one (state_of c.args.core.now) (state_of c.answer_frame.new.core) (g.W.Write.contents c.args.writer.now.device) (g.W.Write.contents c.answer_frame.new.writer.device)
    ahead c.args.input.now mid rest (filing_kept c.args.input.now.item) gave c.in_ok-answer_frame.ensures.ok)
    (c.in_ok-answer_whole.ensures.serving rest agrees)

pub returns-in_err-answer_frame-clause-answered : goal.returns-in_err-answer_frame-clause-answered
returns-in_err-answer_frame-clause-answered g c =
    rw (err-made c.from_residual.result c.from_residual.ensures.1) (λ no ahead mid rest gave agrees first begun input serving. in_both c.in_err-answer_frame.ensures.error_kinds (λ w. absurd (no w)) (λ m.
    let kept = c.in_err-answer_frame.ensures.nothing (err_is m) in
    Answered-not first (state_of c.args.core.now) begun (g.W.Write.contents c.args.writer.now.device) ahead input mid serving c.args.input.now rest
    (filing_kept c.args.input.now.item) gave (state_of c.answer_frame.new.core) (g.W.Write.contents c.answer_frame.new.writer.device) kept.0 kept.1))

pub returns-in_err-answer_frame-clause-fault : goal.returns-in_err-answer_frame-clause-fault
returns-in_err-answer_frame-clause-fault g c =
    rw (err-made c.from_residual.result c.from_residual.ensures.1) (λ ahead mid rest gave agrees first begun input serving. in_both c.in_err-answer_frame.ensures.error_kinds
    (λ w. Stopped-part first (state_of c.args.core.now) begun (g.W.Write.contents c.args.writer.now.device) ahead input mid serving c.args.input.now rest
    (filing_kept c.args.input.now.item) gave (state_of c.answer_frame.new.core) (g.W.Write.contents c.answer_frame.new.writer.device) (c.in_err-answer_frame.ensures.part (err_is w)))
    (λ m.
    let kept = c.in_err-answer_frame.ensures.nothing (err_is m) in
    Stopped-answered first (state_of c.answer_frame.new.core) begun (g.W.Write.contents c.answer_frame.new.writer.device) input rest
    (Answered-not first (state_of c.args.core.now) begun (g.W.Write.contents c.args.writer.now.device) ahead input mid serving c.args.input.now rest
    (filing_kept c.args.input.now.item) gave (state_of c.answer_frame.new.core) (g.W.Write.contents c.answer_frame.new.writer.device) kept.0 kept.1)))

pub returns-in_err-answer_whole-clause-answered : goal.returns-in_err-answer_whole-clause-answered
returns-in_err-answer_whole-clause-answered g c =
    rw (err-made c.from_residual-in_err-answer_whole.result c.from_residual-in_err-answer_whole.ensures.1) (λ no ahead mid rest gave agrees first begun input serving.
    c.in_err-answer_whole.ensures.answered no first begun input rest agrees
    (Serving-more first (state_of c.args.core.now) (state_of c.answer_frame.new.core) begun (g.W.Write.contents c.args.writer.now.device) (g.W.Write.contents c.answer_frame.new.writer.device)
    ahead c.args.input.now input mid rest serving
    (Served-one (state_of c.args.core.now) (state_of c.answer_frame.new.core) (g.W.Write.contents c.args.writer.now.device) (g.W.Write.contents c.answer_frame.new.writer.device)
    ahead c.args.input.now mid rest (filing_kept c.args.input.now.item) gave c.in_ok-answer_frame.ensures.ok)))

pub returns-in_err-answer_whole-clause-fault : goal.returns-in_err-answer_whole-clause-fault
returns-in_err-answer_whole-clause-fault g c =
    rw (err-made c.from_residual-in_err-answer_whole.result c.from_residual-in_err-answer_whole.ensures.1) (λ ahead mid rest gave agrees first begun input serving.
    c.in_err-answer_whole.ensures.fault first begun input rest agrees
    (Serving-more first (state_of c.args.core.now) (state_of c.answer_frame.new.core) begun (g.W.Write.contents c.args.writer.now.device) (g.W.Write.contents c.answer_frame.new.writer.device)
    ahead c.args.input.now input mid rest serving
    (Served-one (state_of c.args.core.now) (state_of c.answer_frame.new.core) (g.W.Write.contents c.args.writer.now.device) (g.W.Write.contents c.answer_frame.new.writer.device)
    ahead c.args.input.now mid rest (filing_kept c.args.input.now.item) gave c.in_ok-answer_frame.ensures.ok)))

pub returns-clause-more : goal.returns-clause-more
returns-clause-more g c = more-both _ _ _ c.answer_frame.ensures.more c.answer_whole.ensures.more

pub returns-in_err-answer_whole-clause-more : goal.returns-in_err-answer_whole-clause-more
returns-in_err-answer_whole-clause-more g c = more-both _ _ _ c.answer_frame.ensures.more c.answer_whole.ensures.more

pub returns-clause-undoable : goal.returns-clause-undoable
returns-clause-undoable g c = λ no. undoable-both _ _ _ (c.in_ok-answer_frame.ensures.undoable (λ e. absurd (cc))) (c.in_ok-answer_whole.ensures.undoable (λ e. absurd (cc)))
