use Rattle.std.proofs.Common.{sym, ap, ◌∙◌, refl}
use Rattle.flow_input.specs.NextFrame.{filing_kept}
use Rattle.flow_core.specs.History.{state_of}
use Rattle.flow_core.proofs.Serves.{served-long, said-long}
use Rattle.flow_core.proofs.Undoables.{undoable-same, more-same}
use Rattle.flow_core.proofs.serving.answer_frame.Goals as goal

pub returns-in_default-clause-ok : goal.returns-in_default-clause-ok
returns-in_default-clause-ok g c = λ frame k.
    let s = state_of c.args.core.now in
    let k' = sym (ap filing_kept c.in_default.ensures) ∙ k in
    (sym (served-long s frame k'), rw (said-long s frame k') (rw c.too_long_line.ensures at c.in_ok-write_bytes.ensures.ok))

pub returns-in_err-write_bytes-clause-part : goal.returns-in_err-write_bytes-clause-part
returns-in_err-write_bytes-clause-part g c = λ e frame k.
    let s = state_of c.args.core.now in
    let k' = sym (ap filing_kept c.in_default.ensures) ∙ k in
    (sym (served-long s frame k'), rw (said-long s frame k') (rw c.too_long_line.ensures at c.in_err-write_bytes.ensures.err))

pub returns-in_default-clause-undoable : goal.returns-in_default-clause-undoable
returns-in_default-clause-undoable g c = λ not. undoable-same _ _ refl

pub returns-in_err-write_bytes-clause-undoable : goal.returns-in_err-write_bytes-clause-undoable
returns-in_err-write_bytes-clause-undoable g c = λ not. undoable-same _ _ refl

pub returns-in_default-clause-more : goal.returns-in_default-clause-more
returns-in_default-clause-more g c = more-same _ _ refl

pub returns-in_err-write_bytes-clause-more : goal.returns-in_err-write_bytes-clause-more
returns-in_err-write_bytes-clause-more g c = more-same _ _ refl
