use Rattle.std.proofs.Common.{sym, ap, ◌∙◌, subst, List, ℕ, arith, ◌≡◌, ◌-◌, length, refl}
use Rattle.std.specs.Io.KnownBytes.{Appends}
use Rattle.flow_input.specs.NextFrame.{second}
use Rattle.flow_input.specs.Writes.{AppendsFront}
use Rattle.flow_core.specs.History.{History, state_of}
use Rattle.flow_core.specs.Output.{answer_text}
use Rattle.flow_core.specs.State.{State}
use Rattle.flow_core.specs.Steps.{step}
use Rattle.flow_core.proofs.Undoables.{undoable-same, undoable-entered, more-none, more-same, more-entered}
use Rattle.flow_core.proofs.Serves.{served-whole, said-whole, served-full, said-full, err_is}
use Rattle.flow_core.proofs.serving.answer_filing.Goals as goal

pub returns-clause-ok : goal.returns-clause-ok
returns-clause-ok g c = λ frame k.
    let s = state_of c.args.core.now in
    let room = c.in-Ok.ensures.ok.room in
    let last : c.in-Ok.receipt.number - 1 ≡ length (state_of c.args.core.now).journal = omega (arith, c.in-Ok.ensures.ok.number) in
    let text = ap (λ (t : State). answer_text t (c.in-Ok.receipt.number - 1)) c.in-Ok.ensures.ok.state
    ∙ ap (λ (n : ℕ). answer_text (step s (record { feeder = 0; text = second c.args.bytes.now })) n) last ∙ sym (said-whole s frame (second c.args.bytes.now) k room) in (
      c.in-Ok.ensures.ok.state ∙ sym (served-whole s frame (second c.args.bytes.now) k room),
      subst (λ (bs : List ℕ). Appends (g.W.Write.contents c.args.writer.now.device) (g.W.Write.contents c.write_answer.new.writer.device) bs) text c.in_ok-write_answer.ensures.ok,
    )

pub returns-in_err-write_answer-clause-part : goal.returns-in_err-write_answer-clause-part
returns-in_err-write_answer-clause-part g c = λ e frame k.
    let s = state_of c.args.core.now in
    let room = c.in-Ok.ensures.ok.room in
    let last : c.in-Ok.receipt.number - 1 ≡ length (state_of c.args.core.now).journal = omega (arith, c.in-Ok.ensures.ok.number) in
    let text = ap (λ (t : State). answer_text t (c.in-Ok.receipt.number - 1)) c.in-Ok.ensures.ok.state
    ∙ ap (λ (n : ℕ). answer_text (step s (record { feeder = 0; text = second c.args.bytes.now })) n) last ∙ sym (said-whole s frame (second c.args.bytes.now) k room) in (
      c.in-Ok.ensures.ok.state ∙ sym (served-whole s frame (second c.args.bytes.now) k room),
      subst (λ (bs : List ℕ). AppendsFront (g.W.Write.contents c.args.writer.now.device) (g.W.Write.contents c.write_answer.new.writer.device) bs) text c.in_err-write_answer.ensures.err,
    )

pub returns-in-Err-JournalFull-clause-ok : goal.returns-in-Err-JournalFull-clause-ok
returns-in-Err-JournalFull-clause-ok g c = λ frame k.
    let s = state_of c.args.core.now in
    let full = c.in-Err-JournalFull.ensures.full (err_is c.in-Err-JournalFull.field-0-is) in (
      ap state_of (c.in-Err-JournalFull.ensures.same (err_is c.in-Err-JournalFull.field-0-is)) ∙ sym (served-full s frame (second c.args.bytes.now) k full),
      rw (said-full s frame (second c.args.bytes.now) k full) (rw c.journal_full_line.ensures at c.in_ok-write_bytes-in-Err-JournalFull.ensures.ok),
    )

pub returns-in_err-write_bytes-in-Err-JournalFull-clause-part : goal.returns-in_err-write_bytes-in-Err-JournalFull-clause-part
returns-in_err-write_bytes-in-Err-JournalFull-clause-part g c = λ e frame k.
    let full = c.in-Err-JournalFull.ensures.full (err_is c.in-Err-JournalFull.field-0-is) in (
      ap state_of (c.in-Err-JournalFull.ensures.same (err_is c.in-Err-JournalFull.field-0-is)) ∙ sym (served-full (state_of c.args.core.now) frame (second c.args.bytes.now) k full),
      rw (said-full (state_of c.args.core.now) frame (second c.args.bytes.now) k full) (rw c.journal_full_line.ensures at c.in_err-write_bytes-in-Err-JournalFull.ensures.err),
    )

pub returns-in-Err-OutOfMemory-clause-nothing : goal.returns-in-Err-OutOfMemory-clause-nothing
returns-in-Err-OutOfMemory-clause-nothing g c = λ e. (ap state_of (c.in-Err-OutOfMemory.ensures.memory (err_is c.in-Err-OutOfMemory.field-0-is)), refl)

pub returns-clause-undoable : goal.returns-clause-undoable
returns-clause-undoable g c = λ not. undoable-entered _ _ _ c.in-Ok.ensures.ok

pub returns-in_err-write_answer-clause-undoable : goal.returns-in_err-write_answer-clause-undoable
returns-in_err-write_answer-clause-undoable g c = λ not. undoable-entered _ _ _ c.in-Ok.ensures.ok

pub returns-in-Err-JournalFull-clause-undoable : goal.returns-in-Err-JournalFull-clause-undoable
returns-in-Err-JournalFull-clause-undoable g c = λ not. undoable-same _ _ (c.in-Err-JournalFull.ensures.same (err_is c.in-Err-JournalFull.field-0-is))

pub returns-in_err-write_bytes-in-Err-JournalFull-clause-undoable : goal.returns-in_err-write_bytes-in-Err-JournalFull-clause-undoable
returns-in_err-write_bytes-in-Err-JournalFull-clause-undoable g c = λ not. undoable-same _ _ (c.in-Err-JournalFull.ensures.same (err_is c.in-Err-JournalFull.field-0-is))

pub returns-clause-more : goal.returns-clause-more
returns-clause-more g c = more-entered _ _ _ c.in-Ok.ensures.ok

pub returns-in_err-write_answer-clause-more : goal.returns-in_err-write_answer-clause-more
returns-in_err-write_answer-clause-more g c = more-entered _ _ _ c.in-Ok.ensures.ok

pub returns-in-Err-JournalFull-clause-more : goal.returns-in-Err-JournalFull-clause-more
returns-in-Err-JournalFull-clause-more g c = more-same _ _ (c.in-Err-JournalFull.ensures.same (err_is c.in-Err-JournalFull.field-0-is))

pub returns-in_err-write_bytes-in-Err-JournalFull-clause-more : goal.returns-in_err-write_bytes-in-Err-JournalFull-clause-more
returns-in_err-write_bytes-in-Err-JournalFull-clause-more g c = more-same _ _ (c.in-Err-JournalFull.ensures.same (err_is c.in-Err-JournalFull.field-0-is))

pub returns-in-Err-OutOfMemory-clause-more : goal.returns-in-Err-OutOfMemory-clause-more
returns-in-Err-OutOfMemory-clause-more g c =
    let left = c.in-Err-OutOfMemory.ensures.memory (err_is c.in-Err-OutOfMemory.field-0-is) in
    more-none _ _ (ap (λ (h : History). h.setup) left) (ap (λ (h : History). h.filed) left)
