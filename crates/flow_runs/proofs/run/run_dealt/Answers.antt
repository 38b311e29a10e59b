use Rattle.std.proofs.Common.{◌≡◌, ◌∙◌, List, ℕ, IfSome, sym, ap, arith, subst}
use mathlib.Core.List.{IsPrefix}
use Rattle.flow_plans.specs.Settings.{SetupView}
use Rattle.flow_input.specs.Frames.{frames}
use Rattle.flow_input.proofs.Results.{err_again}
use Rattle.flow_core.specs.State.{EntryView}
use Rattle.flow_core.specs.History.{state_of}
use Rattle.flow_core.proofs.Serves.{err-made, err_is}
use Rattle.flow_desk.specs.declared.blank.DeskFault.TheVariants as desk
use Rattle.flow_runs.specs.Filing.{HasFiled}
use Rattle.flow_runs.specs.Faults.{writer_failures_with}
use Rattle.flow_runs.specs.Reading.{HasRead}
use Rattle.flow_runs.specs.declared.fault.RunFault.TheVariants as fault
use Rattle.flow_runs.proofs.Failures.{no-desk, beyond, reader-calm}
use Rattle.flow_runs.proofs.Ran.{RanTo-all, ended-before, ended-filed, ended-first, some-of}
use Rattle.flow_runs.proofs.run.run_dealt.Goals as goal

-- without a desk
pub returns-in-Err-clause-beyond : goal.returns-in-Err-clause-beyond
returns-in-Err-clause-beyond g c = (
  λ e.
      let bad : c.why_no_desk.result ≡ fault.BadFeeders = cc in
      let b = beyond c.in-Err.fault c.why_no_desk.result c.why_no_desk.ensures bad in
      (λ none. absurd (cc (none, ((c.in-Err.ensures.beyond b.0).0 b.1).2))),
  λ some.
      let number = some-of _ some in
      let is : c.in-Err.fault ≡ desk.FeederBeyond number.0 = (c.in-Err.ensures.beyond number.0).1 (omega (arith, c.requires.0), c.requires.1, number.1) in
      err_is (rw is at c.why_no_desk.ensures),
)

pub returns-in-Err-clause-remaining : goal.returns-in-Err-clause-remaining
returns-in-Err-clause-remaining g c =
    ended-first c.args.core.setup (state_of c.args.core).journal c.args.feeders c.args.journal c.why_no_desk.result (g.W.Write.contents c.args.writer.now.device) (g.R.Read.remaining c.args.reader.now.device) (no-desk c.in-Err.fault c.why_no_desk.result c.why_no_desk.ensures).begun

pub returns-in-Err-clause-reader : goal.returns-in-Err-clause-reader
returns-in-Err-clause-reader g c = sym ((no-desk c.in-Err.fault c.why_no_desk.result c.why_no_desk.ensures).reads c.args.reader.now.failures)

pub returns-in-Err-clause-writer : goal.returns-in-Err-clause-writer
returns-in-Err-clause-writer g c = sym ((no-desk c.in-Err.fault c.why_no_desk.result c.why_no_desk.ensures).writes c.args.writer.now.failures)

pub returns-in-Err-clause-bad_journal : goal.returns-in-Err-clause-bad_journal
returns-in-Err-clause-bad_journal g c = (no-desk c.in-Err.fault c.why_no_desk.result c.why_no_desk.ensures).journal

pub returns-in-Err-clause-much : goal.returns-in-Err-clause-much
returns-in-Err-clause-much g c = λ e.
    let much : c.why_no_desk.result ≡ fault.TooMuch = cc in
    absurd ((no-desk c.in-Err.fault c.why_no_desk.result c.why_no_desk.ensures).much much)

-- before anything was filed
pub returns-in_err-filed-clause-much : goal.returns-in_err-filed-clause-much
returns-in_err-filed-clause-much g c = rw (err-made c.from_residual.result c.from_residual.ensures.1) (λ e. c.in_err-filed.ensures.much (err_again e))

pub returns-in_err-filed-clause-reader : goal.returns-in_err-filed-clause-reader
returns-in_err-filed-clause-reader g c = rw (err-made c.from_residual.result c.from_residual.ensures.1) c.in_err-filed.ensures.reader

pub returns-in_err-filed-clause-writer : goal.returns-in_err-filed-clause-writer
returns-in_err-filed-clause-writer g c = rw (err-made c.from_residual.result c.from_residual.ensures.1) c.in_err-filed.ensures.writer

pub returns-in_err-filed-clause-bad_journal : goal.returns-in_err-filed-clause-bad_journal
returns-in_err-filed-clause-bad_journal g c = rw (err-made c.from_residual.result c.from_residual.ensures.1) c.in_err-filed.ensures.others.0

pub returns-in_err-filed-clause-beyond : goal.returns-in_err-filed-clause-beyond
returns-in_err-filed-clause-beyond g c = rw (err-made c.from_residual.result c.from_residual.ensures.1) (
  λ e.
      let bad : c.in_err-filed.field-0.0 ≡ fault.BadFeeders = cc in
      absurd (c.in_err-filed.ensures.others.1 bad),
  λ some. absurd (some c.in-Ok.ensures.within),
)

pub returns-in_err-filed-clause-bad_feeders : goal.returns-in_err-filed-clause-bad_feeders
returns-in_err-filed-clause-bad_feeders g c = rw (err-made c.from_residual.result c.from_residual.ensures.1) (λ e.
    let bad : c.in_err-filed.field-0.0 ≡ fault.BadFeeders = cc in
    absurd (c.in_err-filed.ensures.others.1 bad))

pub returns-in_err-filed-clause-no_reader : goal.returns-in_err-filed-clause-no_reader
returns-in_err-filed-clause-no_reader g c = rw (err-made c.from_residual.result c.from_residual.ensures.1) (λ e.
    let none : c.in_err-filed.field-0.0 ≡ fault.NoReader = cc in
    absurd (c.in_err-filed.ensures.others.2 none))

pub returns-in_err-filed-clause-remaining : goal.returns-in_err-filed-clause-remaining
returns-in_err-filed-clause-remaining g c =
    rw (err-made c.from_residual.result c.from_residual.ensures.1)
    (ended-before c.args.core.setup (state_of c.args.core).journal c.args.feeders c.args.journal c.in_err-filed.field-0.0 (g.W.Write.contents c.args.writer.now.device) (g.W.Write.contents c.file_input.new.writer.device)
    (g.R.Read.remaining c.args.reader.now.device) (g.R.Read.remaining c.file_input.new.reader.device) c.in_err-filed.ensures.remaining)

-- when the feeders had filed
pub returns-in_err-answer_all-clause-reader : goal.returns-in_err-answer_all-clause-reader
returns-in_err-answer_all-clause-reader g c =
    rw (err-made c.from_residual-in_err-answer_all.result c.from_residual-in_err-answer_all.ensures.1)
    (c.in_ok-filed.ensures.reader ∙ sym (reader-calm c.in_err-answer_all.field-0.0 c.args.reader.now.failures c.in_err-answer_all.ensures.error_kinds.0))

pub returns-in_err-answer_all-clause-writer : goal.returns-in_err-answer_all-clause-writer
returns-in_err-answer_all-clause-writer g c =
    rw (err-made c.from_residual-in_err-answer_all.result c.from_residual-in_err-answer_all.ensures.1)
    (c.in_err-answer_all.ensures.writer ∙ ap (writer_failures_with c.in_err-answer_all.field-0.0) c.in_ok-filed.ensures.writer)

pub returns-in_err-answer_all-clause-bad_journal : goal.returns-in_err-answer_all-clause-bad_journal
returns-in_err-answer_all-clause-bad_journal g c =
    rw (err-made c.from_residual-in_err-answer_all.result c.from_residual-in_err-answer_all.ensures.1) c.in_err-answer_all.ensures.error_kinds.2

pub returns-in_err-answer_all-clause-beyond : goal.returns-in_err-answer_all-clause-beyond
returns-in_err-answer_all-clause-beyond g c = rw (err-made c.from_residual-in_err-answer_all.result c.from_residual-in_err-answer_all.ensures.1) (
  λ e.
      let bad : c.in_err-answer_all.field-0.0 ≡ fault.BadFeeders = cc in
      absurd (c.in_err-answer_all.ensures.error_kinds.3 bad),
  λ some. absurd (some c.in-Ok.ensures.within),
)

pub returns-in_err-answer_all-clause-bad_feeders : goal.returns-in_err-answer_all-clause-bad_feeders
returns-in_err-answer_all-clause-bad_feeders g c = rw (err-made c.from_residual-in_err-answer_all.result c.from_residual-in_err-answer_all.ensures.1) (λ e.
    let bad : c.in_err-answer_all.field-0.0 ≡ fault.BadFeeders = cc in
    absurd (c.in_err-answer_all.ensures.error_kinds.3 bad))

pub returns-in_err-answer_all-clause-no_reader : goal.returns-in_err-answer_all-clause-no_reader
returns-in_err-answer_all-clause-no_reader g c = rw (err-made c.from_residual-in_err-answer_all.result c.from_residual-in_err-answer_all.ensures.1) (λ e.
    let none : c.in_err-answer_all.field-0.0 ≡ fault.NoReader = cc in
    absurd (c.in_err-answer_all.ensures.error_kinds.4 none))

pub returns-in_err-answer_all-clause-remaining : goal.returns-in_err-answer_all-clause-remaining
returns-in_err-answer_all-clause-remaining g c =
    let filed = c.in_ok-filed.ensures.filed in
    let now = c.in_ok-filed.filed.core in
    let stop = c.in_ok-filed.filed.stop in
    let input = g.R.Read.remaining c.args.reader.now.device in
    let begun = g.W.Write.contents c.args.writer.now.device in
    let mid = g.W.Write.contents c.file_input.new.writer.device in
    let is = c.in-Ok.ensures.made in
    let has = subst (λ (n : ℕ). IfSome input (λ bytes. HasRead n (frames bytes) filed.0 c.in_ok-filed.count begun mid)) is.1 filed.2 in
    let f = subst (λ (q : SetupView). HasFiled q (state_of c.args.core).journal c.args.feeders filed.0 now stop) is.0
    (subst (λ (es : List EntryView). HasFiled c.in-Ok.blank.setup es c.args.feeders filed.0 now stop) is.2
    (subst (λ (n : ℕ). HasFiled c.in-Ok.blank.setup c.in-Ok.blank.entries n filed.0 now stop) is.1 filed.1)) in
    rw (err-made c.from_residual-in_err-answer_all.result c.from_residual-in_err-answer_all.ensures.1)
    (ended-filed c.args.core.setup (state_of c.args.core).journal c.args.feeders c.args.journal c.in_err-answer_all.field-0.0 input (g.R.Read.remaining c.file_input.new.reader.device) filed.0 c.in_ok-filed.count
    begun mid (g.W.Write.contents c.answer_all.new.writer.device) now stop c.entries-read.result has f c.entries-read.ensures.count c.in_err-answer_all.ensures.remaining)

-- all was answered
pub returns-clause-more : goal.returns-clause-more
returns-clause-more g c =
    let f = c.in_ok-filed.ensures.filed.1 in
    let now = c.in_ok-filed.filed.core in
    let more : (now.setup ≡ c.in-Ok.blank.setup) × IsPrefix c.in-Ok.blank.entries (state_of now).journal = (f.setup_is, (f.entries, sym f.journal)) in
    rw (c.in-Ok.ensures.made.0, c.in-Ok.ensures.made.2) at more

pub returns-clause-ran : goal.returns-clause-ran
returns-clause-ran g c =
    let filed = c.in_ok-filed.ensures.filed in
    let now = c.in_ok-filed.filed.core in
    let stop = c.in_ok-filed.filed.stop in
    let input = g.R.Read.remaining c.args.reader.now.device in
    let begun = g.W.Write.contents c.args.writer.now.device in
    let mid = g.W.Write.contents c.file_input.new.writer.device in
    let is = c.in-Ok.ensures.made in
    let has = subst (λ (n : ℕ). IfSome input (λ bytes. HasRead n (frames bytes) filed.0 c.in_ok-filed.count begun mid)) is.1 filed.2 in
    let f = subst (λ (q : SetupView). HasFiled q (state_of c.args.core).journal c.args.feeders filed.0 now stop) is.0
    (subst (λ (es : List EntryView). HasFiled c.in-Ok.blank.setup es c.args.feeders filed.0 now stop) is.2
    (subst (λ (n : ℕ). HasFiled c.in-Ok.blank.setup c.in-Ok.blank.entries n filed.0 now stop) is.1 filed.1)) in
    RanTo-all c.args.core.setup (state_of c.args.core).journal c.args.feeders c.args.journal input filed.0 c.in_ok-filed.count
    begun mid (g.W.Write.contents c.answer_all.new.writer.device) now stop c.entries-read.result has f c.in_ok-answer_all.ensures.whole c.entries-read.ensures.count c.in_ok-answer_all.ensures.ok
