use Rattle.std.proofs.Common.{◌≡◌, Ok, refl, sym, ap, ◌∙◌, subst}
use Rattle.flow_input.specs.Frames.{frames}
use Rattle.flow_input.proofs.Results.{err_again}
use Rattle.flow_core.specs.History.{state_of}
use Rattle.flow_core.proofs.Serves.{err-made, err_is}
use Rattle.flow_runs.specs.declared.fault.RunFault.TheVariants.{TooMuch, BadJournal, BadFeeders, NoReader}
use Rattle.flow_runs.specs.ManyRuns.{RanMany, RanTo, HoldsSome, HoldsBeyond}
use Rattle.flow_runs.specs.Faults.{fault_of_journal, reader_failures_with}
use Rattle.flow_runs.proofs.Failures.{journal-reader, journal-writer, journal-others, bad-journal}
use Rattle.flow_runs.proofs.Ran.{HoldsBeyond-made, HoldsSome-made, RanOn-made, ended-on, ended-on-first, if-some, none-unless, not-with, some-of}
use Rattle.flow_runs.proofs.run.run_resumed.Goals as goal

pub returns-in_err-core-clause-remaining : goal.returns-in_err-core-clause-remaining
returns-in_err-core-clause-remaining g c =
    let others = journal-others c.in_err-core.field-0.0 in
    rw (err-made c.from_residual.result c.from_residual.ensures.1) (ended-on-first (fault_of_journal c.in_err-core.field-0.0) c.args.feeders c.args.journal (g.W.Write.contents c.args.writer.now.device) (g.R.Read.remaining c.args.reader.now.device) (g.R.Read.remaining c.read_journal.new.reader.device) others.much others.written others.begun)

pub returns-in_err-core-clause-reader : goal.returns-in_err-core-clause-reader
returns-in_err-core-clause-reader g c =
    rw (err-made c.from_residual.result c.from_residual.ensures.1) (c.in_err-core.ensures.failures ∙ journal-reader c.in_err-core.field-0.0 c.args.reader.now.failures)

pub returns-in_err-core-clause-writer : goal.returns-in_err-core-clause-writer
returns-in_err-core-clause-writer g c =
    rw (err-made c.from_residual.result c.from_residual.ensures.1) (sym (journal-writer c.in_err-core.field-0.0 c.args.writer.now.failures))

pub returns-in_err-core-clause-bad_journal : goal.returns-in_err-core-clause-bad_journal
returns-in_err-core-clause-bad_journal g c =
    rw (err-made c.from_residual.result c.from_residual.ensures.1) (λ e.
    let bad : fault_of_journal c.in_err-core.field-0.0 ≡ BadJournal = cc in
    (c.in_err-core.ensures.none (err_is (bad-journal c.in_err-core.field-0.0 bad)), refl))

pub returns-in_err-core-clause-much : goal.returns-in_err-core-clause-much
returns-in_err-core-clause-much g c =
    rw (err-made c.from_residual.result c.from_residual.ensures.1) (λ e.
    let much : fault_of_journal c.in_err-core.field-0.0 ≡ TooMuch = cc in
    absurd ((journal-others c.in_err-core.field-0.0).much much))

pub returns-in_err-core-clause-bad_feeders : goal.returns-in_err-core-clause-bad_feeders
returns-in_err-core-clause-bad_feeders g c =
    rw (err-made c.from_residual.result c.from_residual.ensures.1) (λ e.
    let bad : fault_of_journal c.in_err-core.field-0.0 ≡ BadFeeders = cc in
    absurd ((journal-others c.in_err-core.field-0.0).feeders bad))

pub returns-in_err-core-clause-no_reader : goal.returns-in_err-core-clause-no_reader
returns-in_err-core-clause-no_reader g c =
    rw (err-made c.from_residual.result c.from_residual.ensures.1) (λ e.
    let none : fault_of_journal c.in_err-core.field-0.0 ≡ NoReader = cc in
    absurd ((journal-others c.in_err-core.field-0.0).reader none))

pub returns-in_err-run_dealt-clause-remaining : goal.returns-in_err-run_dealt-clause-remaining
returns-in_err-run_dealt-clause-remaining g c =
    let e = c.in_err-run_dealt.field-0.0 in
    rw (err-made c.from_residual-in_err-run_dealt.result c.from_residual-in_err-run_dealt.ensures.1)
    (ended-on e c.in_ok-core.core.setup c.in_ok-core.core.filed c.args.feeders c.args.journal (g.W.Write.contents c.args.writer.now.device) (g.W.Write.contents c.run_dealt.new.writer.device)
    (g.R.Read.remaining c.args.reader.now.device) (g.R.Read.remaining c.read_journal.new.reader.device) (g.R.Read.remaining c.run_dealt.new.reader.device) c.in_ok-core.ensures.holds c.in_err-run_dealt.ensures.bad_journal
    (λ other. none-unless _ c.in_err-run_dealt.ensures.beyond.1 (λ is. other (cc (is)))) c.in_err-run_dealt.ensures.remaining)

pub returns-in_err-run_dealt-clause-reader : goal.returns-in_err-run_dealt-clause-reader
returns-in_err-run_dealt-clause-reader g c =
    rw (err-made c.from_residual-in_err-run_dealt.result c.from_residual-in_err-run_dealt.ensures.1) (c.in_err-run_dealt.ensures.reader ∙ ap (reader_failures_with c.in_err-run_dealt.field-0.0) c.in_ok-core.ensures.failures)

pub returns-in_err-run_dealt-clause-writer : goal.returns-in_err-run_dealt-clause-writer
returns-in_err-run_dealt-clause-writer g c =
    rw (err-made c.from_residual-in_err-run_dealt.result c.from_residual-in_err-run_dealt.ensures.1) c.in_err-run_dealt.ensures.writer

pub returns-in_err-run_dealt-clause-much : goal.returns-in_err-run_dealt-clause-much
returns-in_err-run_dealt-clause-much g c =
    rw (err-made c.from_residual-in_err-run_dealt.result c.from_residual-in_err-run_dealt.ensures.1)
    (λ e. record { setup = c.in_ok-core.core.setup; filed = c.in_ok-core.core.filed; mid = g.R.Read.remaining c.read_journal.new.reader.device; holds = c.in_ok-core.ensures.holds; overrun = c.in_err-run_dealt.ensures.much (err_again e) })

pub returns-in_err-run_dealt-clause-bad_journal : goal.returns-in_err-run_dealt-clause-bad_journal
returns-in_err-run_dealt-clause-bad_journal g c =
    rw (err-made c.from_residual-in_err-run_dealt.result c.from_residual-in_err-run_dealt.ensures.1) (λ e.
    let bad : c.in_err-run_dealt.field-0.0 ≡ BadJournal = cc in
    absurd (c.in_err-run_dealt.ensures.bad_journal bad))

pub returns-in_err-run_dealt-clause-bad_feeders : goal.returns-in_err-run_dealt-clause-bad_feeders
returns-in_err-run_dealt-clause-bad_feeders g c =
    rw (err-made c.from_residual-in_err-run_dealt.result c.from_residual-in_err-run_dealt.ensures.1) (λ e.
    let same = c.in_err-run_dealt.ensures.bad_feeders (err_again e) in
    let number = some-of _ (c.in_err-run_dealt.ensures.beyond.0 (err_again e)) in
    let begun = g.R.Read.remaining c.args.reader.now.device in (
      subst (λ r. HoldsBeyond c.args.feeders begun (g.R.Read.remaining r.device)) (sym same.0)
          (HoldsBeyond-made c.in_ok-core.core.setup c.in_ok-core.core.filed c.args.feeders number.0 begun (g.R.Read.remaining c.read_journal.new.reader.device) c.in_ok-core.ensures.holds number.1),
      same.1,
    ))

pub returns-in_err-run_dealt-clause-no_reader : goal.returns-in_err-run_dealt-clause-no_reader
returns-in_err-run_dealt-clause-no_reader g c =
    rw (err-made c.from_residual-in_err-run_dealt.result c.from_residual-in_err-run_dealt.ensures.1) (λ e.
    let same = c.in_err-run_dealt.ensures.no_reader (err_again e) in
    let begun = g.R.Read.remaining c.args.reader.now.device in (
      subst (λ r. HoldsSome begun (g.R.Read.remaining r.device)) (sym same.0)
          (HoldsSome-made c.in_ok-core.core.setup c.in_ok-core.core.filed begun (g.R.Read.remaining c.read_journal.new.reader.device) c.in_ok-core.ensures.holds),
      same.1,
    ))

pub returns-clause-ran : goal.returns-clause-ran
returns-clause-ran g c =
    let begun = g.W.Write.contents c.args.writer.now.device in
    let written = g.W.Write.contents c.run_dealt.new.writer.device in
    let mid = g.R.Read.remaining c.read_journal.new.reader.device in
    RanOn-made c.in_ok-core.core.setup c.in_ok-core.core.filed c.args.feeders c.args.journal (g.R.Read.remaining c.args.reader.now.device) mid begun written
    c.in_ok-core.ensures.holds (none-unless _ c.in_ok-run_dealt.ensures.beyond.1 (λ is. not-with (Ok c.in_ok-run_dealt.field-0) tt is)) c.in_ok-run_dealt.ensures.within
    (if-some {P = λ bytes. RanTo c.in_ok-core.core.setup (state_of c.in_ok-core.core).journal c.args.feeders c.args.journal (frames bytes) begun written c.in_ok-run_dealt.field-0.core} {Q = λ bytes. RanMany c.in_ok-core.core.setup (state_of c.in_ok-core.core).journal c.args.feeders c.args.journal (frames bytes) begun written}
    mid (λ bytes ran. ran.0) c.in_ok-run_dealt.ensures.ran)
