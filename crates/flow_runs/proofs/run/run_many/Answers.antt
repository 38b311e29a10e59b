use Rattle.std.proofs.Common.{◌≡◌, ◌∙◌, [], List, false, ap, subst, refl}
use Rattle.flow_plans.specs.Settings.{SetupView}
use Rattle.flow_core.specs.State.{EntryView}
use Rattle.flow_desk.proofs.Faults.{journal-fresh}
use Rattle.flow_runs.specs.declared.fault.RunFault.{RunFault}
use Rattle.flow_input.specs.Frames.{frames}
use Rattle.flow_input.proofs.Results.{err_again}
use Rattle.flow_core.specs.History.{History, state_of}
use Rattle.flow_core.proofs.Serves.{err-made, err_is}
use Rattle.flow_runs.specs.ManyRuns.{RanMany, RanTo, EndedBy}
use Rattle.flow_runs.specs.declared.fault.RunFault.TheVariants as fault
use Rattle.flow_runs.proofs.Ran.{ended-first, if-some}
use Rattle.flow_runs.proofs.run.run_many.Goals as goal

pub returns-in_err-core-clause-remaining : goal.returns-in_err-core-clause-remaining
returns-in_err-core-clause-remaining g c =
    rw (err-made c.from_residual.result c.from_residual.ensures.1)
    (ended-first c.args.setup.now [] c.args.feeders c.args.journal fault.OutOfMemory (g.W.Write.contents c.args.writer.now.device) (g.R.Read.remaining c.args.reader.now.device) (λ e. cc))

pub returns-in_err-run_dealt-clause-remaining : goal.returns-in_err-run_dealt-clause-remaining
returns-in_err-run_dealt-clause-remaining g c =
    let none : (state_of c.in_ok-core.core).journal ≡ [] = ap (λ (h : History). (state_of h).journal) c.in_ok-core.ensures ∙ journal-fresh c.args.setup.now false in
    let begun = g.W.Write.contents c.args.writer.now.device in
    let written = g.W.Write.contents c.run_dealt.new.writer.device in
    let input = g.R.Read.remaining c.args.reader.now.device in
    let rest = g.R.Read.remaining c.run_dealt.new.reader.device in
    let e : RunFault = c.in_err-run_dealt.field-0.0 in
    rw (err-made c.from_residual-in_err-run_dealt.result c.from_residual-in_err-run_dealt.ensures.1)
    (subst (λ (es : List EntryView). EndedBy e c.args.setup.now es c.args.feeders c.args.journal begun written input rest) none
    (subst (λ (s : SetupView). EndedBy e s (state_of c.in_ok-core.core).journal c.args.feeders c.args.journal begun written input rest) (ap (λ (h : History). h.setup) c.in_ok-core.ensures)
    c.in_err-run_dealt.ensures.remaining))

pub returns-in_err-run_dealt-clause-reader : goal.returns-in_err-run_dealt-clause-reader
returns-in_err-run_dealt-clause-reader g c =
    rw (err-made c.from_residual-in_err-run_dealt.result c.from_residual-in_err-run_dealt.ensures.1) c.in_err-run_dealt.ensures.reader

pub returns-in_err-run_dealt-clause-writer : goal.returns-in_err-run_dealt-clause-writer
returns-in_err-run_dealt-clause-writer g c =
    rw (err-made c.from_residual-in_err-run_dealt.result c.from_residual-in_err-run_dealt.ensures.1) c.in_err-run_dealt.ensures.writer

pub returns-in_err-run_dealt-clause-much : goal.returns-in_err-run_dealt-clause-much
returns-in_err-run_dealt-clause-much g c =
    rw (err-made c.from_residual-in_err-run_dealt.result c.from_residual-in_err-run_dealt.ensures.1) (λ e. c.in_err-run_dealt.ensures.much (err_again e))

pub returns-in_err-run_dealt-clause-no_reader : goal.returns-in_err-run_dealt-clause-no_reader
returns-in_err-run_dealt-clause-no_reader g c =
    rw (err-made c.from_residual-in_err-run_dealt.result c.from_residual-in_err-run_dealt.ensures.1) (λ e. c.in_err-run_dealt.ensures.no_reader (err_again e))

pub returns-in_err-run_dealt-clause-others : goal.returns-in_err-run_dealt-clause-others
returns-in_err-run_dealt-clause-others g c =
    let none : (state_of c.in_ok-core.core).journal ≡ [] = ap (λ (h : History). (state_of h).journal) c.in_ok-core.ensures ∙ journal-fresh c.args.setup.now false in
    rw (err-made c.from_residual-in_err-run_dealt.result c.from_residual-in_err-run_dealt.ensures.1)
    (c.in_err-run_dealt.ensures.bad_journal, λ e. c.in_err-run_dealt.ensures.beyond.0 (err_is e) (rw none refl))

pub returns-clause-ran : goal.returns-clause-ran
returns-clause-ran g c =
    let none : (state_of c.in_ok-core.core).journal ≡ [] = ap (λ (h : History). (state_of h).journal) c.in_ok-core.ensures ∙ journal-fresh c.args.setup.now false in
    let begun = g.W.Write.contents c.args.writer.now.device in
    let written = g.W.Write.contents c.run_dealt.new.writer.device in
    let setup : SetupView = c.in_ok-core.core.setup in
    let read : List EntryView = (state_of c.in_ok-core.core).journal in
    if-some {P = λ bytes. RanTo setup read c.args.feeders c.args.journal (frames bytes) begun written c.in_ok-run_dealt.field-0.core} {Q = λ bytes. RanMany c.args.setup.now [] c.args.feeders c.args.journal (frames bytes) begun written}
    (g.R.Read.remaining c.args.reader.now.device)
    (λ bytes ran. subst (λ (es : List EntryView). RanMany c.args.setup.now es c.args.feeders c.args.journal (frames bytes) begun written) none
    (subst (λ (s : SetupView). RanMany s read c.args.feeders c.args.journal (frames bytes) begun written) (ap (λ (h : History). h.setup) c.in_ok-core.ensures) ran.0)) c.in_ok-run_dealt.ensures.ran
