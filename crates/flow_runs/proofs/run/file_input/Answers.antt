use Rattle.std.proofs.Common.{ℕ, List, IfSome, map, inl, inr, sym, subst}
use Rattle.flow_plans.specs.Settings.{SetupView}
use Rattle.fpl_message.specs.Filings.{FilingView}
use Rattle.flow_input.specs.Frames.{frames}
use Rattle.flow_input.proofs.Results.{err_again}
use Rattle.std.specs.Io.KnownBytes.{Appends}
use Rattle.flow_runs.specs.Filing.{HasFiled}
use Rattle.flow_runs.specs.Reading.{HasRead, long_lines}
use Rattle.flow_core.proofs.Serves.{err-made}
use Rattle.flow_runs.proofs.Ran.{if-some}
use Rattle.flow_runs.proofs.run.file_input.Goals as goal

pub returns-in_err-feeds-clause-much : goal.returns-in_err-feeds-clause-much
returns-in_err-feeds-clause-much g c =
    rw (err-made c.from_residual.result c.from_residual.ensures.1) (λ e. c.in_err-feeds.ensures.much (err_again e))

pub returns-in_err-feeds-clause-others : goal.returns-in_err-feeds-clause-others
returns-in_err-feeds-clause-others g c =
    rw (err-made c.from_residual.result c.from_residual.ensures.1) c.in_err-feeds.ensures.others

pub returns-in_err-feeds-clause-reader : goal.returns-in_err-feeds-clause-reader
returns-in_err-feeds-clause-reader g c =
    rw (err-made c.from_residual.result c.from_residual.ensures.1) c.in_err-feeds.ensures.reader

pub returns-in_err-feeds-clause-writer : goal.returns-in_err-feeds-clause-writer
returns-in_err-feeds-clause-writer g c =
    rw (err-made c.from_residual.result c.from_residual.ensures.1) c.in_err-feeds.ensures.writer

pub returns-in_err-feeds-clause-remaining : goal.returns-in_err-feeds-clause-remaining
returns-in_err-feeds-clause-remaining g c =
    rw (err-made c.from_residual.result c.from_residual.ensures.1) (inl c.in_err-feeds.ensures.told)

pub returns-in_err-filed-clause-reader : goal.returns-in_err-filed-clause-reader
returns-in_err-filed-clause-reader g c =
    rw (err-made c.from_residual-in_err-filed.result c.from_residual-in_err-filed.ensures.1, c.in_err-filed.ensures.fault) c.in_ok-feeds.ensures.reader

pub returns-in_err-filed-clause-writer : goal.returns-in_err-filed-clause-writer
returns-in_err-filed-clause-writer g c =
    rw (err-made c.from_residual-in_err-filed.result c.from_residual-in_err-filed.ensures.1, c.in_err-filed.ensures.fault) c.in_ok-feeds.ensures.writer

pub returns-in_err-filed-clause-remaining : goal.returns-in_err-filed-clause-remaining
returns-in_err-filed-clause-remaining g c =
    let begun = g.W.Write.contents c.args.writer.now.device in
    let written = g.W.Write.contents c.read_all.new.writer.device in
    let feeds : List (List FilingView) = c.in_ok-feeds.field-0.feeds.items in
    rw (err-made c.from_residual-in_err-filed.result c.from_residual-in_err-filed.ensures.1)
    (inr (
      c.in_err-filed.ensures.fault,
      if-some {P = λ bytes. HasRead c.feeders.result (frames bytes) feeds c.in_ok-feeds.field-0.count begun written} {Q = λ bytes. Appends begun written (long_lines (frames bytes))}
          (g.R.Read.remaining c.args.reader.now.device) (λ bytes has. has.told) c.in_ok-feeds.ensures.has,
    ))

pub returns-clause-filed : goal.returns-clause-filed
returns-clause-filed g c =
    let feeds : List (List FilingView) = c.in_ok-feeds.field-0.feeds.items in
    let begun = g.W.Write.contents c.args.writer.now.device in
    let written = g.W.Write.contents c.read_all.new.writer.device in
    let has = subst (λ (n : ℕ). IfSome (g.R.Read.remaining c.args.reader.now.device) (λ bytes. HasRead n (frames bytes) feeds c.in_ok-feeds.field-0.count begun written)) c.feeders.ensures c.in_ok-feeds.ensures.has in (
      feeds,
      subst (λ (q : SetupView). HasFiled q c.args.blank.entries c.args.blank.feeders feeds c.in_ok-filed.filed.core c.in_ok-filed.filed.stop) (sym c.requires.named.1)
          (subst (λ (n : ℕ). HasFiled g.N.Name.setup c.args.blank.entries n feeds c.in_ok-filed.filed.core c.in_ok-filed.filed.stop) (sym c.requires.named.2) c.in_ok-filed.ensures.filed),
      has,
    )
