use Rattle.std.proofs.Common.{◌≡◌, ◌≢◌, ◌<◌, map, arith, ◌∙◌, ap, refl, sym, subst, true}
use Rattle.flow_input.specs.Reader.{InputView}
use Rattle.flow_input.specs.NextFrame.{filing_kept}
use Rattle.flow_core.proofs.Serves.{err-made, err_is}
use Rattle.flow_runs.specs.declared.fault.RunFault.{RunFault}
use Rattle.flow_runs.specs.declared.fault.RunFault.TheVariants as fault
use Rattle.flow_runs.specs.Faults.{fault_of_frame, reader_failures_with, writer_failures_with}
use Rattle.flow_runs.specs.Reading.{ToldUntil}
use Rattle.flow_input.proofs.Cuttings.{Cutting-within}
use Rattle.flow_runs.proofs.Failures.{frame-much, frame-others, frame-reader, frame-writer, part-reader}
use Rattle.flow_runs.proofs.Readings.{Reading-start, Reading-one, HasRead-end, Overrun-read, ToldFirst-none, ToldFirst-came, ToldEnded-read, told-no_frame, told-part}
use Rattle.flow_runs.proofs.dealing.read_all.Goals as goal

pub frames-init : goal.frames-init
frames-init g c =
    let taken : c.in_ok-input.input.taken ≡ 0 = ap (λ (a : InputView). a.taken) c.in_ok-input.ensures in
    record {
      agrees = rw c.in_ok-input.ensures (λ e. absurd (cc));
      reading = Reading-start c.args.feeders c.in_ok-dealt.dealt.feeds.items c.in_ok-dealt.dealt.count (g.W.Write.contents c.args.writer.now.device) c.in_ok-input.input (g.R.Read.remaining c.args.reader.now.device)
          c.in_ok-dealt.ensures.none c.in_ok-dealt.ensures.count c.in_ok-input.ensures;
      wide = c.in_ok-dealt.ensures.none.wide;
      few = omega (arith, c.in_ok-dealt.ensures.count, taken);
      within = omega (arith, taken);
      reader_calm = refl;
      writer_calm = refl;
    }

pub returns-in_err-found-clause-much : goal.returns-in_err-found-clause-much
returns-in_err-found-clause-much g c =
    rw (err-made c.from_residual-in_err-found.result c.from_residual-in_err-found.ensures.1) (λ e.
    let much : fault_of_frame c.in_err-found.field-0.0 ≡ fault.TooMuch = cc in
    Overrun-read c.args.feeders c.frames.dealt.feeds.items c.frames.dealt.count (g.W.Write.contents c.args.writer.now.device) (g.W.Write.contents c.frames.writer.device) c.frames.input (g.R.Read.remaining c.args.reader.now.device) (g.R.Read.remaining c.frames.reader.device)
    c.frames.invariant.reading (g.R.Read.remaining c.take_frame.new.reader.device) (c.in_err-found.ensures.much (err_is (frame-much c.in_err-found.field-0.0 much))))

pub returns-then-not-found-clause-has : goal.returns-then-not-found-clause-has
returns-then-not-found-clause-has g c =
    HasRead-end c.args.feeders c.frames.dealt.feeds.items c.frames.dealt.count (g.W.Write.contents c.args.writer.now.device) (g.W.Write.contents c.frames.writer.device) c.frames.input (g.R.Read.remaining c.args.reader.now.device) (g.R.Read.remaining c.frames.reader.device)
    c.frames.invariant.reading c.take_frame.new.input (g.R.Read.remaining c.take_frame.new.reader.device) (rw c.if-not-found.true at c.in_ok-found.ensures.cuts) c.in_ok-found.ensures.agrees

pub frames-preserved : goal.frames-preserved
frames-preserved g c =
    let found : c.in_ok-found.found ≡ true = c.if-not-found.false in
    let nearer : c.frames.input.taken < c.take_frame.new.input.taken = c.in_ok-found.ensures.nearer found in
    record {
      agrees = c.in_ok-found.ensures.agrees;
      reading = Reading-one c.args.feeders c.frames.dealt.feeds.items c.frames.dealt.count (g.W.Write.contents c.args.writer.now.device) (g.W.Write.contents c.frames.writer.device) c.frames.input (g.R.Read.remaining c.args.reader.now.device) (g.R.Read.remaining c.frames.reader.device)
          c.frames.invariant.reading c.take_frame.new.input (g.R.Read.remaining c.take_frame.new.reader.device) (filing_kept c.take_frame.new.input.item) (rw c.if-not-found.false at c.in_ok-found.ensures.cuts)
          c.deal_frame.new.dealt.feeds.items c.deal_frame.new.dealt.count (g.W.Write.contents c.deal_frame.new.writer.device) c.in_ok-deal_frame.ensures.next;
      wide = c.deal_frame.ensures.wide ∙ c.frames.invariant.wide;
      few = omega (arith, nearer, c.in_ok-deal_frame.ensures.count, c.frames.invariant.few);
      within = c.in_ok-found.ensures.within found;
      reader_calm = c.in_ok-found.ensures.failures ∙ c.frames.invariant.reader_calm;
      writer_calm = c.in_ok-deal_frame.ensures.writer ∙ c.frames.invariant.writer_calm;
    }

pub returns-in_err-dealt-clause-told : goal.returns-in_err-dealt-clause-told
returns-in_err-dealt-clause-told g c =
    rw (err-made c.from_residual.result c.from_residual.ensures.1, c.in_err-dealt.ensures.fault) (ToldFirst-none (g.W.Write.contents c.args.writer.now.device) (g.R.Read.remaining c.args.reader.now.device))

pub returns-in_err-input-clause-told : goal.returns-in_err-input-clause-told
returns-in_err-input-clause-told g c =
    rw (err-made c.from_residual-in_err-input.result c.from_residual-in_err-input.ensures.1) (ToldFirst-none (g.W.Write.contents c.args.writer.now.device) (g.R.Read.remaining c.args.reader.now.device))

pub returns-in_err-input-clause-reader : goal.returns-in_err-input-clause-reader
returns-in_err-input-clause-reader g c =
    rw (err-made c.from_residual-in_err-input.result c.from_residual-in_err-input.ensures.1) refl

pub returns-in_err-input-clause-writer : goal.returns-in_err-input-clause-writer
returns-in_err-input-clause-writer g c =
    rw (err-made c.from_residual-in_err-input.result c.from_residual-in_err-input.ensures.1) refl

pub returns-in_err-found-clause-told : goal.returns-in_err-found-clause-told
returns-in_err-found-clause-told g c =
    let feeds = c.frames.dealt.feeds.items in
    let begun = g.W.Write.contents c.args.writer.now.device in
    let written = g.W.Write.contents c.frames.writer.device in
    let input = g.R.Read.remaining c.args.reader.now.device in
    let mid = g.R.Read.remaining c.frames.reader.device in
    let rest = g.R.Read.remaining c.take_frame.new.reader.device in
    rw (err-made c.from_residual-in_err-found.result c.from_residual-in_err-found.ensures.1)
    (told-no_frame c.in_err-found.field-0.0 begun written input rest
    (λ e. ToldEnded-read c.args.feeders feeds c.frames.dealt.count begun written c.frames.input input mid c.frames.invariant.reading rest c.in_err-found.ensures.going (c.in_err-found.ensures.read (err_is e)))
    (ToldFirst-came c.args.feeders feeds c.frames.dealt.count begun written c.frames.input input mid c.frames.invariant.reading rest c.in_err-found.ensures.going c.in_err-found.ensures.err))

pub returns-in_err-deal_frame-clause-told : goal.returns-in_err-deal_frame-clause-told
returns-in_err-deal_frame-clause-told g c =
    rw (err-made c.from_residual-in_err-deal_frame.result c.from_residual-in_err-deal_frame.ensures.1)
    (told-part c.args.feeders c.frames.dealt.feeds.items c.frames.dealt.count (g.W.Write.contents c.args.writer.now.device) (g.W.Write.contents c.frames.writer.device) c.frames.input (g.R.Read.remaining c.args.reader.now.device) (g.R.Read.remaining c.frames.reader.device)
    c.frames.invariant.reading c.take_frame.new.input (g.R.Read.remaining c.take_frame.new.reader.device) (filing_kept c.take_frame.new.input.item) (rw c.if-not-found.false at c.in_ok-found.ensures.cuts)
    c.in_err-deal_frame.field-0.0 (g.W.Write.contents c.deal_frame.new.writer.device) c.in_err-deal_frame.ensures.remaining)

pub returns-then-not-found-clause-within : goal.returns-then-not-found-clause-within
returns-then-not-found-clause-within g c =
    let r = c.frames.invariant.reading in
    Cutting-within r.done c.frames.input (g.R.Read.remaining c.args.reader.now.device) (g.R.Read.remaining c.frames.reader.device) r.cutting c.take_frame.new.input (g.R.Read.remaining c.take_frame.new.reader.device)
    (rw c.if-not-found.true at c.in_ok-found.ensures.cuts) c.in_ok-found.ensures.agrees c.in_ok-found.ensures.most

pub returns-in_err-dealt-clause-reader : goal.returns-in_err-dealt-clause-reader
returns-in_err-dealt-clause-reader g c =
    rw (err-made c.from_residual.result c.from_residual.ensures.1, c.in_err-dealt.ensures.fault) refl

pub returns-in_err-dealt-clause-writer : goal.returns-in_err-dealt-clause-writer
returns-in_err-dealt-clause-writer g c =
    rw (err-made c.from_residual.result c.from_residual.ensures.1, c.in_err-dealt.ensures.fault) refl

pub returns-in_err-found-clause-reader : goal.returns-in_err-found-clause-reader
returns-in_err-found-clause-reader g c =
    rw (err-made c.from_residual-in_err-found.result c.from_residual-in_err-found.ensures.1) (c.in_err-found.ensures.failures ∙ (frame-reader c.in_err-found.field-0.0 c.frames.reader.failures ∙ ap (reader_failures_with (fault_of_frame c.in_err-found.field-0.0)) c.frames.invariant.reader_calm))

pub returns-in_err-found-clause-writer : goal.returns-in_err-found-clause-writer
returns-in_err-found-clause-writer g c =
    rw (err-made c.from_residual-in_err-found.result c.from_residual-in_err-found.ensures.1) (c.frames.invariant.writer_calm ∙ sym (frame-writer c.in_err-found.field-0.0 c.args.writer.now.failures))

pub returns-in_err-deal_frame-clause-reader : goal.returns-in_err-deal_frame-clause-reader
returns-in_err-deal_frame-clause-reader g c =
    rw (err-made c.from_residual-in_err-deal_frame.result c.from_residual-in_err-deal_frame.ensures.1)
    (c.in_ok-found.ensures.failures ∙ (c.frames.invariant.reader_calm ∙ sym (part-reader c.in_err-deal_frame.field-0.0 c.args.reader.now.failures c.in_err-deal_frame.ensures.error_kinds)))

pub returns-in_err-deal_frame-clause-writer : goal.returns-in_err-deal_frame-clause-writer
returns-in_err-deal_frame-clause-writer g c =
    rw (err-made c.from_residual-in_err-deal_frame.result c.from_residual-in_err-deal_frame.ensures.1)
    (c.in_err-deal_frame.ensures.writer ∙ ap (writer_failures_with c.in_err-deal_frame.field-0.0) c.frames.invariant.writer_calm)

pub returns-in_err-found-clause-others : goal.returns-in_err-found-clause-others
returns-in_err-found-clause-others g c =
    rw (err-made c.from_residual-in_err-found.result c.from_residual-in_err-found.ensures.1) (frame-others c.in_err-found.field-0.0)
