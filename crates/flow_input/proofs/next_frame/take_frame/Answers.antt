use Rattle.std.proofs.Common.{sym, ◌∙◌, subst, List, ℕ, arith}
use Rattle.std.proofs.lemmas.Result.{err_from_is_err_and}
use Rattle.flow_input.specs.Frames.{is_not_blank}
use Rattle.flow_input.specs.Reader.{BeginsWithStop}
use Rattle.flow_input.specs.NextFrame.{filing_kept}
use Rattle.flow_input.proofs.Results.{on_err, err_again}
use Rattle.flow_input.proofs.NextFrames.{Sought-blanks, Sought-fill, goes-past, nearer-past, GaveFirst-sought, Starves-sought, Starves-still, CameTooMuch-sought, Came-sought, GaveNone-ended, GaveFirst-nearer, Cuts-rest, is-true, true-not}
use Rattle.flow_input.proofs.next_frame.take_frame.Goals as goal

pub returns-then-has_ended-clause-cuts : goal.returns-then-has_ended-clause-cuts
returns-then-has_ended-clause-cuts g c = GaveNone-ended c.args.input.now (g.R.Read.remaining c.args.reader.now.device) c.requires (sym c.has_ended.ensures.ended ∙ c.if-has_ended.true)

pub returns-then-take_whole-clause-cuts : goal.returns-then-take_whole-clause-cuts
returns-then-take_whole-clause-cuts g c =
    GaveFirst-sought c.args.input.now c.reads.input (g.R.Read.remaining c.args.reader.now.device) (g.R.Read.remaining c.reads.reader.device) (g.R.Read.remaining c.reads.reader.device) c.reads.invariant.sought
    c.take_whole.new.self (filing_kept c.take_whole.new.self.item)
    (c.take_whole.ensures.gave c.if-take_whole.true (g.R.Read.remaining c.reads.reader.device) (λ t. absurd (true-not c.reads.input.ended t c.reads.invariant.going)))

pub returns-then-take_whole-clause-agrees : goal.returns-then-take_whole-clause-agrees
returns-then-take_whole-clause-agrees g c = c.take_whole.ensures.agrees (g.R.Read.remaining c.reads.reader.device) (λ t. absurd (true-not c.reads.input.ended t c.reads.invariant.going))

pub pass_long-requires-clause-goes : goal.pass_long-requires-clause-goes
pass_long-requires-clause-goes g c =
    let none = c.take_whole.ensures.none c.if-take_whole.false in
    goes-past c.args.input.now c.reads.input c.take_whole.new.self c.skip_blanks.new.input none.0 c.skip_blanks.ensures.took none.1

pub returns-in_err-pass_long-clause-err : goal.returns-in_err-pass_long-clause-err
returns-in_err-pass_long-clause-err g c =
    let none = c.take_whole.ensures.none c.if-take_whole.false in
    let s = Sought-blanks c.args.input.now c.reads.input c.take_whole.new.self c.skip_blanks.new.input none.0 c.skip_blanks.ensures.took (g.R.Read.remaining c.args.reader.now.device) (g.R.Read.remaining c.reads.reader.device) c.reads.invariant.sought in
    on_err c.from_residual.result
    (Came-sought c.args.input.now c.skip_blanks.new.input (g.R.Read.remaining c.args.reader.now.device) (g.R.Read.remaining c.reads.reader.device) (g.R.Read.remaining c.pass_long.new.reader.device) s c.in_err-pass_long.ensures.err)

pub returns-in_err-pass_long-clause-read : goal.returns-in_err-pass_long-clause-read
returns-in_err-pass_long-clause-read g c =
    let none = c.take_whole.ensures.none c.if-take_whole.false in
    let s = Sought-blanks c.args.input.now c.reads.input c.take_whole.new.self c.skip_blanks.new.input none.0 c.skip_blanks.ensures.took (g.R.Read.remaining c.args.reader.now.device) (g.R.Read.remaining c.reads.reader.device) c.reads.invariant.sought in
    let p = err_from_is_err_and c.from_residual.result c.from_residual.ensures.1 in
    rw (p.1, p.2) (λ e. Starves-sought c.args.input.now c.skip_blanks.new.input (g.R.Read.remaining c.args.reader.now.device) (g.R.Read.remaining c.reads.reader.device) (g.R.Read.remaining c.pass_long.new.reader.device) s (c.in_err-pass_long.ensures.read (err_again e)))

pub returns-in_err-pass_long-clause-much : goal.returns-in_err-pass_long-clause-much
returns-in_err-pass_long-clause-much g c =
    let none = c.take_whole.ensures.none c.if-take_whole.false in
    let s = Sought-blanks c.args.input.now c.reads.input c.take_whole.new.self c.skip_blanks.new.input none.0 c.skip_blanks.ensures.took (g.R.Read.remaining c.args.reader.now.device) (g.R.Read.remaining c.reads.reader.device) c.reads.invariant.sought in
    let p = err_from_is_err_and c.from_residual.result c.from_residual.ensures.1 in
    rw (p.1, p.2) (λ e. CameTooMuch-sought c.args.input.now c.skip_blanks.new.input (g.R.Read.remaining c.args.reader.now.device) (g.R.Read.remaining c.reads.reader.device) (g.R.Read.remaining c.pass_long.new.reader.device) s (c.in_err-pass_long.ensures.much (err_again e)))

pub returns-then-unread-gt-MAX_BYTES-clause-cuts : goal.returns-then-unread-gt-MAX_BYTES-clause-cuts
returns-then-unread-gt-MAX_BYTES-clause-cuts g c =
    let none = c.take_whole.ensures.none c.if-take_whole.false in
    let s = Sought-blanks c.args.input.now c.reads.input c.take_whole.new.self c.skip_blanks.new.input none.0 c.skip_blanks.ensures.took (g.R.Read.remaining c.args.reader.now.device) (g.R.Read.remaining c.reads.reader.device) c.reads.invariant.sought in
    GaveFirst-sought c.args.input.now c.skip_blanks.new.input (g.R.Read.remaining c.args.reader.now.device) (g.R.Read.remaining c.reads.reader.device) (g.R.Read.remaining c.pass_long.new.reader.device) s
    c.pass_long.new.input (filing_kept c.pass_long.new.input.item) c.in_ok-pass_long.ensures.gave

pub returns-then-unread-gt-MAX_BYTES-clause-nearer : goal.returns-then-unread-gt-MAX_BYTES-clause-nearer
returns-then-unread-gt-MAX_BYTES-clause-nearer g c = λ _.
    GaveFirst-nearer c.args.input.now c.pass_long.new.input (g.R.Read.remaining c.args.reader.now.device) (g.R.Read.remaining c.pass_long.new.reader.device) (filing_kept c.pass_long.new.input.item) (returns-then-unread-gt-MAX_BYTES-clause-cuts g c)

pub returns-in_err-fill-clause-err : goal.returns-in_err-fill-clause-err
returns-in_err-fill-clause-err g c =
    let none = c.take_whole.ensures.none c.if-take_whole.false in
    let s = Sought-blanks c.args.input.now c.reads.input c.take_whole.new.self c.skip_blanks.new.input none.0 c.skip_blanks.ensures.took (g.R.Read.remaining c.args.reader.now.device) (g.R.Read.remaining c.reads.reader.device) c.reads.invariant.sought in
    on_err c.from_residual-in_err-fill.result
    (Came-sought c.args.input.now c.skip_blanks.new.input (g.R.Read.remaining c.args.reader.now.device) (g.R.Read.remaining c.reads.reader.device) (g.R.Read.remaining c.fill.new.reader.device) s c.in_err-fill.ensures.err)

pub returns-in_err-fill-clause-read : goal.returns-in_err-fill-clause-read
returns-in_err-fill-clause-read g c =
    let none = c.take_whole.ensures.none c.if-take_whole.false in
    let s = Sought-blanks c.args.input.now c.reads.input c.take_whole.new.self c.skip_blanks.new.input none.0 c.skip_blanks.ensures.took (g.R.Read.remaining c.args.reader.now.device) (g.R.Read.remaining c.reads.reader.device) c.reads.invariant.sought in
    let goes = goes-past c.args.input.now c.reads.input c.take_whole.new.self c.skip_blanks.new.input none.0 c.skip_blanks.ensures.took none.1 in
    let p = err_from_is_err_and c.from_residual-in_err-fill.result c.from_residual-in_err-fill.ensures.1 in
    rw (p.1, p.2) (λ e. Starves-sought c.args.input.now c.skip_blanks.new.input (g.R.Read.remaining c.args.reader.now.device) (g.R.Read.remaining c.reads.reader.device) (g.R.Read.remaining c.fill.new.reader.device) s
    (Starves-still c.skip_blanks.new.input (g.R.Read.remaining c.reads.reader.device) (g.R.Read.remaining c.fill.new.reader.device) (c.in_err-fill.ensures.read (err_again e)).2 goes))

pub returns-in_err-fill-clause-much : goal.returns-in_err-fill-clause-much
returns-in_err-fill-clause-much g c =
    let none = c.take_whole.ensures.none c.if-take_whole.false in
    let s = Sought-blanks c.args.input.now c.reads.input c.take_whole.new.self c.skip_blanks.new.input none.0 c.skip_blanks.ensures.took (g.R.Read.remaining c.args.reader.now.device) (g.R.Read.remaining c.reads.reader.device) c.reads.invariant.sought in
    let p = err_from_is_err_and c.from_residual-in_err-fill.result c.from_residual-in_err-fill.ensures.1 in
    rw (p.1, p.2) (λ e. CameTooMuch-sought c.args.input.now c.skip_blanks.new.input (g.R.Read.remaining c.args.reader.now.device) (g.R.Read.remaining c.reads.reader.device) (g.R.Read.remaining c.fill.new.reader.device) s (c.in_err-fill.ensures.much (err_again e)))

pub returns-then-has_ended-2-clause-cuts : goal.returns-then-has_ended-2-clause-cuts
returns-then-has_ended-2-clause-cuts g c =
    let none = c.take_whole.ensures.none c.if-take_whole.false in
    let s = Sought-blanks c.args.input.now c.reads.input c.take_whole.new.self c.skip_blanks.new.input none.0 c.skip_blanks.ensures.took (g.R.Read.remaining c.args.reader.now.device) (g.R.Read.remaining c.reads.reader.device) c.reads.invariant.sought in
    let goes = goes-past c.args.input.now c.reads.input c.take_whole.new.self c.skip_blanks.new.input none.0 c.skip_blanks.ensures.took none.1 in
    let end = c.in_ok-fill.ensures.end (is-true c.fill.new.self.ended (sym c.has_ended-in-reads.ensures.ended ∙ c.if-has_ended-2.true)) in
    Cuts-rest c.take_rest.result c.args.input.now c.fill.new.self c.take_rest.new.input (g.R.Read.remaining c.args.reader.now.device) (g.R.Read.remaining c.fill.new.reader.device)
    (Sought-fill c.args.input.now c.skip_blanks.new.input c.fill.new.self (g.R.Read.remaining c.args.reader.now.device) (g.R.Read.remaining c.reads.reader.device) (g.R.Read.remaining c.fill.new.reader.device) s c.in_ok-fill.ensures.filled c.fill.ensures.taken)
    (subst (λ (bs : List ℕ). BeginsWithStop is_not_blank bs) (sym end.0) c.skip_blanks.ensures.stop) (rw end.0 goes) c.take_rest.ensures.ended c.take_rest.ensures.some c.take_rest.ensures.none

pub reads-preserved : goal.reads-preserved
reads-preserved g c =
    let none = c.take_whole.ensures.none c.if-take_whole.false in
    let s = Sought-blanks c.args.input.now c.reads.input c.take_whole.new.self c.skip_blanks.new.input none.0 c.skip_blanks.ensures.took (g.R.Read.remaining c.args.reader.now.device) (g.R.Read.remaining c.reads.reader.device) c.reads.invariant.sought in
    record {
      sought = Sought-fill c.args.input.now c.skip_blanks.new.input c.fill.new.self (g.R.Read.remaining c.args.reader.now.device) (g.R.Read.remaining c.reads.reader.device) (g.R.Read.remaining c.fill.new.reader.device) s c.in_ok-fill.ensures.filled c.fill.ensures.taken;
      going = sym c.has_ended-in-reads.ensures.ended ∙ c.if-has_ended-2.false;
      no_failure = c.in_ok-fill.ensures.failures ∙ c.reads.invariant.no_failure;
      nearer = omega (arith, c.fill.ensures.taken, nearer-past c.args.input.now c.reads.input c.take_whole.new.self c.skip_blanks.new.input none.0 c.skip_blanks.ensures.took c.args.input.now.taken c.reads.invariant.nearer);
    }
