use Rattle.std.proofs.Common.{refl, ◌∙◌}
use Rattle.std.proofs.lemmas.Result.{err_from_is_err_and}
use Rattle.flow_input.specs.Until.{stops_at}
use Rattle.flow_input.proofs.Takes.{Took-start, Took-more, Took-much, Agrees-taken}
use Rattle.flow_input.proofs.next_frame.take_until.Goals as goal

pub pieces-init : goal.pieces-init
pieces-init g c = record {
  agrees = c.requires;
  took = Took-start (stops_at c.args.until) c.args.input.now (g.R.Read.remaining c.args.reader.now.device);
  no_failure = refl;
}

pub returns-in_err-make_ready-clause-much : goal.returns-in_err-make_ready-clause-much
returns-in_err-make_ready-clause-much g c =
    let p = err_from_is_err_and c.from_residual.result c.from_residual.ensures.1 in
    rw (p.1, p.2) (λ e. Took-much (stops_at c.args.until) c.args.input.now c.pieces.input (g.R.Read.remaining c.args.reader.now.device) (g.R.Read.remaining c.pieces.reader.device) (g.R.Read.remaining c.make_ready.new.reader.device)
    c.pieces.invariant.took (c.in_err-make_ready.ensures.much e))

pub returns-then-not-is_empty-clause-took : goal.returns-then-not-is_empty-clause-took
returns-then-not-is_empty-clause-took g c =
    Took-more (stops_at c.args.until) c.args.input.now c.pieces.input c.make_ready.new.input c.take_run.new.input
    (g.R.Read.remaining c.args.reader.now.device) (g.R.Read.remaining c.pieces.reader.device) (g.R.Read.remaining c.make_ready.new.reader.device)
    c.pieces.invariant.took c.in_ok-make_ready.ensures.filled c.in_ok-make_ready.ensures.taken c.take_run.ensures.took

pub returns-then-not-is_empty-clause-agrees : goal.returns-then-not-is_empty-clause-agrees
returns-then-not-is_empty-clause-agrees g c =
    Agrees-taken (stops_at c.args.until) c.make_ready.new.input c.take_run.new.input (g.R.Read.remaining c.make_ready.new.reader.device)
    c.in_ok-make_ready.ensures.agrees c.take_run.ensures.took c.take_run.ensures.ended

pub returns-then-has_ended-clause-took : goal.returns-then-has_ended-clause-took
returns-then-has_ended-clause-took g c =
    Took-more (stops_at c.args.until) c.args.input.now c.pieces.input c.make_ready.new.input c.take_run.new.input
    (g.R.Read.remaining c.args.reader.now.device) (g.R.Read.remaining c.pieces.reader.device) (g.R.Read.remaining c.make_ready.new.reader.device)
    c.pieces.invariant.took c.in_ok-make_ready.ensures.filled c.in_ok-make_ready.ensures.taken c.take_run.ensures.took

pub pieces-preserved : goal.pieces-preserved
pieces-preserved g c = record {
  agrees = Agrees-taken (stops_at c.args.until) c.make_ready.new.input c.take_run.new.input (g.R.Read.remaining c.make_ready.new.reader.device)
      c.in_ok-make_ready.ensures.agrees c.take_run.ensures.took c.take_run.ensures.ended;
  took = Took-more (stops_at c.args.until) c.args.input.now c.pieces.input c.make_ready.new.input c.take_run.new.input
      (g.R.Read.remaining c.args.reader.now.device) (g.R.Read.remaining c.pieces.reader.device) (g.R.Read.remaining c.make_ready.new.reader.device)
      c.pieces.invariant.took c.in_ok-make_ready.ensures.filled c.in_ok-make_ready.ensures.taken c.take_run.ensures.took;
  no_failure = c.in_ok-make_ready.ensures.failures ∙ c.pieces.invariant.no_failure;
}
