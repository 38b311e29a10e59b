use Rattle.std.proofs.Common.{subst, ℕ, sym}
use Rattle.std.proofs.lemmas.Result.{err_from_is_err_and}
use Rattle.flow_input.specs.Reader.{Finished, Unfinished}
use Rattle.flow_input.proofs.Results.{on_ok_three}
use Rattle.flow_input.proofs.Firsts.{Finished-message, Finished-order, Unfinished-message, Unfinished-order}
use Rattle.flow_input.proofs.next_frame.finish.Goals as goal

pub returns-in_err-take_until-clause-read : goal.returns-in_err-take_until-clause-read
returns-in_err-take_until-clause-read g c =
    let before = g.R.Read.remaining c.args.reader.now.device in
    let after = g.R.Read.remaining c.take_until.new.reader.device in
    let p = err_from_is_err_and c.from_residual.result c.from_residual.ensures.1 in
    rw (p.1, p.2) (λ e. subst (λ (f : ℕ). Unfinished f c.args.input.now before after) (sym c.if-first-eq40.true)
    (let r = c.in_err-take_until.ensures.read e in Unfinished-message c.args.input.now c.take_until.new.input before after r.0 r.1))

pub returns-then-first-eq40-clause-took : goal.returns-then-first-eq40-clause-took
returns-then-first-eq40-clause-took g c =
    let before = g.R.Read.remaining c.args.reader.now.device in
    let after = g.R.Read.remaining c.take_until.new.reader.device in
    subst (λ (f : ℕ). Finished f c.args.input.now c.take_if.new.input before after) (sym c.if-first-eq40.true)
    (Finished-message c.args.input.now c.take_until.new.input c.take_if.new.input before after
    c.in_ok-take_until.ensures.took c.in_ok-take_until.ensures.stop c.in_ok-take_until.ensures.end c.take_if.ensures.took)

pub returns-clause-took : goal.returns-clause-took
returns-clause-took g c =
    let before = g.R.Read.remaining c.args.reader.now.device in
    let after = g.R.Read.remaining c.take_until-2.new.reader.device in
    on_ok_three c.take_until-2.result
    (λ took stop end. Finished-order c.args.first c.args.input.now c.take_until-2.new.input before after c.if-first-eq40.false took stop end)
    c.take_until-2.ensures.took c.take_until-2.ensures.stop c.take_until-2.ensures.end

pub returns-clause-read : goal.returns-clause-read
returns-clause-read g c = λ e.
    let r = c.take_until-2.ensures.read e in
    Unfinished-order c.args.first c.args.input.now c.take_until-2.new.input (g.R.Read.remaining c.args.reader.now.device) (g.R.Read.remaining c.take_until-2.new.reader.device) c.if-first-eq40.false r.0 r.1
