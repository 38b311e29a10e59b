use Rattle.std.proofs.Common.{◌≡◌, ◌∙◌, Result, Ok, Err}
use Rattle.std.specs.Result.{OnErr}
use Rattle.flow_plans.proofs.Keepings.{chained-stay}
use Rattle.flow_plans.proofs.OutlineLemmas.{outlines-push}
use Rattle.flow_plans.proofs.plan_list.PlanList.append.Goals as goal

on-err : {T E : Type 0} (P : Type 0) (r : Result T E) → P → OnErr r P
on-err P (Ok x) p = tt
on-err P (Err e) p = p

pub invariant_of-self-2 : goal.invariant_of-self-2
invariant_of-self-2 g c =
    let s = c.self.inside in
    rw (c.push_reserved.ensures.items, c.push_reserved-2.ensures.items, c.in_ok-reserve-2.ensures.items, c.in_ok-reserve.ensures.items)
    (outlines-push s.outlines.items s.plans.items c.of.result c.args.plan c.self.invariant c.of.ensures)

pub returns-in_err-append-clause-err : goal.returns-in_err-append-clause-err
returns-in_err-append-clause-err g c = on-err _ c.from_residual-in_err-append.result (c.in_ok-reserve.ensures.items ∙ c.self.view_is)

pub returns-in_err-append-clause-chained : goal.returns-in_err-append-clause-chained
returns-in_err-append-clause-chained g c =
    let same : c.reserve.new.self.items ≡ c.args.self.now = c.in_ok-reserve.ensures.items ∙ c.self.view_is in
    rw same (chained-stay c.args.chains.now c.append.new.self c.args.self.now c.in_err-append.ensures.err c.requires.chained)
