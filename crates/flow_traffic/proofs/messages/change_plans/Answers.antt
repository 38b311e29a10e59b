use Rattle.std.proofs.lemmas.Result.{IfOk-weaker}
use Rattle.flow_traffic.proofs.Changing.{filed-same, delayed-same, cancelled-same, departed-same, amended-same}
use Rattle.flow_traffic.proofs.messages.change_plans.Goals as goal

pub returns-in-Fpl-clause-same : goal.returns-in-Fpl-clause-same
returns-in-Fpl-clause-same g c =
    IfOk-weaker c.file.result _ _
    (λ n h. rw h.1 (filed-same c.args.plans.now.max_plans c.args.now c.args.plans.now.plans c.file.new.self.plans _ h.0))
    c.file.ensures.ok

pub returns-in-Dla-clause-same : goal.returns-in-Dla-clause-same
returns-in-Dla-clause-same g c =
    IfOk-weaker c.delay.result _ _
    (λ n is. (delayed-same c.args.now c.args.plans.now.plans _ (record { plans = c.delay.new.self.plans; number = n }) is).1)
    c.delay.ensures.change.ok

pub returns-in-Chg-clause-same : goal.returns-in-Chg-clause-same
returns-in-Chg-clause-same g c =
    IfOk-weaker c.amend.result _ _
    (λ n is. (amended-same c.args.now c.args.plans.now.plans _ (record { plans = c.amend.new.self.plans; number = n }) is).1)
    c.amend.ensures.change.ok

pub returns-in-Cnl-clause-same : goal.returns-in-Cnl-clause-same
returns-in-Cnl-clause-same g c =
    IfOk-weaker c.cancel.result _ _
    (λ n is. (cancelled-same c.args.plans.now.plans _ (record { plans = c.cancel.new.self.plans; number = n }) is).1)
    c.cancel.ensures.change.ok

pub returns-in-Dep-clause-same : goal.returns-in-Dep-clause-same
returns-in-Dep-clause-same g c =
    IfOk-weaker c.depart.result _ _
    (λ n is. (departed-same c.args.plans.now.plans _ (record { plans = c.depart.new.self.plans; number = n }) is).1)
    c.depart.ensures.change.ok
