use Rattle.std.proofs.Common.{◌≡◌, Some, ◌∙◌}
use Rattle.flow_plans.specs.Plans.{plan_at}
use Rattle.flow_plans.proofs.OutlineLemmas.{plan-read}
use Rattle.flow_plans.proofs.plan_list.PlanList.off_block.Goals as goal

pub returns : goal.returns
returns g c =
    let p = c.index.result.now in
    let at : plan_at c.args.self.now c.args.number ≡ Some p = plan-read c.args.number c.self.inside.plans.items c.args.self.now p c.self.view_is c.requires.0 c.requires.1 c.index.ensures in
    rw at (c.minutes.ensures.value ∙ c.off_block.ensures.value)
