use Rattle.std.proofs.Common.{◌≡◌, Some}
use Rattle.flow_plans.specs.Plans.{plan_at}
use Rattle.flow_plans.proofs.OutlineLemmas.{plan-read}
use Rattle.flow_plans.proofs.store.PlanStore.near.Goals as goal

pub returns : goal.returns
returns g c =
    let there : plan_at c.self.inside.plans c.args.number ≡ Some c.index-as_slice-number.result =
    plan-read c.args.number c.as_slice.result.now c.self.inside.plans c.index-as_slice-number.result
    c.as_slice.ensures c.requires.some (rw (← c.self.view_is) at c.requires.within) c.index-as_slice-number.is in
    rw (← c.self.view_is, there) (c.near.ensures c.self.inside.taxi)
