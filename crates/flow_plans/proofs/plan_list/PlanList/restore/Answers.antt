use Rattle.std.proofs.Common.{◌-◌}
use Rattle.flow_plans.specs.Plans.{with_former}
use Rattle.flow_plans.proofs.Backs.{changed-there}
use Rattle.flow_plans.proofs.OutlineLemmas.{outline-within, outlines-set}
use Rattle.flow_plans.proofs.plan_list.PlanList.restore.Goals as goal

pub index_mut-requires : goal.index_mut-requires
index_mut-requires g c =
    let s = c.self.inside in
    outline-within c.args.number s.outlines.len s.outlines.items s.plans.items c.args.self.now s.outlines.ok.0 c.self.invariant c.self.view_is c.requires

pub invariant_of-self : goal.invariant_of-self
invariant_of-self g c =
    let s = c.self.inside in
    outlines-set s.outlines.items s.plans.items (c.args.number - 1) c.of.result c.restore.new.self c.self.invariant c.of.ensures

pub returns : goal.returns
returns g c =
    changed-there (with_former c.args.former) c.args.number c.self.inside.plans.items c.args.self.now c.index_mut-plan.result.now c.restore.new.self
    c.self.view_is c.requires c.index_mut-plan.ensures.value c.restore.ensures
