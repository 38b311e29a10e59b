use Rattle.flow_plans.proofs.OutlineLemmas.{outlines-pop}
use Rattle.flow_plans.proofs.plan_list.PlanList.pop.Goals as goal

pub invariant_of-self : goal.invariant_of-self
invariant_of-self g c =
    let s = c.self.inside in
    rw (c.pop.ensures.rest, c.pop-2.ensures.rest) (outlines-pop s.outlines.len s.plans.len s.outlines.items s.plans.items s.outlines.ok.0 s.plans.ok.0 c.self.invariant)
