use Rattle.std.proofs.Common.{◌≡◌, ◌<◌, ◌-◌, Some, length, ap, arith}
use Rattle.flow_plans.specs.Plans.{plan_at, with_former}
use Rattle.flow_plans.specs.Changes.{amended_plan}
use Rattle.flow_plans.proofs.Backs.{changed-there, changed_at-back}
use Rattle.flow_plans.proofs.OutlineLemmas.{outline-within, outlines-set, plan-read}
use Rattle.flow_plans.proofs.plan_list.PlanList.amend.Goals as goal

pub amend-former-requires-clause-texts : goal.amend-former-requires-clause-texts
amend-former-requires-clause-texts g c =
    let there : plan_at c.args.self.now c.args.number ≡ Some c.index_mut-plan.result.now =
    plan-read c.args.number c.self.inside.plans.items c.args.self.now c.index_mut-plan.result.now
    c.self.view_is c.requires.number.0 c.requires.number.1 c.index_mut-plan.ensures.value in
    rw there at c.requires.texts

pub index_mut-requires : goal.index_mut-requires
index_mut-requires g c =
    let s = c.self.inside in
    outline-within c.args.number s.outlines.len s.outlines.items s.plans.items c.args.self.now s.outlines.ok.0 c.self.invariant c.self.view_is c.requires.number

pub invariant_of-self : goal.invariant_of-self
invariant_of-self g c =
    let s = c.self.inside in
    outlines-set s.outlines.items s.plans.items (c.args.number - 1) c.of.result c.amend-former.new.self c.self.invariant c.of.ensures

pub returns-clause-changed : goal.returns-clause-changed
returns-clause-changed g c =
    changed-there (amended_plan c.args.off_block c.args.message.now) c.args.number c.self.inside.plans.items c.args.self.now c.index_mut-plan.result.now
    c.amend-former.new.self c.self.view_is c.requires.number c.index_mut-plan.ensures.value c.amend-former.ensures.changed

pub returns-clause-back : goal.returns-clause-back
returns-clause-back g c =
    let ps = c.self.inside.plans.items in
    let h : c.args.number - 1 < length ps = omega (arith, c.requires.number.0, c.requires.number.1, ap length c.self.view_is) in
    rw (← c.self.view_is)
    (changed_at-back (with_former c.amend-former.result) c.args.number ps c.index_mut-plan.result.now c.amend-former.new.self
    h c.index_mut-plan.ensures.value c.amend-former.ensures.back)
