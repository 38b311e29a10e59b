use Rattle.std.proofs.Common.{◌≡◌, ◌∙◌, ◌-◌, Some, None, Option, slice_get, refl, sym}
use Rattle.std.proofs.lemmas.Option.{slice_get_read, slice_get_past}
use Rattle.flow_plans.specs.declared.outline.PlanIndexEntry.{PlanIndexEntry}
use Rattle.flow_plans.proofs.OutlineLemmas.{outlined-number}
use Rattle.flow_plans.proofs.plan_list.PlanList.filed_off_block.Goals as goal

pub returns-in-Some : goal.returns-in-Some
returns-in-Some g c =
    let s = c.self.inside in
    let o : PlanIndexEntry = c.in-Some.outline.now in
    let l = c.in-Some.ensures.lookup in
    let there : Some o ≡ slice_get c.deref.result.now (c.args.number - 1) = sym (slice_get_read c.deref.result.now _ (c.args.number - 1) o refl l.3.0 l.1) in
    c.filed_off_block.ensures
    ∙ outlined-number s.outlines.items c.deref.result.now s.plans.items c.args.self.now c.args.number (Some o) c.self.invariant c.self.view_is c.deref.ensures.value there

pub returns-in-None : goal.returns-in-None
returns-in-None g c =
    let s = c.self.inside in
    let none : Option PlanIndexEntry = None in
    let there : none ≡ slice_get c.deref.result.now (c.args.number - 1) = sym (slice_get_past c.deref.result.now (c.args.number - 1) c.in-None.ensures.lookup.3) in
    outlined-number s.outlines.items c.deref.result.now s.plans.items c.args.self.now c.args.number none c.self.invariant c.self.view_is c.deref.ensures.value there
