use Rattle.std.proofs.Common.{◌≡◌, Ok, Some, true, false, sym, ap, ◌∙◌}
use Rattle.std.specs.List.{list_any}
use Rattle.flow_plans.specs.declared.plan.Key.{Key}
use Rattle.flow_plans.specs.declared.plan.PlanState.{PlanState}
use Rattle.flow_plans.specs.declared.plan.PlanState.TheVariants as state
use Rattle.flow_plans.specs.Plans.{plan_at, is_held, is_held_as}
use Rattle.flow_plans.specs.Chains.{flight_of_key}
use Rattle.flow_plans.specs.Matching.{matching}
use Rattle.flow_plans.specs.Changes.{changes_key, key_after, moved_to, others}
use Rattle.flow_plans.proofs.Amendments.{all-steps}
use Rattle.flow_plans.proofs.Keepings.{plan-stood}
use Rattle.flow_plans.proofs.amending.checked.Goals as goal

pub returns-clause-ok : goal.returns-clause-ok
returns-clause-ok g c =
    let found : matching c.args.plans.now c.args.message.now.parts ≡ Ok c.in_ok-number.number = rw c.parts.ensures at c.in_ok-number.ensures.answer in
    let same : changes_key c.args.message.now c.index-plans-number.result.key ≡ false = cc (c.is_changed_by.ensures, c.key.ensures, c.if-is_changed_by.false) in
    let moved : moved_to c.args.now c.index-plans-number.result.off_block c.args.message.now.departure ≡ Ok c.in_ok-off_block.off_block = rw (c.departure.ensures, c.off_block.ensures.value) at c.in_ok-off_block.ensures.answer in
    let free : list_any (is_held_as (key_after c.index-plans-number.result.key c.args.message.now)) (others c.in_ok-number.number c.args.plans.now) ≡ false = cc (c.others_hold_key.ensures, c.amended-key.ensures, c.key-2.ensures, c.if-others_hold_key.false) in
    all-steps c.args.now c.args.plans.now c.args.message.now c.in_ok-number.number c.in_ok-off_block.off_block c.index-plans-number.result
    found c.in_ok-number.ensures.within.0 c.in_ok-number.ensures.within.1 c.index-plans-number.is same moved free

pub returns-clause-held : goal.returns-clause-held
returns-clause-held g c =
    let p = c.index-plans-number.result in
    let there : plan_at c.args.plans.now c.in_ok-number.number ≡ Some p =
    plan-stood c.args.plans.now c.in_ok-number.number p c.in_ok-number.ensures.within.0 c.in_ok-number.ensures.within.1 c.index-plans-number.is in
    let filed : p.state ≡ state.Filed = rw there at c.in_ok-number.ensures.filed in
    let held : is_held p.state ≡ true = ap (λ (s : PlanState). is_held s) filed in
    rw there held

pub returns-clause-named : goal.returns-clause-named
returns-clause-named g c =
    let p = c.index-plans-number.result in
    let there : plan_at c.args.plans.now c.in_ok-number.number ≡ Some p =
    plan-stood c.args.plans.now c.in_ok-number.number p c.in_ok-number.ensures.within.0 c.in_ok-number.ensures.within.1 c.index-plans-number.is in
    let key : c.amended-key.result ≡ key_after p.key c.args.message.now = c.amended-key.ensures ∙ ap (λ (k : Key). key_after k c.args.message.now) c.key-2.ensures in
    let named : c.of_key-name.result ≡ flight_of_key (key_after p.key c.args.message.now) = c.of_key-name.ensures ∙ ap (λ (k : Key). flight_of_key k) key in
    rw there (sym named)
