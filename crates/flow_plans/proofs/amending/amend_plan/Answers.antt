use Rattle.std.proofs.Common.{◌≡◌, Some, ap, ◌∙◌, arith}
use Rattle.flow_plans.specs.declared.plan.Key.{Key}
use Rattle.flow_plans.specs.Plans.{plan_at}
use Rattle.flow_plans.specs.Chains.{flight_of_key}
use Rattle.flow_plans.specs.Changes.{amended_plan}
use Rattle.flow_plans.proofs.Amendments.{amended-state, amended-key}
use Rattle.flow_plans.proofs.Keepings.{plan-stood, chained-stay}
use Rattle.flow_plans.proofs.ChainChanges.{changed-chained, changed-stands}
use Rattle.flow_plans.proofs.amending.amend_plan.Goals as goal

pub rename-requires-clause-chained : goal.rename-requires-clause-chained
rename-requires-clause-chained g c =
    rw c.as_slice-3.ensures (chained-stay c.args.chains.now c.reserve.new.self c.args.plans.now c.in-Ok-reserve.ensures.kept c.requires.chained)

pub amend-former-requires-clause-texts : goal.amend-former-requires-clause-texts
amend-former-requires-clause-texts g c =
    let n = c.in_ok-number.number in
    let p = c.index-as_slice-number.result in
    let within = rw c.as_slice.ensures at c.in_ok-number.ensures.within in
    let there : plan_at c.args.plans.now n ≡ Some p = plan-stood c.args.plans.now n p within.0 within.1 (rw c.as_slice-2.ensures at c.index-as_slice-number.is) in
    rw there c.in-Ok.ensures

pub returns-clause-chained : goal.returns-clause-chained
returns-clause-chained g c =
    let m = c.args.message.now in
    let moment = c.in_ok-number.off_block in
    let within = rw c.as_slice.ensures at c.in_ok-number.ensures.within in
    let named = rw c.as_slice.ensures at c.in_ok-number.ensures.named in
    rw c.amend-former.ensures.changed
    (changed-chained (amended_plan moment m) (amended-state moment m) c.args.plans.now c.in_ok-number.number within.0 within.1
    (rw c.as_slice.ensures at c.in_ok-number.ensures.held) c.rename.new.self c.in_ok-number.name
    (rw c.as_slice-3.ensures at c.rename.ensures.chained)
    (λ p there. ap (λ (k : Key). flight_of_key k) (amended-key moment m p) ∙ (rw there at named)))

pub returns-clause-change : goal.returns-clause-change
returns-clause-change g c =
    let m = c.args.message.now in
    let moment = c.in_ok-number.off_block in
    let within = rw c.as_slice.ensures at c.in_ok-number.ensures.within in (
      within.0,
      omega (arith, within.1, c.amend-former.ensures.count),
      changed-stands (amended_plan moment m) (amended-state moment m) c.args.plans.now c.in_ok-number.number within.0 within.1
          (rw c.as_slice.ensures at c.in_ok-number.ensures.held) c.amend-former.new.self c.amend-former.ensures.changed,
    )
