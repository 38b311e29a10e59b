use Rattle.std.proofs.Common.{◌≡◌, ◌∙◌, ◌-◌, ◌<◌, ℕ, List, length, sym, ap, arith, Some}
use Rattle.std.specs.Option.{option_map}
use Rattle.std.proofs.lemmas.Option.{slice_get-get_or}
use Rattle.flow_plans.specs.declared.plan.PlanState.TheVariants as state
use Rattle.flow_plans.specs.Plans.{PlanView, plan_at, status_of, with_state, with_off_block, with_former}
use Rattle.flow_plans.proofs.Previous.{first-there, changed-elsewhere, changed-own}
use Rattle.flow_plans.proofs.undo.previous.Goals.{in_default-via-in-Filed+else-place-plans, in_default-via-in-Delayed+else-number-delayed, in_default-via-in-Ended+else-number-ended, in_default-via-in-Amended+else-number-amended}
use Rattle.flow_plans.proofs.undo.previous.Goals as goal

pub returns-in-Delayed : goal.returns-in-Delayed
returns-in-Delayed g c =
    let ps : List PlanView = c.args.plans.now in
    let p : PlanView = c.index-plans-place.result in
    let n : ℕ = c.args.number in
    let within = rw (c.in-Delayed.is, sym c.if-number-delayed.true) at c.requires.within in
    let inside : n - 1 < length ps = omega (arith, within.0, within.1) in
    let at : plan_at ps n ≡ Some p = slice_get-get_or ps (n - 1) p inside ∙ ap Some (sym c.index-plans-place.is) in
    rw (c.in-Delayed.is, sym c.if-number-delayed.true, c.state.ensures)
    (ap (option_map status_of) (sym (changed-own (with_off_block c.in-Delayed.off_block) ps n p inside at)))

pub returns-in-Ended : goal.returns-in-Ended
returns-in-Ended g c =
    let ps : List PlanView = c.args.plans.now in
    let p : PlanView = c.index-plans-place-in-Ended.result in
    let n : ℕ = c.args.number in
    let within = rw (c.in-Ended.is, sym c.if-number-ended.true) at c.requires.within in
    let inside : n - 1 < length ps = omega (arith, within.0, within.1) in
    let at : plan_at ps n ≡ Some p = slice_get-get_or ps (n - 1) p inside ∙ ap Some (sym c.index-plans-place-in-Ended.is) in
    rw (c.in-Ended.is, sym c.if-number-ended.true, c.off_block.ensures.value)
    (ap (option_map status_of) (sym (changed-own (with_state state.Filed) ps n p inside at)))

pub returns-in-Amended : goal.returns-in-Amended
returns-in-Amended g c =
    let ps : List PlanView = c.args.plans.now in
    let p : PlanView = c.index-plans-place-in-Amended.result in
    let n : ℕ = c.args.number in
    let within = rw (c.in-Amended.is, sym c.if-number-amended.true) at c.requires.within in
    let inside : n - 1 < length ps = omega (arith, within.0, within.1) in
    let at : plan_at ps n ≡ Some p = slice_get-get_or ps (n - 1) p inside ∙ ap Some (sym c.index-plans-place-in-Amended.is) in
    rw (c.in-Amended.is, sym c.if-number-amended.true, c.state-in-Amended.ensures, c.off_block-in-Amended.ensures)
    (ap (option_map status_of) (sym (changed-own (with_former c.in-Amended.former) ps n p inside at)))

pub returns-in_default : goal.returns-in_default
returns-in_default g c =
    let ps : List PlanView = c.args.plans.now in
    elim c.in_default.branch [
      | in_default-via-in-Filed+else-place-plans w ↦
          rw w.in-Filed.is
          (c.status_at.ensures ∙ ap (option_map status_of) (sym (first-there (length ps - 1) ps (c.args.number - 1) (omega (arith, w.if-place-plans.false)))))
      | in_default-via-in-Delayed+else-number-delayed w ↦
          let within = rw w.in-Delayed.is at c.requires.within in
          rw w.in-Delayed.is
          (c.status_at.ensures ∙ ap (option_map status_of) (sym (changed-elsewhere (with_off_block w.in-Delayed.off_block) ps w.in-Delayed.delayed c.args.number within.0 c.requires.some w.if-number-delayed.false)))
      | in_default-via-in-Ended+else-number-ended w ↦
          let within = rw w.in-Ended.is at c.requires.within in
          rw w.in-Ended.is
          (c.status_at.ensures ∙ ap (option_map status_of) (sym (changed-elsewhere (with_state state.Filed) ps w.in-Ended.ended c.args.number within.0 c.requires.some w.if-number-ended.false)))
      | in_default-via-in-Amended+else-number-amended w ↦
          let within = rw w.in-Amended.is at c.requires.within in
          rw w.in-Amended.is
          (c.status_at.ensures ∙ ap (option_map status_of) (sym (changed-elsewhere (with_former w.in-Amended.former) ps w.in-Amended.amended c.args.number within.0 c.requires.some w.if-number-amended.false)))
    ]
