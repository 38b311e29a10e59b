use Rattle.std.proofs.Common.{◌≡◌, true, false, Some, refl, sym, ap, subst, ◌∙◌, arith}
use Rattle.flow_plans.specs.declared.chains.FlightName.{FlightName}
use Rattle.flow_plans.specs.declared.plan.PlanState.TheVariants as state
use Rattle.flow_plans.specs.Plans.{is_held, plan_at, with_plan, with_state}
use Rattle.flow_plans.specs.Changes.{others}
use Rattle.flow_plans.specs.Chains.{flight_of_key, HasRoomFor, AreChained}
use Rattle.flow_plans.proofs.Keepings.{plan-stood, changed-is, changed-length, chained-changed, others-of-unheld}
use Rattle.flow_plans.proofs.ChainChanges.{exchanged-in}
use Rattle.flow_plans.proofs.undo.file_again.Goals as goal

pub join-requires-clause-apart : goal.join-requires-clause-apart
join-requires-clause-apart g c =
    let p = c.index-as_slice-number.result in
    let stood = rw c.as_slice.ensures at c.index-as_slice-number.is in
    let there : plan_at c.args.plans.now c.args.number ≡ Some p = plan-stood c.args.plans.now c.args.number p c.requires.number.0 c.requires.number.1 stood in
    let same : c.set_state.new.self ≡ with_plan c.args.plans.now c.args.number (with_state state.Filed p) =
    c.set_state.ensures ∙ changed-is (with_state state.Filed) c.args.number c.args.plans.now p there in
    let free : is_held p.state ≡ false = sym c.is_held-held.ensures ∙ c.if-not-held.true in
    record {
      plans = c.set_state.new.self;
      within = (c.requires.number.0, rw c.set_state.ensures (omega (arith, c.requires.number.1, changed-length (with_state state.Filed) c.args.number c.args.plans.now)));
      chained =
          rw same
          (others-of-unheld c.args.chains.now c.args.plans.now c.args.number p (with_state state.Filed p) c.requires.number.0 c.requires.number.1 stood free c.requires.chained);
    }

pub join-requires-clause-room : goal.join-requires-clause-room
join-requires-clause-room g c =
    let p = c.index-as_slice-number-2.result in
    let stood = rw c.as_slice-2.ensures at c.index-as_slice-number-2.is in
    let there : plan_at c.args.plans.now c.args.number ≡ Some p = plan-stood c.args.plans.now c.args.number p c.requires.number.0 c.requires.number.1 stood in
    let name : c.of_key-name.result ≡ flight_of_key p.key = c.of_key-name.ensures ∙ ap (λ k. flight_of_key k) c.key.ensures in
    subst (λ (f : FlightName). HasRoomFor c.args.chains.now f) (sym name) (rw there at c.requires.room)

pub returns-then-not-held-clause-chained : goal.returns-then-not-held-clause-chained
returns-then-not-held-clause-chained g c =
    let p = c.index-as_slice-number-2.result in
    let first = rw c.as_slice.ensures at c.index-as_slice-number.is in
    let stood = rw c.as_slice-2.ensures at c.index-as_slice-number-2.is in
    let there : plan_at c.args.plans.now c.args.number ≡ Some p = plan-stood c.args.plans.now c.args.number p c.requires.number.0 c.requires.number.1 stood in
    let same : c.set_state.new.self ≡ with_plan c.args.plans.now c.args.number (with_state state.Filed p) =
    c.set_state.ensures ∙ changed-is (with_state state.Filed) c.args.number c.args.plans.now p there in
    let name : c.of_key-name.result ≡ flight_of_key p.key = c.of_key-name.ensures ∙ ap (λ k. flight_of_key k) c.key.ensures in
    let free : is_held c.index-as_slice-number.result.state ≡ false = sym c.is_held-held.ensures ∙ c.if-not-held.true in
    let left : AreChained c.args.chains.now (others c.args.number c.set_state.new.self) =
    rw same
    (others-of-unheld c.args.chains.now c.args.plans.now c.args.number c.index-as_slice-number.result (with_state state.Filed p) c.requires.number.0 c.requires.number.1 first free c.requires.chained) in
    exchanged-in c.args.plans.now c.set_state.new.self c.args.number (with_state state.Filed p) c.requires.number.0 c.requires.number.1 same
    c.args.chains.now c.join.new.self c.of_key-name.result refl name left c.join.ensures.taken

pub returns-else-not-held-clause-chained : goal.returns-else-not-held-clause-chained
returns-else-not-held-clause-chained g c =
    let p = c.index-as_slice-number.result in
    let stood = rw c.as_slice.ensures at c.index-as_slice-number.is in
    let there : plan_at c.args.plans.now c.args.number ≡ Some p = plan-stood c.args.plans.now c.args.number p c.requires.number.0 c.requires.number.1 stood in
    let held : is_held p.state ≡ true = sym c.is_held-held.ensures ∙ c.if-not-held.false in
    rw c.set_state.ensures (chained-changed c.args.chains.now (with_state state.Filed) c.args.number c.args.plans.now (rw there (sym held, refl)) c.requires.chained)
