use Rattle.std.proofs.Common.{◌≡◌, ◌≤◌, ◌∙◌, ℕ, List, Some, ap, sym, arith, length, slice_get}
use Rattle.std.specs.Prelude.{flat_map}
use Rattle.std.specs.Option.{option_copied, option_to_list}
use Rattle.flow_plans.specs.Plans.{PlanView}
use Rattle.flow_core.specs.History.{History, state_of}
use Rattle.flow_view.specs.declared.count.Entrant.{Entrant}
use Rattle.flow_view.specs.Counts.{entrant_of}
use Rattle.flow_view.proofs.Entrants.{next-taken, few-plans}
use Rattle.flow_view.proofs.Lists.{take-past}
use Rattle.flow_view.proofs.count.entrants_of.Goals as goal

pub loop-index-preserved : goal.loop-index-preserved
loop-index-preserved g c =
    let h : History = c.args.core.now in
    let plans : List PlanView = (state_of h).traffic.plans in
    let i : ℕ = c.loop-index.index in
    let p : PlanView = c.in-Some.plan.now in
    let here : slice_get plans i ≡ Some p
    = ap (slice_get plans) (omega arith) ∙ (sym (c.plan.ensures.plan (omega arith)) ∙ ap (λ o. option_copied o) c.in-Some.is) in
    let taxi : c.taxi-taxi.result ≡ h.setup.taxi = c.taxi-taxi.ensures.value ∙ ap (λ s. s.taxi) c.setup.ensures in
    let is : c.entrant_of.result ≡ entrant_of h.setup.taxi (state_of h).traffic.now c.args.spot.now p
    = c.entrant_of.ensures ∙ (ap (λ n. entrant_of n c.now-now.result c.args.spot.now p) taxi ∙ ap (λ n. entrant_of h.setup.taxi n c.args.spot.now p) c.now-now.ensures) in
    next-taken (entrant_of h.setup.taxi (state_of h).traffic.now c.args.spot.now) plans i p c.loop-index.entrants.items c.add_entrant.new.entrants.items c.entrant_of.result
    here c.loop-index.invariant is c.in_ok-add_entrant.ensures

pub returns : goal.returns
returns g c =
    let h : History = c.args.core.now in
    let plans : List PlanView = (state_of h).traffic.plans in
    let most : c.max_plans-index-end.result ≡ h.setup.max_plans = c.max_plans-index-end.ensures.value ∙ ap (λ s. s.max_plans) c.setup-2.ensures in
    let few : length plans ≤ h.setup.max_plans = few-plans h.setup h.filed in
    let all : length plans ≤ c.loop-index.index = omega (arith, few, most, c.loop-index-test.false) in
    let entrants_in : List PlanView → List Entrant = flat_map (λ p. option_to_list (entrant_of h.setup.taxi (state_of h).traffic.now c.args.spot.now p)) in
    record { entrants = c.loop-index.invariant ∙ ap entrants_in (take-past c.loop-index.index plans all) }
