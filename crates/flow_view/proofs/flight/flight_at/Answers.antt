use Rattle.std.proofs.Common.{◌≡◌, ◌-◌, ℕ, Option, Some, ap, sym, ◌∙◌, slice_get}
use Rattle.std.specs.Option.{option_copied, option_map}
use Rattle.flow_plans.specs.Plans.{PlanView}
use Rattle.flow_regulations.specs.declared.notice.Told.{Told}
use Rattle.flow_traffic.specs.Traffic.{Traffic, told_of}
use Rattle.flow_core.specs.History.{state_of}
use Rattle.flow_view.specs.declared.flight.Flight.{Flight}
use Rattle.flow_view.specs.Shown.{shown_flight}
use Rattle.flow_view.proofs.Told.{told-in-row}
use Rattle.flow_view.proofs.flight.flight_at.Goals as goal

pub returns : goal.returns
returns g c =
    let i : ℕ = c.args.number - 1 in
    let t : Traffic = (state_of c.args.core.now).traffic in
    let here : slice_get t.plans i ≡ Some c.in-Some.plan.now = sym (c.plan.ensures.plan c.requires) ∙ ap (λ o. option_copied o) c.in-Some.is in
    let told : c.told_of.result ≡ told_of t.told c.args.number = c.told_of.ensures ∙ told-in-row t.plans t.told i c.in-Some.plan.now here in
    let taxi : c.taxi.result ≡ c.args.core.now.setup.taxi = c.taxi.ensures.value ∙ ap (λ s. s.taxi) c.setup.ensures in
    let made : Option PlanView → Option Flight = option_map (λ p. shown_flight c.args.core.now.setup.taxi c.args.spot.now p (told_of t.told c.args.number)) in
    ap (λ (f : Flight). Some f) (c.flight_of.ensures ∙ (ap (λ n. shown_flight n c.args.spot.now c.in-Some.plan.now c.told_of.result) taxi
    ∙ ap (λ (o : Option Told). shown_flight c.args.core.now.setup.taxi c.args.spot.now c.in-Some.plan.now o) told))
    ∙ sym (ap made here)
