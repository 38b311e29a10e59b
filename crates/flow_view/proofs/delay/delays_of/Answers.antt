use Rattle.std.proofs.Common.{◌≡◌, ◌∙◌, ◌+◌, ◌<◌, ℕ, List, Option, Some, ap, sym, take, arith, slice_get}
use Rattle.std.specs.Prelude.{flat_map}
use Rattle.std.specs.Option.{option_to_list}
use Rattle.flow_view.specs.declared.delay.FlightDelay.{FlightDelay}
use Rattle.flow_view.specs.Openings.{OpeningView}
use Rattle.flow_view.specs.Delays.{delay_of_flight, delays}
use Rattle.flow_view.proofs.Delays.{all-delays}
use Rattle.flow_view.proofs.Lists.{ok-also, take-past}
use Rattle.flow_view.proofs.delay.delays_of.Goals as goal

pub returns-clause-delays : goal.returns-clause-delays
returns-clause-delays g c =
    let os : List OpeningView = c.args.openings.now in
    let table : List (Option FlightDelay) = c.loop-opening.greatest.items in
    let all : take c.loop-opening.opening-index os ≡ os = take-past c.loop-opening.opening-index os c.loop-opening-test.false in
    let each : (n : ℕ) → n < c.args.plans → slice_get table n ≡ Some (delay_of_flight os (n + 1))
    = λ n lt. c.loop-opening.invariant.each n lt ∙ ap (λ (ps : List OpeningView). Some (delay_of_flight ps (n + 1))) all in
    let whole : take c.args.plans table ≡ table = take-past c.args.plans table (omega (arith, c.loop-opening.invariant.len)) in
    let made : flat_map (λ d. option_to_list d) c.as_slice.result.now ≡ delays c.args.plans os
    = ap (λ (t : List (Option FlightDelay)). flat_map (λ d. option_to_list d) t) (c.as_slice.ensures.value ∙ sym whole)
    ∙ all-delays c.args.plans os table (omega (arith, c.loop-opening.invariant.len)) each in
    ok-also c.collected.result _ _ (λ v e. e ∙ made) c.collected.ensures.delays
