use Rattle.std.proofs.Common.{ℕ, ◌≡◌, ◌≤◌, ◌+◌, ◌-◌, length, slice_index, refl, ap, ◌∙◌, arith}
use Rattle.flow_plans.specs.declared.chains.FlightName.{FlightName}
use Rattle.flow_plans.specs.Chains.{newest, flight_of_parts, is_held_there, newest_held}
use Rattle.flow_plans.specs.Matching.{is_candidate, is_gone}
use Rattle.flow_plans.specs.Searching.{IsCounted}
use Rattle.flow_plans.proofs.LastNumbers.{last-le}
use Rattle.flow_plans.proofs.Matches.{sound-more}
use Rattle.flow_plans.proofs.Walks.{counted-at-first, counted-on, newest-there}
use Rattle.flow_plans.proofs.matching.found_in.Goals as goal

pub loop-number-init : goal.loop-number-init
loop-number-init g c =
    let name : FlightName = flight_of_parts c.args.parts.now in
    let first : c.newest-number.result ≡ newest_held name c.args.plans.now (length c.args.plans.now) =
    c.newest-number.ensures ∙ ap (λ (n : FlightName). newest c.args.chains.now.heads n) c.of_parts.ensures ∙ c.requires.heads name in
    rw first record {
      sound = tt;
      counted = counted-at-first c.args.parts.now c.args.plans.now;
      within = last-le (is_held_there name c.args.plans.now) (length c.args.plans.now);
      held = newest-there name c.args.plans.now (length c.args.plans.now);
    }

pub loop-number-smaller : goal.loop-number-smaller
loop-number-smaller g c =
    let down : slice_index c.older-older.result.now (c.loop-number.number - 1) ≤ c.loop-number.number - 1 = c.older-older.ensures.down (c.loop-number.number - 1) in
    omega (arith, down, c.loop-number-test.true)

pub loop-number-preserved : goal.loop-number-preserved
loop-number-preserved g c =
    let name : FlightName = flight_of_parts c.args.parts.now in
    let i : ℕ = c.loop-number.number - 1 in
    let at : c.loop-number.number ≡ i + 1 = omega (arith, c.loop-number-test.true) in
    let next : slice_index c.older-older.result.now i ≡ newest_held name c.args.plans.now i =
    ap (λ xs. slice_index xs i) c.older-older.ensures.value ∙ c.requires.links name i (c.loop-number.invariant.held i at) in
    let counted : (k : ℕ) → i + 1 ≤ k → IsCounted (is_candidate c.args.parts.now) (is_gone c.args.parts.now) c.args.plans.now c.loop-number.found k =
    λ k a. c.loop-number.invariant.counted k (omega (arith, a)) in
    rw (c.with_place-found.ensures, next) record {
      sound = sound-more _ _ _ c.loop-number.found i _ _ refl refl c.loop-number.invariant.sound;
      counted = counted-on c.args.parts.now c.args.plans.now c.loop-number.found i counted;
      within = omega (arith, last-le (is_held_there name c.args.plans.now) i, c.loop-number.invariant.within);
      held = newest-there name c.args.plans.now i;
    }
