use Rattle.std.proofs.Common.{ℕ, ◌≡◌, ◌≤◌, ◌+◌, ◌-◌, ◌==◌, ◌&&◌, not, length, false, slice_index, sym, ap, ◌∙◌, arith}
use Rattle.flow_plans.specs.declared.chains.FlightName.{FlightName}
use Rattle.flow_plans.specs.Plans.{is_held_as}
use Rattle.flow_plans.specs.Chains.{newest, flight_of_key, is_held_there, newest_held}
use Rattle.flow_plans.specs.Searching.{IsFreeAt, passes_at}
use Rattle.flow_plans.proofs.LastNumbers.{last-le}
use Rattle.flow_plans.proofs.Walks.{free-at-first, free-on, newest-there}
use Rattle.flow_plans.proofs.matching.is_held_in.Goals as goal

pub loop-number-init : goal.loop-number-init
loop-number-init g c =
    let name : FlightName = flight_of_key c.args.key.now in
    let first : c.newest-number.result ≡ newest_held name c.args.plans.now (length c.args.plans.now) =
    c.newest-number.ensures ∙ ap (λ (n : FlightName). newest c.args.chains.now.heads n) c.requires.named ∙ c.requires.chained.heads name in
    rw first record {
      free = free-at-first c.args.key.now c.args.plans.now c.args.but;
      within = last-le (is_held_there name c.args.plans.now) (length c.args.plans.now);
      held = newest-there name c.args.plans.now (length c.args.plans.now);
    }

pub loop-number-smaller : goal.loop-number-smaller
loop-number-smaller g c =
    let down : slice_index c.older-older.result.now (c.loop-number.number - 1) ≤ c.loop-number.number - 1 = c.older-older.ensures.down (c.loop-number.number - 1) in
    omega (arith, down, c.loop-number-test.true)

pub loop-number-preserved : goal.loop-number-preserved
loop-number-preserved g c =
    let name : FlightName = flight_of_key c.args.key.now in
    let i : ℕ = c.loop-number.number - 1 in
    let at : c.loop-number.number ≡ i + 1 = omega (arith, c.loop-number-test.true) in
    let next : slice_index c.older-older.result.now i ≡ newest_held name c.args.plans.now i =
    ap (λ xs. slice_index xs i) c.older-older.ensures.value ∙ c.requires.chained.links name i (c.loop-number.invariant.held i at) in
    let none : (not (i == c.args.but) && passes_at (is_held_as c.args.key.now) c.args.plans.now i) ≡ false = sym c.is_held_beside.ensures ∙ c.if-is_held_beside.false in
    let free : (k : ℕ) → i + 1 ≤ k → IsFreeAt c.args.key.now c.args.plans.now c.args.but k = λ k a. c.loop-number.invariant.free k (omega (arith, a)) in
    rw next record {
      free = free-on c.args.key.now c.args.plans.now c.args.but i none free;
      within = omega (arith, last-le (is_held_there name c.args.plans.now) i, c.loop-number.invariant.within);
      held = newest-there name c.args.plans.now i;
    }

pub returns-clause-none : goal.returns-clause-none
returns-clause-none g c = λ _ k. c.loop-number.invariant.free k (omega (arith, c.loop-number-test.false))
