use Rattle.std.proofs.Common.{ℕ, ◌≤◌, length}
use Rattle.flow_plans.specs.Searching.{IsFreeAt}
use Rattle.flow_plans.specs.Chains.{flight_of_key, is_held_there, IsNewest}
use Rattle.flow_plans.proofs.matching.is_held_in.Given as goal

abbrev pub invariant-loop-number : goal.invariant-loop-number
invariant-loop-number g l = record {
  free : (place : ℕ) → l.number ≤ place → IsFreeAt l.key l.plans l.but place;
  within : l.number ≤ length l.plans;
  held : IsNewest (is_held_there (flight_of_key l.key) l.plans) l.number;
}

abbrev pub decreases-loop-number : goal.decreases-loop-number
decreases-loop-number g l = l.number
