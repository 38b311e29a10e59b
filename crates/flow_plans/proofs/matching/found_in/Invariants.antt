use Rattle.std.proofs.Common.{ℕ, ◌≤◌, length}
use Rattle.flow_plans.specs.Matching.{is_candidate, is_gone}
use Rattle.flow_plans.specs.Searching.{IsTrueOf, IsCounted}
use Rattle.flow_plans.specs.Chains.{flight_of_parts, is_held_there, IsNewest}
use Rattle.flow_plans.proofs.matching.found_in.Given as goal

abbrev pub invariant-loop-number : goal.invariant-loop-number
invariant-loop-number g l = record {
  sound : IsTrueOf (is_candidate l.parts) (is_gone l.parts) l.plans l.found;
  counted : (place : ℕ) → l.number ≤ place → IsCounted (is_candidate l.parts) (is_gone l.parts) l.plans l.found place;
  within : l.number ≤ length l.plans;
  held : IsNewest (is_held_there (flight_of_parts l.parts) l.plans) l.number;
}

abbrev pub decreases-loop-number : goal.decreases-loop-number
decreases-loop-number g l = l.number
