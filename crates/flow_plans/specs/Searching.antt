-- How the plan that a message is about is searched for: what was found so far, by index in the list
-- from 0.
use Rattle.std.specs.Prelude.{◌≡◌, ℕ, ◌+◌, Bool, true, false, ◌==◌, if◌then◌else◌, List, slice_get, Result, Ok, Err}
use Rattle.std.specs.Option.{option_map_or}
use Rattle.fpl_message.specs.declared.refusal.Refusal.{Refusal}
use Rattle.fpl_message.specs.declared.refusal.Refusal.TheVariants as refusal
use Rattle.flow_plans.specs.declared.matching.Found.{Found}
use Rattle.flow_plans.specs.declared.matching.Found.TheVariants as found
use Rattle.flow_plans.specs.declared.plan.Key.{Key}
use Rattle.flow_plans.specs.Plans.{PlanView, is_held_as}
use Rattle.flow_plans.specs.Matching.{numbers, the_one}

-- one more candidate, which may have been counted already
abbrev pub with_candidate : ℕ → Found → Found
with_candidate place found.Nothing = found.One place
with_candidate place found.Gone = found.One place
with_candidate place (found.One other) = if other == place then found.One other else found.Several
with_candidate place found.Several = found.Several

-- one more plan that has departed
abbrev pub with_gone : Found → Found
with_gone found.Nothing = found.Gone
with_gone found.Gone = found.Gone
with_gone (found.One other) = found.One other
with_gone found.Several = found.Several

-- one more plan, of which it is known whether it is a candidate and whether it has departed
abbrev pub with_one_more : Bool → Bool → ℕ → Found → Found
with_one_more candidate gone place before =
    if candidate then with_candidate place before else (if gone then with_gone before else before)

abbrev pub number_found : Found → Result ℕ Refusal
number_found found.Nothing = Err refusal.NoPlan
number_found found.Gone = Err refusal.AlreadyDeparted
number_found (found.One place) = Ok (place + 1)
number_found found.Several = Err refusal.Ambiguous

-- whether the plan at an index passes a test
abbrev pub passes_at : (PlanView → Bool) → List PlanView → ℕ → Bool
passes_at test plans place = option_map_or test (slice_get plans place) false

-- what was found is true of the plans
abbrev pub IsTrueOf : (PlanView → Bool) → (PlanView → Bool) → List PlanView → Found → Type 0
IsTrueOf test gone plans found.Nothing = Unit {0}
IsTrueOf test gone plans found.Gone = (place : ℕ) × (passes_at gone plans place ≡ true)
IsTrueOf test gone plans (found.One place) = passes_at test plans place ≡ true
IsTrueOf test gone plans found.Several = (d : Bool) → the_one d (numbers test 1 plans) ≡ Err refusal.Ambiguous

-- the plan at an index is counted in what was found
abbrev pub IsCounted : (PlanView → Bool) → (PlanView → Bool) → List PlanView → Found → ℕ → Type 0
IsCounted test gone plans found.Nothing place = (passes_at test plans place ≡ false) × (passes_at gone plans place ≡ false)
IsCounted test gone plans found.Gone place = passes_at test plans place ≡ false
IsCounted test gone plans (found.One one) place = passes_at test plans place ≡ true → place ≡ one
IsCounted test gone plans found.Several place = Unit {0}

-- the plan at an index is not held with this key, unless that index does not count
abbrev pub IsFreeAt : Key → List PlanView → ℕ → ℕ → Type 0
IsFreeAt key plans but place = (place ≡ but → ⊥) → passes_at (is_held_as key) plans place ≡ false

-- a plan at another index is held with this key
abbrev pub IsHeldBeside : Key → List PlanView → ℕ → Type 0
IsHeldBeside key plans but = (place : ℕ) × (place ≡ but → ⊥) × (passes_at (is_held_as key) plans place ≡ true)
