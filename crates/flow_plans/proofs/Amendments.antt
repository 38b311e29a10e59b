-- What amends a plan, step by step, amends it as the definition says.
use Rattle.std.proofs.Common.{◌≡◌, ℕ, ◌-◌, ◌<◌, ◌≤◌, false, List, length, Ok, Some, slice_get, get_or, refl, arith}
use Rattle.std.proofs.lemmas.Option.{slice_get_read}
use Rattle.std.specs.List.{list_any}
use Rattle.fpl_message.specs.Messages.{ChgView}
use Rattle.flow_plans.specs.Plans.{PlanView, is_held_as, changed_at}
use Rattle.flow_plans.specs.Matching.{matching}
use Rattle.flow_plans.specs.Changes.{changes_key, key_after, moved_to, others, amended_plan, amended}
use Rattle.flow_plans.proofs.Keepings.{changed-is}

-- every step was taken, so the amendment is made
pub all-steps : (now : ℕ) (plans : List PlanView) (m : ChgView) (number moment : ℕ) (plan : PlanView) → matching plans m.parts ≡ Ok number → 0 < number → number ≤ length plans → plan ≡ get_or plans (number - 1) plan → changes_key m plan.key ≡ false → moved_to now plan.off_block m.departure ≡ Ok moment → list_any (is_held_as (key_after plan.key m)) (others number plans) ≡ false → amended now plans m ≡ Ok (record { plans = changed_at (amended_plan moment m) number plans; number = number })
unfolding amended
all-steps now plans m number moment plan found low high stood same moved free =
    let there : slice_get plans (number - 1) ≡ Some plan = slice_get_read plans (length plans) (number - 1) plan refl (omega arith) stood in
    rw (changed-is (amended_plan moment m) number plans plan there, found, there, same, moved, free) refl

-- an amended plan keeps its state, and its key but for the destination
pub amended-state : (moment : ℕ) (m : ChgView) (plan : PlanView) → (amended_plan moment m plan).state ≡ plan.state
unfolding amended_plan
amended-state moment m plan = refl

pub amended-key : (moment : ℕ) (m : ChgView) (plan : PlanView) → (amended_plan moment m plan).key ≡ key_after plan.key m
unfolding amended_plan
amended-key moment m plan = refl
