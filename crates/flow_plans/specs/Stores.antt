-- What contracts see of a store of plans, and what its changes have in common.
use Rattle.std.specs.Prelude.{◌≡◌, ◌<◌, ◌≤◌, ℕ, List, length, Option, Some, Result, Ok, IfOk, IfErr, OnOk, OnErr}
use Rattle.fpl_message.specs.declared.refusal.Refusal.{Refusal}
use Rattle.flow_plans.specs.declared.fault.PlanFault.{PlanFault}
use Rattle.flow_plans.specs.Plans.{PlanView}
use Rattle.flow_plans.specs.Changes.{Changed, IsRefusal}

pub record PlanStoreView : Type 0 where
  -- how many flight plans are accepted
  pub max_plans : ℕ
  -- from off-block to take-off, in minutes, at every aerodrome
  pub taxi : ℕ
  -- plan n is the n-th
  pub plans : List PlanView
  -- the plans before the last accepted change, if that can be undone
  pub before : Option (List PlanView)

-- a message changes the plan that it is about, whose number is the result, and that can be undone;
-- or its refusal is the fault, unless an allocation failed, and the store is unchanged
pub record ChangesPlan (result : Result ℕ PlanFault) (expected : Result Changed Refusal) (old new : PlanStoreView) : Type 0 where
  pub ok : IfOk result (λ n. expected ≡ Ok (record { plans = new.plans; number = n }))
  pub within : IfOk result (λ n. (0 < n) × (n ≤ length new.plans))
  pub refused : IfErr result (λ e. IsRefusal e expected)
  pub before : OnOk result (new.before ≡ Some old.plans)
  pub err : OnErr result (new ≡ old)
  pub count : length new.plans ≡ length old.plans
  pub limit : new.max_plans ≡ old.max_plans
  pub taxi : new.taxi ≡ old.taxi
