-- What undoes the last change of a store.
use Rattle.std.specs.Prelude.{◌≡◌, ℕ, ◌-◌, ◌<◌, ◌≤◌, List, length, take, Option, Some, None, true, IfSome}
use Rattle.flow_plans.specs.declared.undo.LastChange as last_change
use Rattle.flow_plans.specs.declared.undo.LastChange.TheVariants as change
use Rattle.flow_plans.specs.declared.plan.PlanState.TheVariants as state
use Rattle.flow_plans.specs.Chains.{ChainsView, flight_of_key, AreChained, HasRoomFor}
use Rattle.flow_plans.specs.Plans.{PlanView, is_held, plan_at, changed_at, with_state, with_off_block, with_former}
use Rattle.flow_plans.specs.declared.setup.TheConstants.{MAX_PLANS, MAX_TAXI}
use Rattle.flow_plans.specs.Times.{off_blocks_end}

-- the plans before this change, if it can be undone
abbrev pub undone : {A : Type 0} → List PlanView → last_change.LastChange A → Option (List PlanView)
undone plans change.Nothing = None
undone plans change.Filed = Some (take (length plans - 1) plans)
undone plans (change.Delayed number moment) = Some (changed_at (with_off_block moment) number plans)
undone plans (change.Ended number) = Some (changed_at (with_state state.Filed) number plans)
undone plans (change.Amended number former) = Some (changed_at (with_former former) number plans)

-- the change is one of these plans; an amended plan is held
abbrev pub IsOf : {A : Type 0} → last_change.LastChange A → List PlanView → Type 0
IsOf change.Nothing plans = Unit {0}
IsOf change.Filed plans = 0 < length plans
IsOf (change.Delayed number moment) plans = (0 < number) × (number ≤ length plans) × (moment < off_blocks_end)
IsOf (change.Ended number) plans = (0 < number) × (number ≤ length plans)
IsOf (change.Amended number former) plans =
    (0 < number) × (number ≤ length plans) × IfSome (plan_at plans number) (λ p. is_held p.state ≡ true)

-- the chains can have the plan again that the change removed, without an allocation
abbrev pub CanReturn : {A : Type 0} → ChainsView → last_change.LastChange A → List PlanView → Type 0
CanReturn chains change.Nothing plans = Unit {0}
CanReturn chains change.Filed plans = Unit {0}
CanReturn chains (change.Delayed number moment) plans = Unit {0}
CanReturn chains (change.Ended number) plans = IfSome (plan_at plans number) (λ p. HasRoomFor chains (flight_of_key p.key))
CanReturn chains (change.Amended number former) plans = HasRoomFor chains (flight_of_key former.key)

-- the invariant of a store
abbrev pub IsKeptStore : {A : Type 0} → ℕ → ℕ → List PlanView → ChainsView → last_change.LastChange A → Type 0
IsKeptStore max_plans taxi plans chains change =
    (length plans ≤ max_plans) × (max_plans ≤ MAX_PLANS) × (taxi ≤ MAX_TAXI) × IsOf change plans × AreChained chains plans × CanReturn chains change plans
