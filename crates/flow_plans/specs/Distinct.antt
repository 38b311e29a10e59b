-- Held plans have different keys, and a plan keeps its number. That a key names one held plan at
-- most is the desk's own rule.
use Rattle.std.specs.Prelude.{◌≡◌, ℕ, true, List, slice_get, Option, Some, None}
use Rattle.std.specs.Option.{option_map_or}
use Rattle.flow_plans.specs.declared.plan.Key.{Key}
use Rattle.flow_plans.specs.Plans.{PlanView, is_held, plan_at}

-- held plans with the same key have the same index
abbrev pub AreDistinct : List PlanView → Type 0
AreDistinct plans =
    (place other : ℕ) (p q : PlanView) → slice_get plans place ≡ Some p → slice_get plans other ≡ Some q
    → is_held p.state ≡ true → is_held q.state ≡ true → p.key ≡ q.key → place ≡ other

-- the key of the plan of this number
abbrev pub key_at : List PlanView → ℕ → Option Key
key_at plans number = option_map_or (λ plan. Some plan.key) (plan_at plans number) None

-- each number still names a plan with the key that it had
abbrev pub KeepKeys : List PlanView → List PlanView → Type 0
KeepKeys plans later = (number : ℕ) (key : Key) → key_at plans number ≡ Some key → key_at later number ≡ Some key

-- each number still names a plan with the key that it had, except for the destination
abbrev pub KeepFlights : List PlanView → List PlanView → Type 0
KeepFlights plans later =
    (number : ℕ) (key : Key) → key_at plans number ≡ Some key
    → (dest : List ℕ) × (key_at later number ≡ Some (record key { dest = dest }))
