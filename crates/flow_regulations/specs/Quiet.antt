-- When no notice is pending to plans.
use Rattle.std.specs.Prelude.{◌≡◌, ℕ, ◌-◌, ◌<◌, false, List, [], ◌∷◌, Option, Some, IfSome, slice_get}
use Rattle.flow_plans.specs.Plans.{PlanView, plan_at}
use Rattle.flow_slots.specs.Assignment.{is_in}
use Rattle.flow_regulations.specs.declared.notice.Told.{Told}
use Rattle.flow_regulations.specs.Regulations.{Regulation}
use Rattle.flow_regulations.specs.Settling.{pairs_of}
use Rattle.flow_regulations.specs.Advice.{advice}
use Rattle.flow_regulations.specs.Notices.{notices_to}

-- a plan of this number with this CTOT last issued gets no notice
abbrev pub IsQuiet : ℕ → ℕ → List Regulation → PlanView → Option Told → Type 0
IsQuiet taxi number regulations p told = notices_to p told (advice taxi number p regulations) ≡ []

-- the CTOT last issued to the plan of this number
abbrev pub told_at : List (Option Told) → ℕ → Option (Option Told)
told_at told number = slice_get told (number - 1)

abbrev pub IsQuietAt : ℕ → List Regulation → List PlanView → List (Option Told) → ℕ → Type 0
IsQuietAt taxi regulations plans told number =
    IfSome (plan_at plans number) (λ p. IfSome (told_at told number) (λ t. IsQuiet taxi number regulations p t))

-- no plan gets a notice, except those of these numbers
abbrev pub AreQuietBut : List ℕ → ℕ → List Regulation → List PlanView → List (Option Told) → Type 0
AreQuietBut changed taxi regulations plans told =
    (number : ℕ) → 0 < number → is_in number changed ≡ false → IsQuietAt taxi regulations plans told number

abbrev pub AllQuiet : ℕ → List Regulation → List PlanView → List (Option Told) → Type 0
AllQuiet taxi regulations plans told = (number : ℕ) → 0 < number → IsQuietAt taxi regulations plans told number

-- the same regulations before and after, and the flight keeps the same slots in them
abbrev pub HasSameSlots : ℕ → List Regulation → List Regulation → Type 0
HasSameSlots flight [] [] = Unit {0}
HasSameSlots flight [] (s ∷ ss) = ⊥
HasSameSlots flight (r ∷ rs) [] = ⊥
HasSameSlots flight (r ∷ rs) (s ∷ ss) =
    (r.id ≡ s.id) × (r.spot ≡ s.spot) × (r.period ≡ s.period) × (pairs_of flight r.fixed ≡ pairs_of flight s.fixed)
    × HasSameSlots flight rs ss

-- a plan is unchanged, with the CTOT last issued to it and its advice
abbrev pub IsUntouched : ℕ → List Regulation → List PlanView → List (Option Told) → List Regulation → List PlanView → List (Option Told) → ℕ → Type 0
IsUntouched taxi before plans told after plans_after told_after number =
    (plan_at plans_after number ≡ plan_at plans number)
    × (told_at told_after number ≡ told_at told number)
    × ((p : PlanView) → plan_at plans number ≡ Some p → advice taxi number p after ≡ advice taxi number p before)
