-- Which plan a message is about (ICAO Doc 4444, appendix 3, field types 7, 13, 16 and 18). The
-- desk's own rule: a message without a DOF item is about the one plan that matches, and the day of
-- a plan is that of its off-block date and time as first filed.
use Rattle.std.specs.Prelude.{ℕ, ◌+◌, Bool, true, ◌&&◌, ◌==◌, if◌then◌else◌, List, [], ◌∷◌, Option, Some, None, Result, Ok, Err}
use Rattle.std.specs.List.{list_any}
use Rattle.std.specs.Str.{bytes_eq}
use Rattle.fpl_message.specs.declared.parts.Parts.{Parts}
use Rattle.fpl_message.specs.declared.refusal.Refusal.{Refusal}
use Rattle.fpl_message.specs.declared.refusal.Refusal.TheVariants as refusal
use Rattle.flow_plans.specs.declared.plan.Key.{Key}
use Rattle.flow_plans.specs.Plans.{PlanView, is_filed, is_departed}

-- the day counts only if the message has one
abbrev pub is_on : Option ℕ → ℕ → Bool
is_on (Some named) day = day == named
is_on None day = true

-- a plan's key matches the parts of a message
unfoldable pub agrees : Parts → Key → Bool
agrees parts key =
    bytes_eq key.ident parts.ident && bytes_eq key.dep parts.dep && bytes_eq key.dest parts.dest && is_on parts.day key.day

abbrev pub is_candidate : Parts → PlanView → Bool
is_candidate parts plan = is_filed plan.state && agrees parts plan.key

abbrev pub is_gone : Parts → PlanView → Bool
is_gone parts plan = is_departed plan.state && agrees parts plan.key

-- the numbers, from this one on, of the plans that pass a test
abbrev pub numbers : (PlanView → Bool) → ℕ → List PlanView → List ℕ
numbers test number [] = []
numbers test number (plan ∷ plans) =
    if test plan then number ∷ numbers test (number + 1) plans else numbers test (number + 1) plans

-- the one of these, if there is exactly one; if there is none it matters whether such a plan has
-- departed
abbrev pub the_one : Bool → List ℕ → Result ℕ Refusal
the_one departed [] = if departed then Err refusal.AlreadyDeparted else Err refusal.NoPlan
the_one departed (number ∷ []) = Ok number
the_one departed (number ∷ other ∷ more) = Err refusal.Ambiguous

-- the number of the plan that a message with these parts is about
unfoldable pub matching : List PlanView → Parts → Result ℕ Refusal
matching plans parts = the_one (list_any (is_gone parts) plans) (numbers (is_candidate parts) 1 plans)
