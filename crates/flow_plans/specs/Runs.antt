-- The history of a store of plans: changes that messages ask for, and undoing the last one.
use Rattle.std.specs.Prelude.{ℕ, List, [], ◌∷◌, Option, Some, None, Result, Ok, Err}
use Rattle.fpl_message.specs.declared.refusal.Refusal.{Refusal}
use Rattle.fpl_message.specs.declared.short_message.Dla.{Dla}
use Rattle.fpl_message.specs.declared.short_message.Cnl.{Cnl}
use Rattle.fpl_message.specs.declared.short_message.Dep.{Dep}
use Rattle.fpl_message.specs.Messages.{FplView, ChgView}
use Rattle.fpl_message.specs.Refusals.{◌>>=◌}
use Rattle.flow_plans.specs.Plans.{PlanView}
use Rattle.flow_plans.specs.Changes.{filed, delayed, cancelled, departed, amended}

-- a message, with the desk's time at which it comes and how many plans are accepted, if these
-- matter
pub data Change : Type 0 where
  file : ℕ → ℕ → FplView → Change
  delay : ℕ → Dla → Change
  amend : ℕ → ChgView → Change
  cancel : Cnl → Change
  depart : Dep → Change

-- the plans after it, or why it is refused
abbrev pub change_of : List PlanView → Change → Result (List PlanView) Refusal
change_of plans (file max now m) = filed max now plans m
change_of plans (delay now m) = delayed now plans m >>= (λ later. Ok later.plans)
change_of plans (amend now m) = amended now plans m >>= (λ later. Ok later.plans)
change_of plans (cancel m) = cancelled plans m >>= (λ later. Ok later.plans)
change_of plans (depart m) = departed plans m >>= (λ later. Ok later.plans)

-- a refused change leaves all unchanged
abbrev pub or_same : List PlanView → Result (List PlanView) Refusal → List PlanView
or_same plans (Ok later) = later
or_same plans (Err refusal) = plans

-- the plans after changes, one after the other
abbrev pub changed_all : List Change → List PlanView → List PlanView
changed_all [] plans = plans
changed_all (change ∷ changes) plans = changed_all changes (or_same plans (change_of plans change))

-- a change, or undoing the last accepted one
pub data Turn : Type 0 where
  changes : Change → Turn
  takes_back : Turn

-- the plans, and those before the last accepted change, if that can be undone
pub record Held : Type 0 where
  pub plans : List PlanView
  pub before : Option (List PlanView)

abbrev pub held_after : Held → Result (List PlanView) Refusal → Held
held_after held (Ok later) = record { plans = later; before = Some held.plans }
held_after held (Err refusal) = held

abbrev pub held_before : Held → Option (List PlanView) → Held
held_before held (Some plans) = record { plans = plans; before = None }
held_before held None = held

abbrev pub after_turn : Held → Turn → Held
after_turn held (changes change) = held_after held (change_of held.plans change)
after_turn held takes_back = held_before held held.before

-- the plans after turns, one after the other
abbrev pub after_turns : List Turn → Held → Held
after_turns [] held = held
after_turns (turn ∷ turns) held = after_turns turns (after_turn held turn)

-- a store at the start
abbrev pub nothing_held : Held
nothing_held = record { plans = []; before = None }
