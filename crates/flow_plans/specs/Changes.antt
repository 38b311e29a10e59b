-- What messages do to the list of plans, in which plan n is the n-th (ICAO Doc 4444, appendix 2:
-- FPL, DLA, CHG, CNL and DEP).
use Rattle.std.specs.Prelude.{◌≡◌, ℕ, ◌/◌, Bool, false, not, ◌||◌, if◌then◌else◌, nat_le, List, [], ◌∷◌, ◌++◌, length, Option, Some, None, unwrap_or, is_some, Result, Ok, Err}
use Rattle.std.specs.List.{list_any}
use Rattle.std.specs.Option.{option_map_or}
use Rattle.std.specs.Str.{bytes_eq}
use Rattle.fpl_text.specs.declared.place.Departure.{Departure}
use Rattle.fpl_text.specs.declared.place.Destination.{Destination}
use Rattle.fpl_items.specs.Items.{is_exempt, day_of_items}
use Rattle.fpl_message.specs.declared.refusal.Refusal.{Refusal}
use Rattle.fpl_message.specs.declared.refusal.Refusal.TheVariants as refusal
use Rattle.fpl_message.specs.declared.short_message.Dla.{Dla}
use Rattle.fpl_message.specs.declared.short_message.Cnl.{Cnl}
use Rattle.fpl_message.specs.declared.short_message.Dep.{Dep}
use Rattle.fpl_message.specs.Messages.{FplView, ChgView}
use Rattle.fpl_message.specs.Reads.{field}
use Rattle.fpl_message.specs.Refusals.{◌>>=◌}
use Rattle.flow_plans.specs.declared.plan.Key.{Key}
use Rattle.flow_plans.specs.declared.plan.PlanState.TheVariants as state
use Rattle.flow_plans.specs.declared.fault.PlanFault.{PlanFault}
use Rattle.flow_plans.specs.declared.fault.PlanFault.TheVariants as fault
use Rattle.flow_plans.specs.Plans.{PlanView, TextsView, is_held_as, plan_at, with_plan, changed_at, with_state, with_off_block}
use Rattle.flow_plans.specs.Times.{unless, off_block_of, unless_out_of_time, delayed_to}
use Rattle.flow_plans.specs.Matching.{is_on, matching}

-- the key of the plan that a flight plan message files
abbrev pub key_of : ℕ → FplView → Key
key_of moment m = record { ident = m.ident.name; dep = m.departure.place; dest = m.destination.place; day = moment / 1440 }

-- the plan that a flight plan message files, with this off-block date and time
unfoldable pub plan_of : ℕ → FplView → PlanView
plan_of moment m = record {
  key = key_of moment m;
  state = state.Filed;
  off_block = moment;
  elapsed = m.elapsed;
  alternates = m.destination.alternates;
  rules = m.rules.rules;
  exempt = is_exempt m.items;
  texts = record {
    field8 = field m.fields 2;
    field9 = field m.fields 3;
    field10 = field m.fields 4;
    field15 = field m.fields 6;
    field18 = field m.fields 8;
  };
}

-- the off-block date and time that a flight plan message asks for
abbrev pub asked_off_block : ℕ → FplView → ℕ
asked_off_block now m = off_block_of now (day_of_items m.items) m.departure.time

-- the plans with one more, or why it is refused
unfoldable pub filed : ℕ → ℕ → List PlanView → FplView → Result (List PlanView) Refusal
filed max now plans m =
    let plan = plan_of (asked_off_block now m) m in
    unless_out_of_time now plan.off_block
    (unless (list_any (is_held_as plan.key) plans) refusal.AlreadyHeld
    (unless (nat_le max (length plans)) refusal.PlansFull (Ok (plans ++ plan ∷ []))))

-- the plans after a message, and the number of the plan that it is about
pub record Changed : Type 0 where
  pub plans : List PlanView
  pub number : ℕ

-- what follows from the plan of this number
abbrev pub about : {X : Type 0} → List PlanView → ℕ → (PlanView → Result X Refusal) → Result X Refusal
about plans number next = option_map_or next (plan_at plans number) (Err refusal.NoPlan)

-- DLA: the plan leaves its blocks later
unfoldable pub delayed : ℕ → List PlanView → Dla → Result Changed Refusal
delayed now plans m =
    matching plans m.parts >>= (λ number. about plans number (λ plan. delayed_to now plan.off_block m.time >>= (λ moment. Ok (record {
      plans = changed_at (with_off_block moment) number plans;
      number = number;
    }))))

-- CNL: the plan is cancelled, which frees its key
unfoldable pub cancelled : List PlanView → Cnl → Result Changed Refusal
cancelled plans m =
    matching plans m.parts >>= (λ number. Ok (record { plans = changed_at (with_state state.Cancelled) number plans; number = number }))

-- DEP: the plan has departed
unfoldable pub departed : List PlanView → Dep → Result Changed Refusal
departed plans m =
    matching plans m.parts >>= (λ number. Ok (record { plans = changed_at (with_state state.Departed) number plans; number = number }))

-- an amended departure must be the plan's, and so must the day of a DOF item in an amended field 18
abbrev pub is_of_another : Option Departure → Option ℕ → Key → Bool
is_of_another departure day key =
    option_map_or (λ named. not (bytes_eq named.place key.dep)) departure false || not (is_on day key.day)

unfoldable pub changes_key : ChgView → Key → Bool
changes_key m key = is_of_another m.departure (option_map_or day_of_items m.items None) key

-- an amended field 13 moves the off-block date and time as a delay does
abbrev pub moved_to : ℕ → ℕ → Option Departure → Result ℕ Refusal
moved_to now held None = Ok held
moved_to now held (Some departure) = delayed_to now held departure.time

-- an amended field 16 without a time keeps the elapsed time and the alternates
abbrev pub elapsed_after : ℕ → Option Destination → ℕ
elapsed_after held None = held
elapsed_after held (Some destination) = unwrap_or destination.elapsed held

abbrev pub alternates_after : List (List ℕ) → Option Destination → List (List ℕ)
alternates_after held None = held
alternates_after held (Some destination) = if is_some destination.elapsed then destination.alternates else held

unfoldable pub texts_after : TextsView → ChgView → TextsView
texts_after held m = record {
  field8 = unwrap_or m.field8 held.field8;
  field9 = unwrap_or m.field9 held.field9;
  field10 = unwrap_or m.field10 held.field10;
  field15 = unwrap_or m.field15 held.field15;
  field18 = unwrap_or m.field18 held.field18;
}

-- the key keeps all but the destination
unfoldable pub key_after : Key → ChgView → Key
key_after held m = record held { dest = option_map_or (λ destination. destination.place) m.destination held.dest }

-- the plan with all amendments made, and this off-block date and time
unfoldable pub amended_plan : ℕ → ChgView → PlanView → PlanView
amended_plan moment m plan = record {
  key = key_after plan.key m;
  state = plan.state;
  off_block = moment;
  elapsed = elapsed_after plan.elapsed m.destination;
  alternates = alternates_after plan.alternates m.destination;
  rules = option_map_or (λ rules. rules.rules) m.rules plan.rules;
  exempt = option_map_or is_exempt m.items plan.exempt;
  texts = texts_after plan.texts m;
}

-- the plans but that one, which counts as cancelled
abbrev pub others : ℕ → List PlanView → List PlanView
others number plans = changed_at (with_state state.Cancelled) number plans

-- CHG: each amended field replaces the one held
unfoldable pub amended : ℕ → List PlanView → ChgView → Result Changed Refusal
amended now plans m =
    matching plans m.parts >>= (λ number. about plans number (λ plan. unless (changes_key m plan.key) refusal.KeyChange
    (moved_to now plan.off_block m.departure >>= (λ moment.
    unless (list_any (is_held_as (key_after plan.key m)) (others number plans)) refusal.AlreadyHeld (Ok (record {
      plans = with_plan plans number (amended_plan moment m plan);
      number = number;
    }))))))

-- the refusal that a fault of a plan is; an allocation failure is none
abbrev pub refusal_of : PlanFault → Option Refusal
refusal_of fault.AlreadyHeld = Some refusal.AlreadyHeld
refusal_of fault.NoPlan = Some refusal.NoPlan
refusal_of fault.Ambiguous = Some refusal.Ambiguous
refusal_of fault.AlreadyDeparted = Some refusal.AlreadyDeparted
refusal_of fault.KeyChange = Some refusal.KeyChange
refusal_of fault.NotLater = Some refusal.NotLater
refusal_of fault.DelayTooLong = Some refusal.DelayTooLong
refusal_of fault.Past = Some refusal.Past
refusal_of fault.TooEarly = Some refusal.TooEarly
refusal_of fault.PlansFull = Some refusal.PlansFull
refusal_of fault.OutOfMemory = None

-- the fault of a call is the refusal of the definition, unless an allocation failed
abbrev pub Refuses : {X : Type 0} → Option Refusal → Result X Refusal → Type 0
Refuses None expected = Unit {0}
Refuses (Some r) expected = expected ≡ Err r

abbrev pub IsRefusal : {X : Type 0} → PlanFault → Result X Refusal → Type 0
IsRefusal e expected = Refuses (refusal_of e) expected

-- the fault of a call that doesn't allocate is the refusal of the definition
abbrev pub IsRefused : {X : Type 0} → Option Refusal → Result X Refusal → Type 0
IsRefused None expected = ⊥
IsRefused (Some r) expected = expected ≡ Err r

abbrev pub IsJustRefusal : {X : Type 0} → PlanFault → Result X Refusal → Type 0
IsJustRefusal e expected = IsRefused (refusal_of e) expected

-- A call that doesn't allocate returns what the definition says.
abbrev pub Returns : {X : Type 0} → Result X PlanFault → Result X Refusal → Type 0
Returns (Ok x) expected = expected ≡ Ok x
Returns (Err e) expected = IsJustRefusal e expected
