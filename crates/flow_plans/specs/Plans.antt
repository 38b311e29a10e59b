-- Flight plans as the desk holds them.
use Rattle.std.specs.Prelude.{ℕ, ◌-◌, Bool, true, false, ◌&&◌, ◌==◌, if◌then◌else◌, List, slice_get, slice_set, Option, Some, None, unwrap_or, box_value}
use Rattle.std.specs.Option.{option_map, option_map_or, option_and_then}
use Rattle.std.specs.Str.{bytes_eq}
use Rattle.std.specs.declared.boxed.Box.{Box}
use Rattle.fpl_text.specs.declared.craft.FlightRules.{FlightRules}
use Rattle.fpl_text.specs.declared.craft.FlightRules.TheVariants as rules
use Rattle.flow_plans.specs.declared.plan.Key.{Key}
use Rattle.flow_plans.specs.declared.plan.PlanState.{PlanState}
use Rattle.flow_plans.specs.declared.plan.PlanState.TheVariants as state
use Rattle.flow_plans.specs.declared.plan.Status.{Status}

-- the squeezed texts that a plan holds, of the fields of these numbers
pub record TextsView : Type 0 where
  pub field8 : List ℕ
  pub field9 : List ℕ
  pub field10 : List ℕ
  pub field15 : List ℕ
  pub field18 : List ℕ

pub record PlanView : Type 0 where
  pub key : Key
  pub state : PlanState
  -- minutes from 1970-01-01 00:00 UTC
  pub off_block : ℕ
  -- the total elapsed time, in minutes
  pub elapsed : ℕ
  pub alternates : List (List ℕ)
  pub rules : FlightRules
  -- whether field 18 exempts the flight from slots
  pub exempt : Bool
  pub texts : TextsView

-- what a plan had before an amendment, except its state; without texts it has them still
pub record PreviousValuesView : Type 0 where
  pub key : Key
  pub off_block : ℕ
  pub elapsed : ℕ
  pub alternates : List (List ℕ)
  pub rules : FlightRules
  pub exempt : Bool
  pub texts : Option TextsView

-- these texts, or the held ones if there are none
abbrev pub texts_or : {A : Type 0} → Option (Box TextsView A) → TextsView → TextsView
texts_or texts held = unwrap_or (option_map box_value texts) held

-- a plan that was filed and not cancelled
abbrev pub is_held : PlanState → Bool
is_held state.Filed = true
is_held state.Departed = true
is_held state.Cancelled = false

abbrev pub is_filed : PlanState → Bool
is_filed state.Filed = true
is_filed state.Departed = false
is_filed state.Cancelled = false

abbrev pub is_departed : PlanState → Bool
is_departed state.Filed = false
is_departed state.Departed = true
is_departed state.Cancelled = false

-- flown by visual flight rules throughout
abbrev pub is_visual : FlightRules → Bool
is_visual rules.Instrument = false
is_visual rules.Visual = true
is_visual rules.InstrumentFirst = false
is_visual rules.VisualFirst = false

unfoldable pub same_key : Key → Key → Bool
same_key k l = bytes_eq k.ident l.ident && bytes_eq k.dep l.dep && bytes_eq k.dest l.dest && (k.day == l.day)

abbrev pub is_held_as : Key → PlanView → Bool
is_held_as key plan = is_held plan.state && same_key plan.key key

-- the text that a plan holds of the field of this number
unfoldable pub text_of : ℕ → TextsView → Option (List ℕ)
text_of field texts =
    if field == 8 then Some texts.field8
    else (if field == 9 then Some texts.field9
    else (if field == 10 then Some texts.field10
    else (if field == 15 then Some texts.field15
    else (if field == 18 then Some texts.field18 else None))))

-- the plan of this number, where plan n is the n-th
abbrev pub plan_at : List PlanView → ℕ → Option PlanView
plan_at plans number = slice_get plans (number - 1)

-- the off-block date and time of a plan, if it is filed
abbrev pub filed_moment : PlanView → Option ℕ
filed_moment plan = if is_filed plan.state then Some plan.off_block else None

-- that of the plan of this number: none if there is no such plan, or if it has departed or was
-- cancelled
abbrev pub filed_off_block : List PlanView → ℕ → Option ℕ
filed_off_block plans number = option_and_then filed_moment (plan_at plans number)

-- the state of a plan, and its off-block date and time
abbrev pub status_of : PlanView → Status
status_of plan = record { state = plan.state; off_block = plan.off_block }

-- of the plan of this number, if it is one of these
abbrev pub status_at : List PlanView → ℕ → Option Status
status_at plans number = option_map status_of (plan_at plans number)

-- the plans with another at the index of that number
abbrev pub with_plan : List PlanView → ℕ → PlanView → List PlanView
with_plan plans number plan = slice_set plans (number - 1) plan

-- the plans with that one changed
unfoldable pub changed_at : (PlanView → PlanView) → ℕ → List PlanView → List PlanView
changed_at change number plans = option_map_or (λ plan. with_plan plans number (change plan)) (plan_at plans number) plans

abbrev pub with_state : PlanState → PlanView → PlanView
with_state s plan = record plan { state = s }

abbrev pub with_off_block : ℕ → PlanView → PlanView
with_off_block moment plan = record plan { off_block = moment }

abbrev pub with_former : PreviousValuesView → PlanView → PlanView
with_former former plan = record {
  key = former.key;
  state = plan.state;
  off_block = former.off_block;
  elapsed = former.elapsed;
  alternates = former.alternates;
  rules = former.rules;
  exempt = former.exempt;
  texts = unwrap_or former.texts plan.texts;
}
