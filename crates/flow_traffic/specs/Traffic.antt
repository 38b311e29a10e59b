-- What a desk allocates, beside its journal.
use Rattle.std.specs.Prelude.{ℕ, ◌-◌, if◌then◌else◌, List, [], ◌∷◌, slice_get, Option, Some, None}
use Rattle.std.specs.Option.{option_map, option_map_or}
use Rattle.std.specs.Str.{bytes_eq}
use Rattle.flow_plans.specs.Settings.{SetupView}
use Rattle.flow_plans.specs.Plans.{PlanView}
use Rattle.flow_slots.specs.Lineup.{Lineup}
use Rattle.flow_regulations.specs.Regulations.{Regulation, lineup_of}
use Rattle.flow_regulations.specs.declared.notice.Told.{Told}
use Rattle.flow_regulations.specs.declared.notice.Notice.{Notice}

pub record Traffic : Type 0 where
  -- from off-block to take-off, in minutes, at every aerodrome
  pub taxi : ℕ
  -- the greatest number of flight plans
  pub max_plans : ℕ
  -- the desk's time, in minutes since 1970-01-01 00:00 UTC
  pub now : ℕ
  -- plan n is the n-th
  pub plans : List PlanView
  -- the open regulations, in order of opening
  pub regulations : List Regulation
  -- the CTOT last issued to each plan
  pub told : List (Option Told)
  -- the notices issued
  pub notices : List Notice

-- the traffic of a desk without entries
abbrev pub no_traffic : SetupView → Traffic
no_traffic setup = record { taxi = setup.taxi; max_plans = setup.max_plans; now = setup.start; plans = []; regulations = []; told = []; notices = [] }

-- the first open regulation of this name
abbrev pub regulation_named : List ℕ → List Regulation → Option Regulation
regulation_named id [] = None
regulation_named id (r ∷ rs) = if bytes_eq r.id id then Some r else regulation_named id rs

-- its slot list: the flights to which it applies have provisional slots in their order, around the
-- frozen ones
abbrev pub slots_of : Traffic → List ℕ → Option Lineup
slots_of t id = option_map (lineup_of t.taxi t.max_plans t.plans) (regulation_named id t.regulations)

-- the traffic, and the one before the last reading, if that can be undone
pub record TrafficView : Type 0 where
  pub traffic : Traffic
  pub before : Option Traffic

-- the CTOT last issued to the plan of this number
abbrev pub told_of : List (Option Told) → ℕ → Option Told
told_of told number = option_map_or (λ t. t) (slice_get told (number - 1)) None
