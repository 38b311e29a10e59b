-- When a desk starts, and its limits.
use Rattle.std.specs.Prelude.{ℕ, ◌≤◌, ◌<◌}
use Rattle.flow_plans.specs.declared.setup.TheConstants.{MAX_TAXI, MAX_PLANS, MAX_ENTRIES}
use Rattle.fpl_text.specs.declared.minute.TheConstants.{YEAR_2000, YEAR_2099}

pub record SetupView : Type 0 where
  -- the desk's time at the start, in minutes from 1970-01-01 00:00 UTC
  pub start : ℕ
  -- from off-block to take-off, in minutes, at every aerodrome
  pub taxi : ℕ
  -- how many flight plans are accepted, cancelled ones counted
  pub max_plans : ℕ
  -- how many entries the journal may have
  pub max_entries : ℕ

-- a time in the years 2000 to 2098
abbrev pub IsDeskTime : ℕ → Type 0
IsDeskTime minute = (YEAR_2000 ≤ minute) × (minute < YEAR_2099)

abbrev pub IsWithinLimits : SetupView → Type 0
IsWithinLimits s =
    IsDeskTime s.start × (s.taxi ≤ MAX_TAXI) × (1 ≤ s.max_plans) × (s.max_plans ≤ MAX_PLANS) × (1 ≤ s.max_entries) × (s.max_entries ≤ MAX_ENTRIES)
