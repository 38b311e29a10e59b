-- Windows of time, in minutes.
use Rattle.std.specs.Prelude.{◌≤◌, ◌<◌, ◌-◌, ℕ}
use Rattle.flow_slots.specs.declared.shape.TheConstants.{LONGEST_PERIOD}

-- a period of at most a day, and windows of 1 to 1,440 minutes that begin 1 to 1,440 minutes apart
pub record IsWindows (from to step slide : ℕ) : Type 0 where
  pub day : to - from ≤ LONGEST_PERIOD
  pub some : 0 < step
  pub most : step ≤ LONGEST_PERIOD
  pub apart : 0 < slide
  pub near : slide ≤ LONGEST_PERIOD
