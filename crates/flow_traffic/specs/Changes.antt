-- What the last reading changed of plans.
use Rattle.std.specs.Prelude.{◌≡◌, ◌<◌, ℕ, false, List}
use Rattle.flow_plans.specs.Plans.{status_at}
use Rattle.flow_slots.specs.Assignment.{is_in}
use Rattle.flow_traffic.specs.Traffic.{Traffic, told_of}

-- every plan but those of these numbers has the state, the off-block time and the CTOT last issued
-- that it had
pub record ChangeAtMost (numbers : List ℕ) (before after : Traffic) : Type 0 where
  pub status : (number : ℕ) → 0 < number → is_in number numbers ≡ false → status_at after.plans number ≡ status_at before.plans number
  pub told : (number : ℕ) → 0 < number → is_in number numbers ≡ false → told_of after.told number ≡ told_of before.told number
