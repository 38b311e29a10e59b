-- The first time at a time of day that is not before another.
use Rattle.std.proofs.Common.{◌≡◌, ℕ, ◌+◌, ◌*◌, ◌/◌, ◌%◌, ◌≤◌, ◌<◌, Bool, true, false, nat_lt, if◌then◌else◌, arith, refl}
use Rattle.std.proofs.lemmas.Bool.{ltb-true, ltb-false}
use Rattle.flow_plans.specs.Times.{first_from}

pub first-from : (moment time : ℕ) → moment ≤ first_from moment time
unfolding first_from
first-from moment time = by (nat_lt (1440 * (moment / 1440) + time) moment) refl
  where
    by : (b : Bool) → nat_lt (1440 * (moment / 1440) + time) moment ≡ b → moment ≤ (if b then 1440 * (moment / 1440) + time + 1440 else 1440 * (moment / 1440) + time)
    by true e = omega arith
    by false e = omega (arith, ltb-false _ _ e)

pub time-of-first : (moment time : ℕ) → time < 1440 → first_from moment time % 1440 ≡ time
unfolding first_from
time-of-first moment time h = by (nat_lt (1440 * (moment / 1440) + time) moment)
  where
    by : (b : Bool) → (if b then 1440 * (moment / 1440) + time + 1440 else 1440 * (moment / 1440) + time) % 1440 ≡ time
    by true = omega (arith, h)
    by false = omega (arith, h)

pub none-before : (moment time m : ℕ) → moment ≤ m → m % 1440 ≡ time → first_from moment time ≤ m
unfolding first_from
none-before moment time m later at = by (nat_lt (1440 * (moment / 1440) + time) moment) refl
  where
    by : (b : Bool) → nat_lt (1440 * (moment / 1440) + time) moment ≡ b → (if b then 1440 * (moment / 1440) + time + 1440 else 1440 * (moment / 1440) + time) ≤ m
    by true e = omega (arith, later, at, ltb-true _ _ e)
    by false e = omega (arith, later, at)
