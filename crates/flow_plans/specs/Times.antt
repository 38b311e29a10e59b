-- The off-block date and time (ICAO Doc 4444, appendix 3, field type 13), and delays of it.
use Rattle.std.specs.Prelude.{ℕ, ◌+◌, ◌*◌, ◌/◌, ◌%◌, ◌==◌, Bool, nat_lt, if◌then◌else◌, Option, Some, None, Result, Ok, Err}
use Rattle.fpl_message.specs.declared.refusal.Refusal.{Refusal}
use Rattle.fpl_message.specs.declared.refusal.Refusal.TheVariants.{NotLater, DelayTooLong, Past, TooEarly}
use Rattle.fpl_text.specs.declared.minute.TheConstants.{YEAR_2099}
use Rattle.flow_plans.specs.declared.times.TheConstants.{FURTHEST_AHEAD, LONGEST_DELAY}

-- no off-block date and time of a desk reaches this one
abbrev pub off_blocks_end : ℕ
off_blocks_end = YEAR_2099 + FURTHEST_AHEAD

-- what comes next, unless this refusal applies
abbrev pub unless : {X : Type 0} → Bool → Refusal → Result X Refusal → Result X Refusal
unless applies refusal next = if applies then Err refusal else next

-- the first time with this minute of the day that is not before another time
unfoldable pub first_from : ℕ → ℕ → ℕ
first_from moment time =
    let today = 1440 * (moment / 1440) + time in if nat_lt today moment then today + 1440 else today

-- the off-block date and time of a flight plan: on the day that it has, or else the first not
-- before the desk's time
abbrev pub off_block_of : ℕ → Option ℕ → ℕ → ℕ
off_block_of now (Some day) time = 1440 * day + time
off_block_of now None time = first_from now time

-- the off-block date and time is from the desk's time to 120 hours after it
abbrev pub unless_out_of_time : {X : Type 0} → ℕ → ℕ → Result X Refusal → Result X Refusal
unless_out_of_time now moment next = unless (nat_lt moment now) Past (unless (nat_lt (now + FURTHEST_AHEAD) moment) TooEarly next)

-- the off-block date and time after a delay to this time of day (ICAO Doc 4444, appendix 3, field
-- type 13 in DLA): the first one after that held, at most 720 minutes later
unfoldable pub delayed_to : ℕ → ℕ → ℕ → Result ℕ Refusal
delayed_to now held time =
    let moment = first_from (held + 1) time in
    unless (held % 1440 == time) NotLater
    (unless (nat_lt (held + LONGEST_DELAY) moment) DelayTooLong (unless_out_of_time now moment (Ok moment)))
