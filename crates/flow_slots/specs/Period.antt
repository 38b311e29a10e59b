-- The slots of a regulation: a list made from its period and its hourly rates (ATFCM Users Manual,
-- slot allocation: the slot allocation list), sub-period after sub-period. Times are in minutes
-- from 1970-01-01 00:00 UTC.
use Rattle.std.specs.Prelude.{◌≡◌, ℕ, ◌+◌, ◌-◌, ◌*◌, ◌/◌, ◌<◌, ◌≤◌, nat_lt, if◌then◌else◌, List, [], ◌∷◌, length, slice_index_or}
use Rattle.fpl_text.specs.declared.part.Part.{Part}
use Rattle.flow_slots.specs.declared.shape.TheConstants.{MOST_AN_HOUR, LONGEST_PERIOD}
use Rattle.fpl_text.specs.declared.part.TheConstants.{MOST_PARTS}
use Rattle.fpl_text.specs.declared.minute.TheConstants.{YEAR_2000, YEAR_2099}

-- a regulation's period, from `start` to before `end`: it begins with `rate` slots an hour, and
-- each of the parts begins a further sub-period with a rate of its own
pub record Period : Type 0 where
  pub start : ℕ
  pub end : ℕ
  pub rate : ℕ
  pub parts : List Part

-- each sub-period begins before the next one, the last one before the end; at most 240 slots an
-- hour, and at least 1 in the last sub-period, whose slots continue after the end
abbrev pub AreSubperiods : ℕ → ℕ → ℕ → List Part → Type 0
AreSubperiods end start rate [] = (start < end) × (rate ≤ MOST_AN_HOUR) × (0 < rate)
AreSubperiods end start rate (p ∷ ps) = (start < p.from) × (rate ≤ MOST_AN_HOUR) × AreSubperiods end p.from p.rate ps

-- the years 2000 to 2098, 1 to 1440 minutes, 1 to 8 sub-periods
pub record IsRegular (p : Period) : Type 0 where
  pub not_before : YEAR_2000 ≤ p.start
  pub before : p.end < YEAR_2099
  pub at_most_a_day : p.end - p.start ≤ LONGEST_PERIOD
  pub few : length p.parts ≤ MOST_PARTS
  pub subperiods : AreSubperiods p.end p.start p.rate p.parts

-- a time in the period
abbrev pub IsWithin : Period → ℕ → Type 0
IsWithin p moment = (p.start ≤ moment) × (moment < p.end)

-- the number of slots in a number of minutes: `minutes * rate / 60`, rounded up
abbrev pub slots_in : ℕ → ℕ → ℕ
slots_in rate minutes = (minutes * rate + 59) / 60

-- slot `k` of a sub-period with this rate that begins at `start` and of those after it: the slots
-- of a sub-period are `60 * k / rate` minutes after its beginning, rounded down, and before its end
abbrev pub time_from : ℕ → ℕ → List Part → ℕ → ℕ
time_from start rate [] k = start + 60 * k / rate
time_from start rate (p ∷ ps) k =
    let n = slots_in rate (p.from - start) in
    if nat_lt k n then start + 60 * k / rate else time_from p.from p.rate ps (k - n)

-- the number of the first slot not before a time, from a sub-period on that begins at `start`
abbrev pub slot_from : ℕ → ℕ → List Part → ℕ → ℕ
slot_from start rate [] moment = slots_in rate (moment - start)
slot_from start rate (p ∷ ps) moment =
    if nat_lt moment p.from then slots_in rate (moment - start)
    else slots_in rate (p.from - start) + slot_from p.from p.rate ps moment

-- slot `k` is at this minute; the list continues after the end at the last rate
abbrev pub slot_time : Period → ℕ → ℕ
slot_time p k = time_from p.start p.rate p.parts k

-- the number of the first slot not before a time
abbrev pub first_slot : Period → ℕ → ℕ
first_slot p moment = slot_from p.start p.rate p.parts moment

-- the number of slots before the end
abbrev pub slots_before_end : Period → ℕ
slots_before_end p = first_slot p p.end

-- the number of slots of the longest period at the greatest rate; no other has more
abbrev pub most_before_end : ℕ
most_before_end = MOST_AN_HOUR * LONGEST_PERIOD / 60

-- the limit of flights in a list; its slots are numbered below this
abbrev pub most_flights : ℕ
most_flights = 20_000

abbrev pub most_slots : ℕ
most_slots = 30_000

-- `k` is the first slot not before `moment`
abbrev pub IsFirstSlot : Period → ℕ → ℕ → Type 0
IsFirstSlot p moment k = (moment ≤ slot_time p k) × ((j : ℕ) → j < k → slot_time p j < moment)

-- the first slots of a period by minutes from its start
pub record AreFirstSlots (p : Period) (slots : List ℕ) : Type 0 where
  pub minutes : length slots ≡ p.end - p.start
  pub each : (m : ℕ) → m < p.end - p.start → slice_index_or slots m 0 ≡ first_slot p (p.start + m)
