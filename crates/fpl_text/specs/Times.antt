-- Times of four digits, hours and minutes (ICAO Doc 4444, appendix 3, field types 13, 16 and 18).
use Rattle.std.specs.Prelude.{ℕ, ◌+◌, ◌-◌, ◌*◌, ◌==◌, ◌&&◌, nat_lt, if◌then◌else◌, List, length, slice_index, Option, Some, None}
use Rattle.std.specs.List.{list_all}
use Rattle.fpl_text.specs.Bytes.{is_digit}

-- the number of the two digits at an offset
unfoldable pub two_digits : List ℕ → ℕ → ℕ
two_digits text place = 10 * (slice_index text place - 48) + (slice_index text (place + 1) - 48)

-- the minutes of an hhmm with hours below a limit
unfoldable pub hhmm_below : ℕ → List ℕ → Option ℕ
hhmm_below hours text =
    if (length text == 4) && list_all is_digit text && nat_lt (two_digits text 0) hours && nat_lt (two_digits text 2) 60
    then Some (60 * two_digits text 0 + two_digits text 2) else None

-- a time of day has hours 00 to 23
abbrev pub time_of_day : List ℕ → Option ℕ
time_of_day text = hhmm_below 24 text

-- an elapsed time has hours 00 to 99
abbrev pub elapsed_time : List ℕ → Option ℕ
elapsed_time text = hhmm_below 100 text
