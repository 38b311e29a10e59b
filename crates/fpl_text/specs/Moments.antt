-- Dates and times. A time with its date is a number of whole minutes since 1970-01-01 00:00 UTC, a
-- day a number of days since then. A date is yymmdd (ICAO Doc 4444, appendix 3, field type 18,
-- DOF), and a year yy is 20yy.
use Rattle.std.specs.Prelude.{◌≡◌, ℕ, ◌+◌, ◌*◌, ◌/◌, ◌%◌, [], ◌∷◌, ◌++◌, Bool, true, false, ◌==◌, ◌&&◌, nat_le, if◌then◌else◌, List, length, drop, take, Option, Some, None, MatchOption, pos, unsigned_abs}
use Rattle.std.specs.Option.{option_map}
use Rattle.std.specs.List.{list_all}
use Rattle.jiff_core.specs.declared.civil.date.Date.{Date}
use Rattle.jiff_core.specs.Calendar.{days_from_civil, days_in_month}
use Rattle.jiff_core.specs.Date.{epoch_day, IsYmd}
use Rattle.fpl_text.specs.Days.{civil_at}
use Rattle.fpl_text.specs.Bytes.{is_digit}
use Rattle.fpl_text.specs.Times.{two_digits, time_of_day}
use Rattle.fpl_text.specs.declared.minute.TheConstants.{GREATEST_MINUTE, YEAR_2099}

-- the minutes from 1970 to this time of a date
abbrev pub minute_of : Date → ℕ → ℕ → ℕ
minute_of date hour minute = 1440 * unsigned_abs (epoch_day date) + 60 * hour + minute

-- the year, the month and the day of a yymmdd, in which a year yy is 20yy
abbrev pub year_of : List ℕ → ℕ
year_of text = 2000 + two_digits text 0

abbrev pub month_of : List ℕ → ℕ
month_of text = two_digits text 2

abbrev pub month_day_of : List ℕ → ℕ
month_day_of text = two_digits text 4

-- the calendar has this day of a month of the year 20yy
unfoldable pub is_civil_date : ℕ → ℕ → ℕ → Bool
is_civil_date yy month day =
    nat_le 1 month && nat_le month 12 && nat_le 1 day && nat_le day (days_in_month (pos (2000 + yy)) month)

-- six digits that are a date of the calendar
unfoldable pub is_date : List ℕ → Bool
is_date text =
    (length text == 6) && list_all is_digit text && is_civil_date (two_digits text 0) (month_of text) (month_day_of text)

-- a date is read exactly if the text is one
abbrev pub ReadsDate : List ℕ → Option Date → Type 0
ReadsDate text read =
    MatchOption read (is_date text ≡ false)
    (λ date. (is_date text ≡ true) × IsYmd (pos (year_of text)) (pos (month_of text)) (pos (month_day_of text)) date)

-- the days from 1970-01-01 to the date that six digits are
abbrev pub day_number_of : List ℕ → ℕ
day_number_of text = unsigned_abs (days_from_civil (pos (year_of text)) (month_of text) (month_day_of text))

-- the day that six digits are, if the calendar has it
unfoldable pub day_of : List ℕ → Option ℕ
day_of text = if is_date text then Some (day_number_of text) else None

-- yymmddhhmm: a date of the years 2000 to 2098, and a time of day
unfoldable pub moment_of : List ℕ → Option ℕ
moment_of text =
    if is_date (take 6 text) && nat_le (year_of (take 6 text)) 2098
    then option_map (λ minutes. 1440 * day_number_of (take 6 text) + minutes) (time_of_day (drop 6 text))
    else None

-- a number of minutes, if it is at most the greatest time
unfoldable pub moment_within : ℕ → Option ℕ
moment_within minutes = if nat_le minutes GREATEST_MINUTE then Some minutes else None

-- the number of the day of the greatest time, and that of the day after the year 2099
abbrev pub last_day : ℕ
last_day = GREATEST_MINUTE / 1440

abbrev pub end_of_2099 : ℕ
end_of_2099 = YEAR_2099 / 1440 + 365

-- a number below 100 as two digits
abbrev pub digit_pair : ℕ → List ℕ
digit_pair n = (48 + n / 10) ∷ (48 + n % 10) ∷ []

-- the six digits of a date, of which the year gives its last two
abbrev pub yymmdd_of : Date → List ℕ
yymmdd_of date = digit_pair (unsigned_abs date.year % 100) ++ digit_pair date.month ++ digit_pair date.day

-- the six digits of the day of a time
abbrev pub IsYymmdd : ℕ → List ℕ → Type 0
IsYymmdd minute text = (date : Date) × (epoch_day date ≡ pos (minute / 1440)) × (text ≡ yymmdd_of date)

-- the six digits of a day number
abbrev pub day_digits : ℕ → List ℕ
day_digits number =
    let day = civil_at number in
    digit_pair (day.0 % 100) ++ digit_pair day.1 ++ digit_pair day.2

-- the four digits of a time of day
abbrev pub hhmm_of : ℕ → List ℕ
hhmm_of minutes = digit_pair (minutes / 60) ++ digit_pair (minutes % 60)
