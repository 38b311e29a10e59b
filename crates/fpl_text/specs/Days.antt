-- The year, month and day of a day number in the Gregorian calendar, by a walk over the years from
-- 1970 and over the months.
use Rattle.std.specs.Prelude.{ℕ, zero, suc, ◌+◌, ◌-◌, nat_lt, if◌then◌else◌, pos}
use Rattle.jiff_core.specs.Calendar.{days_in_year, days_in_month}

-- the year of a day and its number in that year from 0, for a day counted from the first one of
-- `year`
unfoldable pub year_at : ℕ → ℕ → ℕ → ℕ × ℕ
year_at zero year day = (year, day)
year_at (suc years) year day =
    if nat_lt day (days_in_year (pos year)) then (year, day)
    else year_at years (year + 1) (day - days_in_year (pos year))

-- the month of a day and its number in that month from 0, for a day counted from the first of
-- `month`
unfoldable pub month_at : ℕ → ℕ → ℕ → ℕ → ℕ × ℕ
month_at year zero month day = (month, day)
month_at year (suc months) month day =
    if nat_lt day (days_in_month (pos year) month) then (month, day)
    else month_at year months (month + 1) (day - days_in_month (pos year) month)

-- the year, the month and the day of the month of a day number, 1970-01-01 being 0, to the year
-- 2270
unfoldable pub civil_at : ℕ → ℕ × ℕ × ℕ
civil_at number =
    let year = year_at 300 1970 number in
    let month = month_at year.0 12 1 year.1 in
    (year.0, month.0, month.1 + 1)
