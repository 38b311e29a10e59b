-- The digits of a time are read as that time.
use Rattle.std.proofs.Common.{◌≡◌, ℕ, zero, suc, ◌+◌, ◌-◌, ◌*◌, ◌/◌, ◌%◌, ◌<◌, ◌≤◌, true, List, ◌++◌, take, refl, sym, ap, ◌∙◌, arith, ⊎_elim, pos, unsigned_abs}
use Rattle.std.specs.Prelude.{Some}
use Rattle.std.specs.List.{list_all}
use Rattle.std.proofs.lemmas.Int.{ints}
use Rattle.std.proofs.lemmas.Bool.{cases_lt, le-leb, lt-ltb, and_from, cond-true}
use Rattle.jiff_core.specs.Calendar.{days_from_civil, days_in_year, days_in_month, days_of_months, day_count, IsCivilDate}
use Rattle.jiff_core.proofs.SignedLemmas.{signed_arith}
use Rattle.jiff_core.proofs.MarchLemmas.{day_count-early}
use Rattle.jiff_core.proofs.CalendarLemmas.{day_count-epoch, day_count-last_of_year, days_in_month_bounds, days_in_year_bounds, days_of_months-zero, days_of_months_more, days_of_months_all, day_count-next_year, day_count-day_of_year, day_count-lt_year}
use Rattle.fpl_text.specs.Bytes.{is_digit}
use Rattle.fpl_text.specs.Times.{two_digits, hhmm_below, time_of_day}
use Rattle.fpl_text.specs.Days.{year_at, month_at, civil_at}
use Rattle.fpl_text.specs.Moments.{digit_pair, day_digits, hhmm_of, is_date, moment_of, day_number_of, year_of}
use Rattle.fpl_text.proofs.DaysLemmas.{year_at_here, year_at_later, month_at_here, month_at_later, abs_difference}
use Rattle.fpl_text.proofs.MomentsLemmas.{civil_yes, is_date-digits, moment-some}

-- the year of a day
record YearFound (years year day : ℕ) (found : ℕ × ℕ) : Type 0 where
  below : found.1 < days_in_year (pos found.0)
  count : day_count (pos found.0) 1 1 + found.1 ≡ day_count (pos year) 1 1 + day
  low : year ≤ found.0
  high : found.0 ≤ year + years

year_at-found : (years year day : ℕ) → day < 365 * years + 365 → YearFound years year day (year_at years year day)
unfolding year_at
year_at-found zero year day h = record {
  below = omega (arith, days_in_year_bounds (pos year));
  count = refl;
  low = omega arith;
  high = omega arith;
}
year_at-found (suc years) year day h =
    ⊎_elim
    (λ (here : day < days_in_year (pos year)).
    rw (year_at_here (suc years) year day here) (record { below = here; count = refl; low = omega arith; high = omega arith }))
    (λ (later : days_in_year (pos year) ≤ day).
    rw (year_at_later years year day later)
    (step later (year_at years (year + 1) (day - days_in_year (pos year))) (year_at-found years (year + 1) (day - days_in_year (pos year)) (omega (arith, days_in_year_bounds (pos year))))))
    (cases_lt day (days_in_year (pos year)))
  where
    step : days_in_year (pos year) ≤ day → (found : ℕ × ℕ) → YearFound years (year + 1) (day - days_in_year (pos year)) found → YearFound (suc years) year day found
    step later found rest =
        let next = day_count-next_year (pos year) (pos (year + 1)) (omega (arith, signed_arith)) (omega (arith, signed_arith)) in
        record {
          below = rest.below;
          count = omega (arith, rest.count, next, later);
          low = omega (arith, rest.low);
          high = omega (arith, rest.high);
        }

-- the month of a day of a year
record MonthFound (year month day : ℕ) (found : ℕ × ℕ) : Type 0 where
  below : found.1 < days_in_month (pos year) found.0
  count : days_of_months (pos year) (found.0 - 1) + found.1 ≡ days_of_months (pos year) (month - 1) + day
  low : 1 ≤ found.0
  high : found.0 ≤ 12

month_at-found : (year months month day : ℕ) → 1 ≤ month → month + months ≡ 13 → days_of_months (pos year) (month - 1) + day < days_in_year (pos year) → MonthFound year month day (month_at year months month day)
month_at-found year zero month day low end h =
    let last : month - 1 ≡ 12 = omega arith in
    let all : days_of_months (pos year) (month - 1) ≡ days_in_year (pos year) = ap (days_of_months (pos year)) last ∙ days_of_months_all (pos year) in
    absurd (omega (arith, all, h))
month_at-found year (suc months) month day low end h =
    ⊎_elim
    (λ (here : day < days_in_month (pos year) month).
    rw (month_at_here year (suc months) month day here) (record { below = here; count = refl; low = low; high = omega arith }))
    (λ (later : days_in_month (pos year) month ≤ day).
    let more = days_of_months_more (pos year) month low in
    let back : days_of_months (pos year) (month + 1 - 1) ≡ days_of_months (pos year) month = (let same : month + 1 - 1 ≡ month = omega arith in ap (days_of_months (pos year)) same) in
    rw (month_at_later year months month day later)
    (step later more back (month_at year months (month + 1) (day - days_in_month (pos year) month)) (month_at-found year months (month + 1) (day - days_in_month (pos year) month) (omega arith) (omega arith) (omega (arith, more, back, later, h)))))
    (cases_lt day (days_in_month (pos year) month))
  where
    step : days_in_month (pos year) month ≤ day → days_of_months (pos year) month ≡ days_of_months (pos year) (month - 1) + days_in_month (pos year) month → days_of_months (pos year) (month + 1 - 1) ≡ days_of_months (pos year) month → (found : ℕ × ℕ) → MonthFound year (month + 1) (day - days_in_month (pos year) month) found → MonthFound year month day found
    step later more back found rest = record {
      below = rest.below;
      count = omega (arith, rest.count, more, back, later);
      low = rest.low;
      high = rest.high;
    }

-- the date of a day number
record CivilFound (number : ℕ) (date : ℕ × ℕ × ℕ) : Type 0 where
  valid : IsCivilDate (pos date.0) date.1 date.2
  count : day_count (pos date.0) date.1 date.2 ≡ day_count (pos 1970) 1 1 + number

civil-found : (number : ℕ) → number < 100_000 → CivilFound number (civil_at number)
unfolding civil_at
civil-found number small = assembled (year_at 300 1970 number) (year_at-found 300 1970 number (omega arith))
  where
    with_month : (year : ℕ × ℕ) → YearFound 300 1970 number year → (month : ℕ × ℕ) → MonthFound year.0 1 year.1 month → CivilFound number (year.0, month.0, month.1 + 1)
    with_month year y month m =
        let doy = day_count-day_of_year (pos year.0) month.0 (month.1 + 1) (omega arith) in
        let zero_days = days_of_months-zero (pos year.0) in
        record {
          valid = ((omega (arith, signed_arith, y.low), omega (arith, signed_arith, y.high)), (m.low, m.high), (omega arith, omega (arith, m.below)));
          count = omega (arith, doy, zero_days, m.count, y.count);
        }

    assembled : (year : ℕ × ℕ) → YearFound 300 1970 number year → CivilFound number (year.0, (month_at year.0 12 1 year.1).0, (month_at year.0 12 1 year.1).1 + 1)
    assembled year y =
        with_month year y (month_at year.0 12 1 year.1)
        (month_at-found year.0 12 1 year.1 (omega arith) refl (omega (arith, days_of_months-zero (pos year.0), y.below)))

first_count : day_count (pos 2000) 1 1 ≡ 4_382_910
first_count = day_count-early (pos 2000) 11999 1 1 refl (omega arith) (omega arith) (omega arith)

last_count : day_count (pos 2098) 12 31 ≡ 4_419_069
last_count =
    let january : day_count (pos 2098) 1 1 ≡ 4_418_705 = day_count-early (pos 2098) 12097 1 1 refl (omega arith) (omega arith) (omega arith) in
    let year : days_in_year (pos 2098) ≡ 365 = refl in
    omega (arith, day_count-last_of_year (pos 2098), january, year)

epoch_count : day_count (pos 1970) 1 1 ≡ 4_371_953
epoch_count = day_count-epoch

last_day : IsCivilDate (pos 2098) 12 31
last_day = omega (arith, signed_arith)

-- a day of the years 2000 to 2098
year_low : (number year month day : ℕ) → IsCivilDate (pos year) month day → day_count (pos year) month day ≡ day_count (pos 1970) 1 1 + number → 10_957 ≤ number → 2000 ≤ year
year_low number year month day valid count h =
    ⊎_elim
    (λ (before : year < 2000).
    let less = day_count-lt_year (pos year) month day (pos 2000) 1 1 valid (omega arith) (omega (arith, signed_arith)) in
    absurd (omega (arith, less, count, first_count, epoch_count)))
    (λ from. from)
    (cases_lt year 2000)

year_high : (number year month day : ℕ) → IsCivilDate (pos year) month day → day_count (pos year) month day ≡ day_count (pos 1970) 1 1 + number → number < 47_117 → year ≤ 2098
year_high number year month day valid count h =
    ⊎_elim
    (λ (after : 2098 < year).
    let less = day_count-lt_year (pos 2098) 12 31 (pos year) month day last_day valid.2.0 (omega (arith, signed_arith)) in
    absurd (omega (arith, less, count, last_count, epoch_count)))
    (λ to. to)
    (cases_lt 2098 year)

-- two digits are read as the number that they were written for
pair-read : (n : ℕ) → n < 100 → 10 * ((48 + n / 10) - 48) + ((48 + n % 10) - 48) ≡ n
pair-read n h = omega arith

pair-digits : (n : ℕ) → n < 100 → (is_digit (48 + n / 10) ≡ true) × (is_digit (48 + n % 10) ≡ true)
unfolding is_digit
pair-digits n h =
    let tens : 48 + n / 10 ≤ 57 = omega arith in
    let ones : 48 + n % 10 ≤ 57 = omega arith in
    (and_from _ _ (le-leb 48 (48 + n / 10) (omega arith)) (le-leb _ 57 tens), and_from _ _ (le-leb 48 (48 + n % 10) (omega arith)) (le-leb _ 57 ones))

abbrev date_text : ℕ → ℕ → ℕ → List ℕ
date_text yy month day = digit_pair yy ++ digit_pair month ++ digit_pair day

date-digits : (yy month day : ℕ) → yy < 100 → month < 100 → day < 100 → list_all is_digit (date_text yy month day) ≡ true
date-digits yy month day y m d =
    let a = pair-digits yy y in
    let b = pair-digits month m in
    let c = pair-digits day d in
    rw (a.0, a.1, b.0, b.1, c.0, c.1) refl

-- the six digits of a date of the years 2000 to 2098
date-read : (yy month day : ℕ) → yy < 100 → IsCivilDate (pos (2000 + yy)) month day → (is_date (date_text yy month day) ≡ true) × (day_number_of (date_text yy month day) ≡ unsigned_abs (days_from_civil (pos (2000 + yy)) month day)) × (two_digits (date_text yy month day) 0 ≡ yy)
unfolding two_digits
date-read yy month day small valid =
    let text = date_text yy month day in
    let short : day < 100 = omega (arith, valid.2.1, days_in_month_bounds (pos (2000 + yy)) month) in
    let y : two_digits text 0 ≡ yy = pair-read yy small in
    let m : two_digits text 2 ≡ month = pair-read month (omega (arith, valid.1.1)) in
    let d : two_digits text 4 ≡ day = pair-read day short in
    let digits = date-digits yy month day small (omega (arith, valid.1.1)) short in (
      is_date-digits text refl digits ∙ rw (y, m, d) (civil_yes yy month day (omega (arith, ints, signed_arith, valid))),
      rw (y, m, d) refl,
      y,
    )

time-read : (hour minute : ℕ) → hour < 24 → minute < 60 → time_of_day (digit_pair hour ++ digit_pair minute) ≡ Some (60 * hour + minute)
unfolding hhmm_below two_digits
time-read hour minute h m =
    let text = digit_pair hour ++ digit_pair minute in
    let hours : two_digits text 0 ≡ hour = pair-read hour (omega arith) in
    let minutes : two_digits text 2 ≡ minute = pair-read minute (omega arith) in
    let a = pair-digits hour (omega arith) in
    let b = pair-digits minute (omega arith) in
    let digits : list_all is_digit text ≡ true = rw (a.0, a.1, b.0, b.1) refl in
    cond-true _ _ _ (and_from _ _ (and_from _ _ (and_from _ _ refl digits) (rw hours (lt-ltb hour 24 h))) (rw minutes (lt-ltb minute 60 m)))
    ∙ rw (hours, minutes) refl

day-number : (number year month day : ℕ) → day_count (pos year) month day ≡ day_count (pos 1970) 1 1 + number → unsigned_abs (days_from_civil (pos year) month day) ≡ number
unfolding days_from_civil
day-number number year month day count =
    abs_difference (day_count (pos year) month day) (day_count (pos 1970) 1 1) (omega (arith, count)) ∙ omega (arith, count)

at-date : (number time : ℕ) (date : ℕ × ℕ × ℕ) → CivilFound number date → 10_957 ≤ number → number < 47_117 → time < 1440 → moment_of (date_text (date.0 % 100) date.1 date.2 ++ hhmm_of time) ≡ Some (1440 * number + time)
at-date number time date found low high small =
    let from = year_low number date.0 date.1 date.2 found.valid found.count low in
    let to = year_high number date.0 date.1 date.2 found.valid found.count high in
    let year : date.0 ≡ 2000 + date.0 % 100 = omega arith in
    let read = date-read (date.0 % 100) date.1 date.2 (omega arith) (rw (← year) found.valid) in
    let days = read.1 ∙ ap (λ y. unsigned_abs (days_from_civil (pos y) date.1 date.2)) (sym year) ∙ day-number number date.0 date.1 date.2 found.count in
    let parts : 60 * (time / 60) + time % 60 ≡ time = omega arith in
    let hour : time / 60 < 24 = omega arith in
    let minute : time % 60 < 60 = omega arith in
    let text = date_text (date.0 % 100) date.1 date.2 ++ hhmm_of time in
    let early : year_of (take 6 text) ≤ 2098 = omega (arith, read.2, year, to) in
    moment-some text time read.0 (le-leb _ 2098 early) (time-read (time / 60) (time % 60) hour minute ∙ ap Some parts)
    ∙ ap (λ n. Some (1440 * n + time)) days

-- what is written for a time is read as that time
pub moment-read_back : (minute : ℕ) → 15_778_080 ≤ minute → minute < 67_848_480 → moment_of (day_digits (minute / 1440) ++ hhmm_of (minute % 1440)) ≡ Some minute
moment-read_back minute low high =
    let whole : 1440 * (minute / 1440) + minute % 1440 ≡ minute = omega arith in
    at-date (minute / 1440) (minute % 1440) (civil_at (minute / 1440)) (civil-found (minute / 1440) (omega arith)) (omega arith) (omega arith) (omega arith)
    ∙ ap Some whole
