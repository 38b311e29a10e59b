-- The walks find the date of a day number.
use Rattle.std.proofs.Common.{◌≡◌, ℕ, zero, suc, ◌+◌, ◌-◌, ◌<◌, ◌≤◌, refl, sym, ap, ◌∙◌, arith, ⊎_elim, pos, unsigned_abs, ◌-ℤ◌, ◌≤ℤ◌}
use Rattle.std.proofs.lemmas.Int.{ints, by_lt_z}
use Rattle.std.proofs.lemmas.Bool.{cases_lt, lt-ltb, le-ltb}
use Rattle.jiff_core.specs.declared.civil.date.Date.{Date}
use Rattle.jiff_core.specs.Calendar.{days_from_civil, days_in_year, days_in_month, days_of_months, day_of_year, day_count, IsCivilDate}
use Rattle.jiff_core.proofs.SignedLemmas.{signed_arith}
use Rattle.jiff_core.proofs.MarchLemmas.{day_count-early}
use Rattle.jiff_core.proofs.CalendarLemmas.{day_count-epoch, days_from_civil-day_count, day_count-lt_year, days_of_months-zero, day_count-next_year, day_count-later_year, day_count-day_of_year, day_of_year_bound, days_of_months_more, days_of_months_mono}
use Rattle.jiff_core.proofs.DateLemmas.{civil}
use Rattle.jiff_core.specs.Date.{epoch_day}
use Rattle.fpl_text.specs.Days.{year_at, month_at, civil_at}

pub year_at_here : (years year day : ℕ) → day < days_in_year (pos year) → year_at years year day ≡ (year, day)
unfolding year_at
year_at_here zero year day h = refl
year_at_here (suc years) year day h = rw (lt-ltb day (days_in_year (pos year)) h)

pub year_at_later : (years year day : ℕ) → days_in_year (pos year) ≤ day → year_at (suc years) year day ≡ year_at years (year + 1) (day - days_in_year (pos year))
unfolding year_at
year_at_later years year day h = rw (le-ltb day (days_in_year (pos year)) h)

year_at-here : (years target day : ℕ) → day < days_in_year (pos target) → year_at years target (day_count (pos target) 1 1 + day - day_count (pos target) 1 1) ≡ (target, day)
year_at-here years target day h =
    let none : day_count (pos target) 1 1 + day - day_count (pos target) 1 1 ≡ day = omega arith in
    rw none (year_at_here years target day h)

-- a year that the walk can reach
pub year_at-date : (years year target day : ℕ) → year ≤ target → target ≤ year + years → day < days_in_year (pos target) → year_at years year (day_count (pos target) 1 1 + day - day_count (pos year) 1 1) ≡ (target, day)
year_at-date zero year target day low high h =
    let same : year ≡ target = omega arith in
    rw same (year_at-here zero target day h)
year_at-date (suc years) year target day low high h =
    ⊎_elim
    (λ before.
    let step = day_count-next_year (pos year) (pos (year + 1)) (omega (arith, signed_arith)) (omega (arith, signed_arith)) in
    let later = day_count-later_year (pos year) (pos target) (omega (arith, signed_arith)) (omega (arith, signed_arith)) in
    let rest : day_count (pos target) 1 1 + day - day_count (pos year) 1 1 - days_in_year (pos year) ≡ day_count (pos target) 1 1 + day - day_count (pos (year + 1)) 1 1 = omega arith in
    year_at_later years year (day_count (pos target) 1 1 + day - day_count (pos year) 1 1) (omega arith)
    ∙ ap (year_at years (year + 1)) rest
    ∙ year_at-date years (year + 1) target day (omega arith) (omega arith) h)
    (λ there. let same : year ≡ target = omega arith in rw same (year_at-here (suc years) target day h))
    (cases_lt year target)

pub month_at_here : (year months month day : ℕ) → day < days_in_month (pos year) month → month_at year months month day ≡ (month, day)
unfolding month_at
month_at_here year zero month day h = refl
month_at_here year (suc months) month day h = rw (lt-ltb day (days_in_month (pos year) month) h)

pub month_at_later : (year months month day : ℕ) → days_in_month (pos year) month ≤ day → month_at year (suc months) month day ≡ month_at year months (month + 1) (day - days_in_month (pos year) month)
unfolding month_at
month_at_later year months month day h = rw (le-ltb day (days_in_month (pos year) month) h)

month_at-here : (year months target day : ℕ) → day < days_in_month (pos year) target → month_at year months target (days_of_months (pos year) (target - 1) + day - days_of_months (pos year) (target - 1)) ≡ (target, day)
month_at-here year months target day h =
    let none : days_of_months (pos year) (target - 1) + day - days_of_months (pos year) (target - 1) ≡ day = omega arith in
    rw none (month_at_here year months target day h)

-- a month that the walk can reach
pub month_at-date : (year months month target day : ℕ) → 1 ≤ month → month ≤ target → target ≤ month + months → day < days_in_month (pos year) target → month_at year months month (days_of_months (pos year) (target - 1) + day - days_of_months (pos year) (month - 1)) ≡ (target, day)
month_at-date year zero month target day first low high h =
    let same : month ≡ target = omega arith in
    rw same (month_at-here year zero target day h)
month_at-date year (suc months) month target day first low high h =
    ⊎_elim
    (λ (before : month < target).
    let back : month + 1 - 1 ≡ month = omega arith in
    let step = days_of_months_more (pos year) month first in
    let later = days_of_months_mono (pos year) month (target - 1) (omega arith) in
    let rest : days_of_months (pos year) (target - 1) + day - days_of_months (pos year) (month - 1) - days_in_month (pos year) month ≡ days_of_months (pos year) (target - 1) + day - days_of_months (pos year) (month + 1 - 1) = rw back (omega arith) in
    month_at_later year months month (days_of_months (pos year) (target - 1) + day - days_of_months (pos year) (month - 1)) (omega arith)
    ∙ ap (month_at year months (month + 1)) rest
    ∙ month_at-date year months (month + 1) target day (omega arith) (omega arith) (omega arith) h)
    (λ there. let same : month ≡ target = omega arith in rw same (month_at-here year (suc months) target day h))
    (cases_lt month target)

pub abs_difference : (a b : ℕ) → b ≤ a → unsigned_abs (pos a -ℤ pos b) ≡ a - b
abs_difference a b h = omega (arith, ints)

-- a day number is the days before its year, and those before it in the year
number_parts : (d : Date) (year : ℕ) → d.year ≡ pos year → 1970 ≤ year → unsigned_abs (epoch_day d) ≡ day_count (pos year) 1 1 + (day_of_year (pos year) d.month d.day - 1) - day_count (pos 1970) 1 1
unfolding days_from_civil
number_parts d year is from =
    let here = day_count-day_of_year (pos year) d.month d.day d.day_in.0 in
    let low : day_count (pos 1970) 1 1 ≤ day_count (pos year) 1 1 = not_before year from in
    let place : 1 ≤ day_of_year (pos year) d.month d.day = omega (arith, d.day_in.0) in
    let count : day_count (pos year) d.month d.day ≡ day_count (pos year) 1 1 + (day_of_year (pos year) d.month d.day - 1) = omega arith in
    rw is (abs_difference (day_count (pos year) d.month d.day) (day_count (pos 1970) 1 1) (omega arith) ∙ ap (λ n. n - day_count (pos 1970) 1 1) count)
  where
    own : (n : ℕ) → n ≤ n
    own n = omega arith

    not_before : (year : ℕ) → 1970 ≤ year → day_count (pos 1970) 1 1 ≤ day_count (pos year) 1 1
    not_before year from =
        ⊎_elim
        (λ before. omega (arith, day_count-later_year (pos 1970) (pos year) (omega (arith, signed_arith)) (omega (arith, signed_arith))))
        (λ there. let same : year ≡ 1970 = omega arith in rw same (own (day_count (pos 1970) 1 1)))
        (cases_lt 1970 year)

abbrev joined : ℕ → ℕ → ℕ → ℕ × ℕ × ℕ
joined a b c = (a, b, c)

assembled : (number year place month day : ℕ) → year_at 300 1970 number ≡ (year, place) → month_at year 12 1 place ≡ (month, day) → civil_at number ≡ (year, month, day + 1)
unfolding civil_at
assembled number year place month day years months =
    let there = ap (λ (w : ℕ × ℕ). let m = month_at w.0 12 1 w.1 in joined w.0 m.0 (m.1 + 1)) years in
    there ∙ ap (λ (m : ℕ × ℕ). joined year m.0 (m.1 + 1)) months

-- the walk from 1970 finds a date by its day number
pub civil_at-date : (d : Date) (year : ℕ) → d.year ≡ pos year → 1970 ≤ year → year ≤ 2270 → civil_at (unsigned_abs (epoch_day d)) ≡ (year, d.month, d.day)
unfolding civil_at
civil_at-date d year is low high =
    let doy = day_of_year (pos year) d.month d.day in
    let good = rw is at (civil d) in
    let long = day_of_year_bound (pos year) d.month d.day good in
    let place : doy - 1 < days_in_year (pos year) = omega (arith, d.day_in.0) in
    let years = ap (year_at 300 1970) (number_parts d year is low) ∙ year_at-date 300 1970 year (doy - 1) low (omega arith) place in
    let day : d.day - 1 < days_in_month (pos year) d.month = omega (arith, good.2) in
    let first : doy - 1 ≡ days_of_months (pos year) (d.month - 1) + (d.day - 1) - days_of_months (pos year) (1 - 1) = omega (arith, d.day_in.0, days_of_months-zero (pos year)) in
    let months = ap (month_at year 12 1) first ∙ month_at-date year 12 1 d.month (d.day - 1) (omega arith) d.month_in.0 (omega (arith, d.month_in.1)) day in
    let last : d.day - 1 + 1 ≡ d.day = omega (arith, d.day_in.0) in
    assembled (unsigned_abs (epoch_day d)) year (doy - 1) d.month (d.day - 1) years months ∙ ap (joined year d.month) last

-- a date whose day number is a number below 100,000 lies in the years 1970 to 2269
year_low : (d : Date) (n : ℕ) → epoch_day d ≡ pos n → pos 1970 ≤ℤ d.year
year_low d n is =
    by_lt_z d.year (pos 1970)
    (λ before.
    let less = day_count-lt_year d.year d.month d.day (pos 1970) 1 1 (civil d) (omega arith) before in
    absurd (omega (arith, signed_arith, days_from_civil-day_count, day_count-epoch)))
    (λ from. from)

late_count : day_count (pos 2270) 1 1 ≡ 4_481_526
late_count = day_count-early (pos 2270) 12269 1 1 refl (omega arith) (omega arith) (omega arith)

late_date : IsCivilDate (pos 2270) 1 1
late_date = omega (arith, signed_arith)

year_high : (d : Date) (n : ℕ) → epoch_day d ≡ pos n → n < 100_000 → d.year ≤ℤ pos 2270
year_high d n is small =
    by_lt_z (pos 2270) d.year
    (λ after.
    let less = day_count-lt_year (pos 2270) 1 1 d.year d.month d.day late_date d.day_in.0 after in
    absurd (omega (arith, signed_arith, days_from_civil-day_count, late_count)))
    (λ to. to)

-- the walk finds the date of a day number
pub civil_at-number : (d : Date) (n : ℕ) → epoch_day d ≡ pos n → n < 100_000 → civil_at n ≡ (unsigned_abs d.year, d.month, d.day)
civil_at-number d n is small =
    let low = year_low d n is in
    let high = year_high d n is small in
    let year : d.year ≡ pos (unsigned_abs d.year) = omega (arith, ints) in
    let number : unsigned_abs (epoch_day d) ≡ n = ap unsigned_abs is in
    ap civil_at (sym number) ∙ civil_at-date d (unsigned_abs d.year) year (omega (arith, ints)) (omega (arith, ints))
