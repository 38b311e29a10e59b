-- What is read as a time is in the years 2000 to 2098.
use Rattle.std.proofs.Common.{◌≡◌, ℕ, ◌+◌, ◌*◌, ◌<◌, ◌≤◌, refl, arith, pos, unsigned_abs, Bool, true, false, cond, take, drop, ◌&&◌, leb, ltb, eqb, List, length, length-drop, length-take}
use Rattle.std.specs.Prelude.{Option, Some, None}
use Rattle.std.specs.Option.{option_map}
use Rattle.std.specs.List.{list_all}
use Rattle.std.proofs.lemmas.Bool.{leb-true, ltb-true, eqb-true, and_parts}
use Rattle.jiff_core.specs.Calendar.{days_from_civil, days_in_year, day_count, IsCivilDate, days_in_month}
use Rattle.jiff_core.proofs.SignedLemmas.{signed_arith}
use Rattle.jiff_core.proofs.CalendarLemmas.{day_count-epoch, day_count-later_year, day_count-day_of_year, day_count-lt_year}
use Rattle.jiff_core.proofs.MarchLemmas.{day_count-early}
use Rattle.fpl_text.specs.Bytes.{is_digit}
use Rattle.fpl_text.specs.Times.{two_digits, hhmm_below, time_of_day}
use Rattle.fpl_text.specs.Moments.{is_civil_date, is_date, moment_of, year_of, month_of, month_day_of, day_number_of}
use Rattle.fpl_text.proofs.DaysLemmas.{abs_difference}

first_count : day_count (pos 1999) 1 1 ≡ 4_382_545
first_count = day_count-early (pos 1999) 11998 1 1 refl (omega arith) (omega arith) (omega arith)

end_count : day_count (pos 2099) 1 1 ≡ 4_419_070
end_count = day_count-early (pos 2099) 12098 1 1 refl (omega arith) (omega arith) (omega arith)

first_days : days_in_year (pos 1999) ≡ 365
first_days = refl

-- the days of those years
count-within : (year month day : ℕ) → 2000 ≤ year → year ≤ 2098 → IsCivilDate (pos year) month day → (4_382_910 ≤ day_count (pos year) month day) × (day_count (pos year) month day < 4_419_070)
count-within year month day low high valid =
    let first = day_count-later_year (pos 1999) (pos year) (omega (arith, signed_arith)) (omega (arith, signed_arith)) in
    let place = day_count-day_of_year (pos year) month day valid.2.0 in
    let less = day_count-lt_year (pos year) month day (pos 2099) 1 1 valid (omega arith) (omega (arith, signed_arith)) in
    (omega (arith, first, first_count, first_days, place, valid.2.0), omega (arith, less, end_count))

day-within : (year month day : ℕ) → 2000 ≤ year → year ≤ 2098 → IsCivilDate (pos year) month day → (10_957 ≤ unsigned_abs (days_from_civil (pos year) month day)) × (unsigned_abs (days_from_civil (pos year) month day) < 47_117)
unfolding days_from_civil
day-within year month day low high valid =
    let count = count-within year month day low high valid in
    let number = abs_difference (day_count (pos year) month day) (day_count (pos 1970) 1 1) (omega (arith, count, day_count-epoch)) in
    (omega (arith, number, count, day_count-epoch), omega (arith, number, count, day_count-epoch))

civil-parts : (yy month day : ℕ) → yy ≤ 98 → is_civil_date yy month day ≡ true → IsCivilDate (pos (2000 + yy)) month day
unfolding is_civil_date
civil-parts yy month day small valid =
    let long = days_in_month (pos (2000 + yy)) month in
    let a = and_parts (leb 1 month && leb month 12 && leb 1 day) (leb day long) valid in
    let b = and_parts (leb 1 month && leb month 12) (leb 1 day) a.0 in
    let c = and_parts (leb 1 month) (leb month 12) b.0 in
    ((omega (arith, signed_arith), omega (arith, signed_arith)), (leb-true 1 month c.0, leb-true month 12 c.1), (leb-true 1 day b.1, leb-true day long a.1))

-- the day that six digits are
number-within : (text : List ℕ) → is_date text ≡ true → year_of text ≤ 2098 → (10_957 ≤ day_number_of text) × (day_number_of text < 47_117)
unfolding is_date
number-within text date early =
    let parts = and_parts (eqb (length text) 6 && list_all is_digit text) (is_civil_date (two_digits text 0) (month_of text) (month_day_of text)) date in
    day-within (year_of text) (month_of text) (month_day_of text) (omega arith) early (civil-parts (two_digits text 0) (month_of text) (month_day_of text) (omega arith) parts.1)

time-within : (text : List ℕ) (time : ℕ) → time_of_day text ≡ Some time → time < 1440
unfolding hhmm_below
time-within text time h =
    small ((eqb (length text) 4) && list_all is_digit text && ltb (two_digits text 0) 24) (two_digits text 0) (two_digits text 2) (λ yes. ltb-true _ _ (and_parts (eqb (length text) 4 && list_all is_digit text) (ltb (two_digits text 0) 24) yes).1) h
  where
    some : (b : Bool) (n : ℕ) → cond b (Some n) None ≡ Some time → (b ≡ true) × (n ≡ time)
    some true n is = (refl, cc)
    some false n is = absurd cc

    small : (b : Bool) (hour minute : ℕ) → (b ≡ true → hour < 24) → cond (b && ltb minute 60) (Some (60 * hour + minute)) None ≡ Some time → time < 1440
    small b hour minute below is =
        let found = some (b && ltb minute 60) (60 * hour + minute) is in
        let parts = and_parts b (ltb minute 60) found.0 in
        omega (arith, below parts.0, ltb-true minute 60 parts.1, found.1)

-- a time is in the years 2000 to 2098
pub moment-within : (text : List ℕ) (minute : ℕ) → moment_of text ≡ Some minute → (15_778_080 ≤ minute) × (minute < 67_848_480)
unfolding moment_of
moment-within text minute h =
    within (is_date (take 6 text)) (leb (year_of (take 6 text)) 2098) (time_of_day (drop 6 text)) (λ date early. number-within (take 6 text) date (leb-true _ _ early)) (time-within (drop 6 text)) h
  where
    parts : (b : Bool) (found : Option ℕ) (day : ℕ) → cond b (option_map (λ minutes. 1440 * day + minutes) found) None ≡ Some minute → (b ≡ true) × ((time : ℕ) × (found ≡ Some time) × (1440 * day + time ≡ minute))
    parts true (Some time) day is = (refl, (time, refl, cc))
    parts true None day is = absurd cc
    parts false found day is = absurd cc

    within : (date early : Bool) (found : Option ℕ) → (date ≡ true → early ≡ true → (10_957 ≤ day_number_of (take 6 text)) × (day_number_of (take 6 text) < 47_117)) → ((time : ℕ) → found ≡ Some time → time < 1440)
        → cond (date && early) (option_map (λ minutes. 1440 * day_number_of (take 6 text) + minutes) found) None ≡ Some minute → (15_778_080 ≤ minute) × (minute < 67_848_480)
    within date early found days times is =
        let read = parts (date && early) found (day_number_of (take 6 text)) is in
        let both = and_parts date early read.0 in
        let day = days both.0 both.1 in
        let time = times read.1.0 read.1.1 in
        (omega (arith, day, read.1.2), omega (arith, day, time, read.1.2))

-- a time is ten digits
pub moment-length : (text : List ℕ) (minute : ℕ) → moment_of text ≡ Some minute → length text ≡ 10
unfolding moment_of is_date hhmm_below
moment-length text minute h =
    ten
    ((eqb (length (take 6 text)) 6) && list_all is_digit (take 6 text) && is_civil_date (two_digits (take 6 text) 0) (month_of (take 6 text)) (month_day_of (take 6 text)))
    (leb (year_of (take 6 text)) 2098)
    ((eqb (length (drop 6 text)) 4) && list_all is_digit (drop 6 text) && ltb (two_digits (drop 6 text) 0) 24 && ltb (two_digits (drop 6 text) 2) 60)
    (day_number_of (take 6 text)) (60 * two_digits (drop 6 text) 0 + two_digits (drop 6 text) 2)
    (λ d. eqb-true _ _ (and_parts (eqb (length (take 6 text)) 6) (list_all is_digit (take 6 text)) (and_parts (eqb (length (take 6 text)) 6 && list_all is_digit (take 6 text)) (is_civil_date (two_digits (take 6 text) 0) (month_of (take 6 text)) (month_day_of (take 6 text))) d).0).0)
    (λ t. eqb-true _ _ (and_parts (eqb (length (drop 6 text)) 4) (list_all is_digit (drop 6 text)) (and_parts (eqb (length (drop 6 text)) 4 && list_all is_digit (drop 6 text)) (ltb (two_digits (drop 6 text) 0) 24) (and_parts (eqb (length (drop 6 text)) 4 && list_all is_digit (drop 6 text) && ltb (two_digits (drop 6 text) 0) 24) (ltb (two_digits (drop 6 text) 2) 60) t).0).0).0)
    h
  where
    long : length (take 6 text) ≡ 6 → length (drop 6 text) ≡ 4 → length text ≡ 10
    long date time = omega (arith, date, time, length-drop 6 text, length-take 6 text)

    ten : (date early clock : Bool) (day time : ℕ) → (date ≡ true → length (take 6 text) ≡ 6) → (clock ≡ true → length (drop 6 text) ≡ 4)
        → cond (date && early) (option_map (λ minutes. 1440 * day + minutes) (cond clock (Some time) None)) None ≡ Some minute → length text ≡ 10
    ten true true true day time d t is = long (d refl) (t refl)
    ten true true false day time d t is = absurd cc
    ten true false clock day time d t is = absurd cc
    ten false early clock day time d t is = absurd cc

pub moment-other_length : (text : List ℕ) → (length text ≡ 10 → ⊥) → moment_of text ≡ None
moment-other_length text other = none (moment_of text) refl
  where
    none : (read : Option ℕ) → moment_of text ≡ read → read ≡ None
    none None is = refl
    none (Some minute) is = absurd (other (moment-length text minute is))
