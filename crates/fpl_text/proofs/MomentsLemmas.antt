-- The day numbers of the years 2000 to 2099.
use Rattle.std.proofs.Common.{◌≡◌, ℕ, ◌+◌, ◌*◌, ◌<◌, ◌≤◌, refl, arith, pos, unsigned_abs, ◌+ℤ◌, to_z, of_z, w8, w16, Bool, true, false, cond, take, drop, ◌&&◌, leb, eqb, List, length, sym, ◌∙◌}
use Rattle.std.specs.List.{list_all}
use Rattle.fpl_text.specs.Bytes.{is_digit}
use Rattle.fpl_text.specs.Times.{two_digits, time_of_day}
use Rattle.std.proofs.lemmas.Int.{ints}
use Rattle.std.proofs.lemmas.Bool.{false_from_ne_true, le-leb, leb-true, and_parts, and_left, and_right, ne_eqb, cond-false}
use Rattle.fpl_text.specs.Moments.{is_civil_date, is_date, moment_of, year_of, month_of, month_day_of, day_number_of, IsYymmdd}
use Rattle.std.specs.Prelude.{Option, Some, None}
use Rattle.jiff_core.specs.declared.civil.date.Date.{Date}
use Rattle.jiff_core.specs.Calendar.{day_count, IsBetween, IsCivilDate, IsDate, days_in_month}
use Rattle.jiff_core.specs.Date.{epoch_day, IsYmd}
use Rattle.jiff_core.proofs.SignedLemmas.{signed_arith}
use Rattle.jiff_core.proofs.MarchLemmas.{day_count-early}
use Rattle.jiff_core.proofs.CalendarLemmas.{days_from_civil-day_count, day_count-lt_year}
use Rattle.jiff_core.proofs.DateLemmas.{civil, epoch_day_injective}

first_count : day_count (pos 1999) 1 1 ≡ 4_382_545
first_count = day_count-early (pos 1999) 11998 1 1 refl (omega arith) (omega arith) (omega arith)

end_count : day_count (pos 2100) 1 1 ≡ 4_419_435
end_count = day_count-early (pos 2100) 12099 1 1 refl (omega arith) (omega arith) (omega arith)

first_of_1999 : IsCivilDate (pos 1999) 1 1
first_of_1999 = omega (arith, signed_arith)

-- a date of these years is at most 47,481 days after 1970-01-01
pub epoch_day_of_century : (d : Date) → IsBetween (pos 2000) (pos 2099) d.year → IsBetween (pos 0) (pos 47_481) (epoch_day d)
epoch_day_of_century d h =
    let low = day_count-lt_year (pos 1999) 1 1 d.year d.month d.day first_of_1999 d.day_in.0 (omega (arith, signed_arith)) in
    let high = day_count-lt_year d.year d.month d.day (pos 2100) 1 1 (civil d) (omega arith) (omega (arith, signed_arith)) in
    omega (arith, signed_arith, days_from_civil-day_count, first_count, end_count)

-- the signed numbers that a date is made of
pub signed_byte : (n : ℕ) → n < 100 → to_z w8 n ≡ pos n
signed_byte n h = omega (arith, ints)

pub signed_year : (yy : ℕ) → yy < 100 → to_z w16 (of_z w16 (pos 2000 +ℤ to_z w16 yy)) ≡ pos (2000 + yy)
signed_year yy h = omega (arith, ints)

pub civil_yes : (yy month day : ℕ) → IsDate (pos (2000 + yy)) (pos month) (pos day) → is_civil_date yy month day ≡ true
unfolding is_civil_date
civil_yes yy month day h =
    let low : 1 ≤ month = omega (arith, ints) in
    let high : month ≤ 12 = omega (arith, ints) in
    let first : 1 ≤ day = omega (arith, ints) in
    let last : day ≤ days_in_month (pos (2000 + yy)) month = omega (arith, ints) in
    grind (arith, le-leb _ _ low, le-leb _ _ high, le-leb _ _ first, le-leb _ _ last)

pub civil_no : (yy month day : ℕ) → yy < 100 → (IsDate (pos (2000 + yy)) (pos month) (pos day) → ⊥) → is_civil_date yy month day ≡ false
unfolding is_civil_date
civil_no yy month day small h =
    let long = days_in_month (pos (2000 + yy)) month in
    false_from_ne_true _ (λ yes.
    let a = and_parts (leb 1 month && leb month 12 && leb 1 day) (leb day long) yes in
    let b = and_parts (leb 1 month && leb month 12) (leb 1 day) a.0 in
    let c = and_parts (leb 1 month) (leb month 12) b.0 in
    let low : 1 ≤ month = leb-true 1 month c.0 in
    let high : month ≤ 12 = leb-true month 12 c.1 in
    let first : 1 ≤ day = leb-true 1 day b.1 in
    let last : day ≤ long = leb-true day long a.1 in
    h (omega (arith, ints)))

-- what six digits have to be
pub is_date-digits : (text : List ℕ) → length text ≡ 6 → list_all is_digit text ≡ true → is_date text ≡ is_civil_date (two_digits text 0) (two_digits text 2) (two_digits text 4)
unfolding is_date
is_date-digits text six digits = rw (six, digits)

pub is_date-other_length : (text : List ℕ) → (length text ≡ 6 → ⊥) → is_date text ≡ false
unfolding is_date
is_date-other_length text other = rw (ne_eqb (length text) 6 other)

pub is_date-other_bytes : (text : List ℕ) → list_all is_digit text ≡ false → is_date text ≡ false
unfolding is_date
is_date-other_bytes text other =
    and_left (eqb (length text) 6 && list_all is_digit text) (is_civil_date (two_digits text 0) (two_digits text 2) (two_digits text 4)) (and_right (eqb (length text) 6) (list_all is_digit text) other)

-- what is no time, and which time a text is
pub moment-no_date : (text : List ℕ) → is_date (take 6 text) ≡ false → moment_of text ≡ None
unfolding moment_of
moment-no_date text h = rw h

pub moment-late : (text : List ℕ) → leb (year_of (take 6 text)) 2098 ≡ false → moment_of text ≡ None
unfolding moment_of
moment-late text h = cond-false _ _ _ (and_right (is_date (take 6 text)) (leb (year_of (take 6 text)) 2098) h)

pub moment-no_time : (text : List ℕ) → time_of_day (drop 6 text) ≡ None → moment_of text ≡ None
unfolding moment_of
moment-no_time text h = rw h (cond_same (is_date (take 6 text) && leb (year_of (take 6 text)) 2098))
  where
    cond_same : (b : Bool) → cond {A = Option ℕ} b None None ≡ None
    cond_same true = refl
    cond_same false = refl

pub moment-some : (text : List ℕ) (time : ℕ) → is_date (take 6 text) ≡ true → leb (year_of (take 6 text)) 2098 ≡ true → time_of_day (drop 6 text) ≡ Some time → moment_of text ≡ Some (1440 * day_number_of (take 6 text) + time)
unfolding moment_of
moment-some text time date early h = rw (date, early, h)

-- a date's day number, by its parts
pub day_number-parts : (date : Date) (text : List ℕ) → IsYmd (pos (year_of text)) (pos (month_of text)) (pos (month_day_of text)) date → unsigned_abs (epoch_day date) ≡ day_number_of text
day_number-parts date text is =
    let month : date.month ≡ month_of text = let e = is.1 in cc in
    let day : date.day ≡ month_day_of text = let e = is.2 in cc in
    rw (is.0, month, day)

-- a time has one day, and so six digits
pub yymmdd_one : (minute : ℕ) (a b : List ℕ) → IsYymmdd minute a → IsYymmdd minute b → a ≡ b
yymmdd_one minute a b one other =
    let same = epoch_day_injective one.0 other.0 (one.1 ∙ sym other.1) in
    one.2 ∙ rw (same.0, same.1, same.2) (sym other.2)
