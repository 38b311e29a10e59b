-- Speeds and levels (ICAO Doc 4444, appendix 3, field type 15, (a) and (b)).
use Rattle.std.specs.Prelude.{ℕ, ◌+◌, Bool, ◌==◌, ◌&&◌, ◌||◌, nat_eq, List, length, take, drop, slice_index, codes, if◌then◌else◌}
use Rattle.std.specs.List.{list_all}
use Rattle.std.specs.Cmp.Lexicographic.{pointwise}
use Rattle.fpl_text.specs.Bytes.{is_digit}

-- a letter, and then `digits` digits
unfoldable pub is_letter_and_digits : ℕ → ℕ → List ℕ → Bool
is_letter_and_digits letter digits text =
    (length text == digits + 1) && (slice_index text 0 == letter) && list_all is_digit (drop 1 text)

-- K and 4 digits, N and 4 digits, or M and 3 digits
unfoldable pub is_speed : List ℕ → Bool
is_speed text = is_letter_and_digits 75 4 text || is_letter_and_digits 78 4 text || is_letter_and_digits 77 3 text

-- F and 3 digits, S and 4 digits, A and 3 digits, or M and 4 digits
unfoldable pub is_height : List ℕ → Bool
is_height text =
    is_letter_and_digits 70 3 text || is_letter_and_digits 83 4 text || is_letter_and_digits 65 3 text
    || is_letter_and_digits 77 4 text

-- a level is one of these or VFR
unfoldable pub is_level : List ℕ → Bool
is_level text = is_height text || pointwise nat_eq text (codes "VFR")

-- the length of a speed that begins with this letter
abbrev pub speed_len : List ℕ → ℕ
speed_len text = if slice_index text 0 == 77 then 4 else 5

-- a speed and a level joined
unfoldable pub is_speed_and_level : List ℕ → Bool
is_speed_and_level text = is_speed (take (speed_len text) text) && is_level (drop (speed_len text) text)
