-- The kinds of the words of a route: standard routes and points, changes of speed or level, changes
-- of rules, cruise climbs (ICAO Doc 4444, appendix 3, field type 15, (c)).
use Rattle.std.specs.Prelude.{ℕ, ◌+◌, Bool, not, ◌==◌, ◌&&◌, ◌||◌, nat_le, nat_lt, nat_eq, if◌then◌else◌, List, length, take, drop, slice_index, Option, Some, None, codes}
use Rattle.std.specs.List.{list_all, prefix_len, position_or_len}
use Rattle.std.specs.Cmp.Lexicographic.{pointwise}
use Rattle.fpl_items.specs.declared.route.Kind.{Kind}
use Rattle.fpl_items.specs.declared.route.Kind.TheVariants.{Dct, Vfr, Ifr, Point, Change, Climb, Designator, Other}
use Rattle.fpl_text.specs.Bytes.{is_letter, is_digit, is_letter_or_digit}
use Rattle.fpl_items.specs.Speeds.{is_speed, is_height, is_speed_and_level, speed_len}

-- the word is this text
abbrev pub is_text : List ℕ → List ℕ → Bool
is_text text word = pointwise nat_eq word text

-- 2 to 5 letters, and optionally the 6 digits of a bearing and a distance; letters alone are this
-- project's profile, and a coded name with a digit counts as a designator
unfoldable pub is_name : List ℕ → Bool
is_name word =
    let letters = prefix_len is_letter word in
    nat_le 2 letters && nat_le letters 5 && list_all is_digit (drop letters word)
    && ((length word == letters) || (length word == letters + 6))

-- a latitude and a longitude: `north` digits, N or S, `east` digits, E or W
unfoldable pub is_coordinate : ℕ → ℕ → List ℕ → Bool
is_coordinate north east word =
    (length word == north + east + 2) && list_all is_digit (take north word)
    && ((slice_index word north == 78) || (slice_index word north == 83))
    && list_all is_digit (take east (drop (north + 1) word))
    && ((slice_index word (north + east + 1) == 69) || (slice_index word (north + east + 1) == 87))

unfoldable pub is_point : List ℕ → Bool
is_point word = is_name word || is_coordinate 2 3 word || is_coordinate 4 5 word

-- the number of bytes before the first stroke
abbrev pub before_stroke : List ℕ → ℕ
before_stroke word = position_or_len (λ b. b == 47) word

-- a point, a stroke, and a speed and a level joined
unfoldable pub is_change : List ℕ → Bool
is_change word =
    nat_lt (before_stroke word) (length word) && is_point (take (before_stroke word) word)
    && is_speed_and_level (drop (before_stroke word + 1) word)

abbrev pub height_len : List ℕ → ℕ
height_len text = if (slice_index text 0 == 70) || (slice_index text 0 == 65) then 4 else 5

-- a level and a second one or PLUS joined, no level being VFR
unfoldable pub is_climb_range : List ℕ → Bool
is_climb_range text =
    is_height (take (height_len text) text)
    && (is_height (drop (height_len text) text) || is_text (codes "PLUS") (drop (height_len text) text))

unfoldable pub is_climb_speed : List ℕ → Bool
is_climb_speed text = is_speed (take (speed_len text) text) && is_climb_range (drop (speed_len text) text)

-- a point, a stroke, a speed and the levels between which it climbs
unfoldable pub is_climb_from : List ℕ → Bool
is_climb_from text =
    nat_lt (before_stroke text) (length text) && is_point (take (before_stroke text) text)
    && is_climb_speed (drop (before_stroke text + 1) text)

-- 2 to 7 letters or digits, at least one a digit
unfoldable pub is_designator : List ℕ → Bool
is_designator word =
    nat_le 2 (length word) && nat_le (length word) 7 && list_all is_letter_or_digit word && not (list_all is_letter word)

unfoldable pub is_route_byte : ℕ → Bool
is_route_byte b = is_letter_or_digit b || (b == 47)

-- C and a stroke, and then a climb
unfoldable pub is_climb : List ℕ → Bool
is_climb word =
    nat_le 2 (length word) && (slice_index word 0 == 67) && (slice_index word 1 == 47) && is_climb_from (drop 2 word)

-- the first kind that fits a word; none if it has another byte. OAT and GAT (operational and
-- general air traffic), and words of no form, are this project's own
unfoldable pub kind_of : List ℕ → Option Kind
kind_of word =
    if is_text (codes "DCT") word then Some Dct
    else (if is_text (codes "VFR") word then Some Vfr
    else (if is_text (codes "IFR") word then Some Ifr
    else (if is_text (codes "OAT") word || is_text (codes "GAT") word then Some Other
    else (if is_point word then Some Point
    else (if is_change word then Some Change
    else (if is_climb word then Some Climb
    else (if is_designator word then Some Designator
    else (if list_all is_route_byte word then Some Other
    else None))))))))
