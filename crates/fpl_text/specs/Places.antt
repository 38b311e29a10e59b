-- Fields 7, 13 and 16: aircraft identification and code; departure aerodrome and time; destination,
-- total estimated elapsed time and alternates (ICAO Doc 4444, appendix 3, field types 7, 13 and
-- 16).
use Rattle.std.specs.Prelude.{ℕ, ◌+◌, ◌-◌, ◌*◌, Bool, ◌==◌, ◌&&◌, nat_le, if◌then◌else◌, List, [], ◌∷◌, length, take, drop, slice_index, Option, Some, None}
use Rattle.std.specs.Option.{option_map, option_and_then}
use Rattle.std.specs.List.{list_all, prefix_len}
use Rattle.fpl_text.specs.declared.ident.Ident.{Ident}
use Rattle.fpl_text.specs.declared.place.Departure.{Departure}
use Rattle.fpl_text.specs.declared.place.Destination.{Destination}
use Rattle.fpl_text.specs.Bytes.{is_letter, is_letter_or_digit}
use Rattle.fpl_text.specs.Words.{words_of}
use Rattle.fpl_text.specs.Times.{time_of_day, elapsed_time}

-- a digit of a transponder code
unfoldable pub is_octal : ℕ → Bool
is_octal b = nat_le 48 b && nat_le b 55

abbrev pub octal_number : List ℕ → ℕ
octal_number digits =
    512 * (slice_index digits 0 - 48) + 64 * (slice_index digits 1 - 48)
    + 8 * (slice_index digits 2 - 48) + (slice_index digits 3 - 48)

-- no transponder code, or /A and its four digits 0 to 7, which are read as an octal number
unfoldable pub transponder_of : List ℕ → Option (Option ℕ)
transponder_of text =
    if length text == 0 then Some None
    else (if (length text == 6) && (slice_index text 0 == 47) && (slice_index text 1 == 65) && list_all is_octal (drop 2 text)
    then Some (Some (octal_number (drop 2 text))) else None)

-- 1 to 7 letters or digits, and optionally a transponder code
unfoldable pub ident_of : List ℕ → Option Ident
ident_of text =
    let name_len = prefix_len is_letter_or_digit text in
    if nat_le 1 name_len && nat_le name_len 7
    then option_map (λ code. record { name = take name_len text; code = code }) (transponder_of (drop name_len text))
    else None

-- a location indicator: four letters
unfoldable pub is_place : List ℕ → Bool
is_place text = (length text == 4) && list_all is_letter text

-- a departure aerodrome and a time of day
unfoldable pub departure_of : List ℕ → Option Departure
departure_of text =
    if is_place (take 4 text)
    then option_map (λ time. record { place = take 4 text; time = time }) (time_of_day (drop 4 text))
    else None

-- a destination, and optionally an elapsed time
unfoldable pub arrival_of : List ℕ → Option (List ℕ × Option ℕ)
arrival_of text =
    if is_place (take 4 text)
    then (if length text == 4 then Some (text, None)
    else option_map (λ minutes. (take 4 text, Some minutes)) (elapsed_time (drop 4 text)))
    else None

-- at most two alternates of four letters
unfoldable pub alternates_of : List (List ℕ) → Option (List (List ℕ))
alternates_of words =
    if nat_le (length words) 2 && list_all is_place words then Some words else None

-- the destination with its elapsed time, and then the alternates
abbrev pub destination_of_words : List (List ℕ) → Option Destination
destination_of_words [] = None
destination_of_words (word ∷ words) =
    option_and_then (λ arrival. option_map (λ alternates. record { place = arrival.0; elapsed = arrival.1; alternates = alternates }) (alternates_of words)) (arrival_of word)

-- a destination, optionally an elapsed time, and at most two alternates; messages other than FPL
-- may leave out the time
unfoldable pub destination_of : List ℕ → Option Destination
destination_of text = destination_of_words (words_of text)
