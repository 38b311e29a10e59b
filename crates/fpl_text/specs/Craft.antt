-- Fields 8, 9 and 10: rules and type of flight; number and type of aircraft and wake turbulence
-- category; equipment (ICAO Doc 4444, appendix 3, field types 8, 9 and 10).
use Rattle.std.specs.Prelude.{◌≡◌, ℕ, ◌+◌, ◌-◌, ◌*◌, Bool, ◌==◌, ◌&&◌, nat_le, nat_lt, if◌then◌else◌, List, length, take, drop, slice_index, Option, Some, None, Result, Ok, Err, true, false}
use Rattle.std.specs.Option.{option_map, option_and_then}
use Rattle.std.specs.List.{list_all, prefix_len}
use Rattle.fpl_text.specs.declared.craft.FlightRules.{FlightRules}
use Rattle.fpl_text.specs.declared.craft.FlightRules.TheVariants.{Instrument, Visual, InstrumentFirst, VisualFirst}
use Rattle.fpl_text.specs.declared.craft.FlightKind.{FlightKind}
use Rattle.fpl_text.specs.declared.craft.FlightKind.TheVariants as kinds
use Rattle.fpl_text.specs.declared.craft.Wake.{Wake}
use Rattle.fpl_text.specs.declared.craft.Wake.TheVariants as wakes
use Rattle.fpl_text.specs.declared.craft.Rules.{Rules}
use Rattle.fpl_text.specs.declared.craft.Craft.{Craft}
use Rattle.fpl_text.specs.declared.fault.FieldFault.{FieldFault}
use Rattle.fpl_text.specs.declared.fault.FieldFault.TheVariants.{BadField, OutOfMemory}
use Rattle.fpl_text.specs.Bytes.{is_letter, is_digit, is_letter_or_digit}

-- I, V, Y or Z
unfoldable pub flight_rules_of : ℕ → Option FlightRules
flight_rules_of b =
    if b == 73 then Some Instrument
    else (if b == 86 then Some Visual
    else (if b == 89 then Some InstrumentFirst
    else (if b == 90 then Some VisualFirst else None)))

-- S, N, G, M or X
unfoldable pub flight_kind_of : ℕ → Option FlightKind
flight_kind_of b =
    if b == 83 then Some kinds.Scheduled
    else (if b == 78 then Some kinds.NonScheduled
    else (if b == 71 then Some kinds.General
    else (if b == 77 then Some kinds.Military
    else (if b == 88 then Some kinds.Other else None))))

-- no type of flight, or one
unfoldable pub flight_kind_in : List ℕ → Option (Option FlightKind)
flight_kind_in text =
    if length text == 0 then Some None
    else (if length text == 1 then option_map (λ kind. Some kind) (flight_kind_of (slice_index text 0)) else None)

-- the rules, and then optionally the type of flight
unfoldable pub rules_of : List ℕ → Option Rules
rules_of text =
    option_and_then
    (λ rules. option_map (λ kind. record { rules = rules; kind = kind }) (flight_kind_in (drop 1 text)))
    (flight_rules_of (slice_index text 0))

-- L, M, H or J
unfoldable pub wake_of : ℕ → Option Wake
wake_of b =
    if b == 76 then Some wakes.Light
    else (if b == 77 then Some wakes.Medium
    else (if b == 72 then Some wakes.Heavy
    else (if b == 74 then Some wakes.Super else None)))

-- the number that the first `digits` bytes spell: none, or one of 1 or 2 digits
unfoldable pub craft_number : ℕ → List ℕ → Option (Option ℕ)
craft_number digits text =
    if digits == 0 then Some None
    else (if digits == 1 then Some (Some (slice_index text 0 - 48))
    else (if digits == 2 then Some (Some (10 * (slice_index text 0 - 48) + (slice_index text 1 - 48))) else None))

-- a type of 2 to 4 letters or digits that begins with a letter
unfoldable pub is_craft_kind : List ℕ → Bool
is_craft_kind text =
    nat_le 2 (length text) && nat_le (length text) 4 && is_letter (slice_index text 0) && list_all is_letter_or_digit text

-- optionally a number, then the type and the wake turbulence category on either side of a stroke
unfoldable pub craft_of : List ℕ → Option Craft
craft_of text =
    let digits = prefix_len is_digit text in
    let last = length text - 1 in
    if nat_le (digits + 4) (length text) && (slice_index text (last - 1) == 47)
    && is_craft_kind (take (last - 1 - digits) (drop digits text))
    then option_and_then
    (λ number. option_map (λ wake. record { number = number; kind = take (last - 1 - digits) (drop digits text); wake = wake }) (wake_of (slice_index text last)))
    (craft_number digits text)
    else None

-- letters or digits on either side of a stroke
unfoldable pub is_equipment : List ℕ → Bool
is_equipment text =
    let before = prefix_len is_letter_or_digit text in
    nat_le 1 before && nat_lt (before + 1) (length text) && (slice_index text before == 47)
    && list_all is_letter_or_digit (drop (before + 1) text)

-- field 10 is read as the text that it is exactly if it has its form, unless allocation fails
abbrev pub ReadsEquipment : List ℕ → Result (List ℕ) FieldFault → Type 0
ReadsEquipment text (Ok equipment) = (is_equipment text ≡ true) × (equipment ≡ text)
ReadsEquipment text (Err (BadField field)) = (is_equipment text ≡ false) × (field ≡ 10)
ReadsEquipment text (Err OutOfMemory) = is_equipment text ≡ true
