-- Orders: to open and to close a regulation, and to set the desk's time.
use Rattle.std.specs.Prelude.{ℕ, ◌+◌, ◌-◌, ◌*◌, Bool, ◌==◌, ◌&&◌, nat_le, if◌then◌else◌, List, [], ◌∷◌, length, slice_index, codes, Option, Some, None, Result}
use Rattle.std.specs.Option.{option_map, ok_or}
use Rattle.std.specs.List.{list_all}
use Rattle.fpl_text.specs.declared.part.Part.{Part}
use Rattle.fpl_text.specs.declared.part.TheConstants.{MOST_PARTS}
use Rattle.fpl_text.specs.Bytes.{is_letter, is_digit, is_letter_or_digit}
use Rattle.fpl_text.specs.Moments.{moment_of}
use Rattle.fpl_text.specs.Places.{is_place}
use Rattle.fpl_text.specs.Words.{words_of}
use Rattle.fpl_message.specs.declared.refusal.Refusal.{Refusal}
use Rattle.fpl_message.specs.declared.refusal.Refusal.TheVariants as refusal
use Rattle.fpl_items.specs.Kinds.{is_text}
use Rattle.fpl_message.specs.declared.edition.Edition.{Edition}
use Rattle.fpl_message.specs.declared.edition.Edition.TheVariants.{First, Second}
use Rattle.fpl_message.specs.declared.order.Spot.{Spot}
use Rattle.fpl_message.specs.declared.order.Spot.TheVariants.{Dep, Arr, Via}
use Rattle.fpl_message.specs.declared.order.OpenReg.{OpenReg}
use Rattle.fpl_message.specs.Messages.{Order, open_reg, shut_reg, set_time}

infixl 10 ◌>>?◌
-- what comes next, if there is a value
abbrev pub ◌>>?◌ : {X Y : Type 0} → Option X → (X → Option Y) → Option Y
(Some x) >>? next = next x
None >>? next = None

-- the name of a regulation: a letter, and then at most 7 letters or digits
unfoldable pub is_regulation : List ℕ → Bool
is_regulation word =
    nat_le 1 (length word) && nat_le (length word) 8 && is_letter (slice_index word 0) && list_all is_letter_or_digit word

abbrev pub regulation_id_of : List ℕ → Option (List ℕ)
regulation_id_of word = if is_regulation word then Some word else None

-- a route point: 1 to 11 letters or digits
unfoldable pub is_way_point : List ℕ → Bool
is_way_point word = nat_le 1 (length word) && nat_le (length word) 11 && list_all is_letter_or_digit word

abbrev pub way_point_of : List ℕ → Option (List ℕ)
way_point_of word = if is_way_point word then Some word else None

-- an aerodrome: four letters
abbrev pub aerodrome_of : List ℕ → Option (List ℕ)
aerodrome_of word = if is_place word then Some word else None

-- DEP and ARR name an aerodrome, VIA a route point
unfoldable pub spot_of : List ℕ → List ℕ → Option Spot
spot_of kind place =
    if is_text (codes "DEP") kind then option_map Dep (aerodrome_of place)
    else (if is_text (codes "ARR") kind then option_map Arr (aerodrome_of place)
    else (if is_text (codes "VIA") kind then option_map Via (way_point_of place)
    else None))

abbrev pub digit_at : List ℕ → ℕ → ℕ
digit_at word place = slice_index word place - 48

-- the number that 1 to 3 digits are
abbrev pub decimal_value : List ℕ → ℕ
decimal_value word =
    if length word == 1 then digit_at word 0
    else (if length word == 2 then 10 * digit_at word 0 + digit_at word 1
    else 100 * digit_at word 0 + 10 * digit_at word 1 + digit_at word 2)

-- a rate of flights an hour has 1 to 3 digits
unfoldable pub rate_of : List ℕ → Option ℕ
rate_of word =
    if nat_le 1 (length word) && nat_le (length word) 3 && list_all is_digit word then Some (decimal_value word) else None

-- a sub-period: a time with its date and a rate
unfoldable pub part_of : List ℕ → List ℕ → Option Part
part_of moment rate =
    moment_of moment >>? (λ from. rate_of rate >>? (λ flights. Some (record { from = from; rate = flights })))

-- the sub-periods that pairs of words are
abbrev pub parts_of : List (List ℕ) → Option (List Part)
parts_of [] = Some []
parts_of (moment ∷ []) = None
parts_of (moment ∷ rate ∷ words) = part_of moment rate >>? (λ part. option_map (λ parts. part ∷ parts) (parts_of words))

-- the further sub-periods: none in the first edition, at most 7 in the second
unfoldable pub more_of : Edition → List (List ℕ) → Option (List Part)
more_of First words = if length words == 0 then Some [] else None
more_of Second words = if nat_le (length words) (2 * MOST_PARTS) then parts_of words else None

-- what follows OPEN: a name, a spot, the first minute and the one after the last, a rate, and
-- further sub-periods
abbrev pub open_of : Edition → List (List ℕ) → Option OpenReg
open_of edition (id ∷ kind ∷ place ∷ from ∷ to ∷ rate ∷ words) =
    regulation_id_of id
    >>? (λ name. spot_of kind place
    >>? (λ spot. moment_of from
    >>? (λ start. moment_of to
    >>? (λ end. rate_of rate
    >>? (λ flights. more_of edition words
    >>? (λ more. Some (record { id = name; place = spot; from = start; to = end; rate = flights; more = more })))))))
open_of edition _ = None

-- what follows SHUT: a name
abbrev pub shut_of : List (List ℕ) → Option (List ℕ)
shut_of (id ∷ []) = regulation_id_of id
shut_of _ = None

-- what follows TIME: a time with its date
abbrev pub time_of : List (List ℕ) → Option ℕ
time_of (moment ∷ []) = moment_of moment
time_of _ = None

-- the order that words are
abbrev pub order_of : Edition → List (List ℕ) → Option Order
order_of edition [] = None
order_of edition (verb ∷ words) =
    if is_text (codes "OPEN") verb then option_map open_reg (open_of edition words)
    else (if is_text (codes "SHUT") verb then option_map shut_reg (shut_of words)
    else (if is_text (codes "TIME") verb then option_map set_time (time_of words)
    else None))

-- an order, or its refusal
abbrev pub order_or_refusal : Edition → List ℕ → Result Order Refusal
order_or_refusal edition text = ok_or (order_of edition (words_of text)) refusal.BadOrder
