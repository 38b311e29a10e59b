-- Field 15: a speed and a level, and then the elements of the route (ICAO Doc 4444, appendix 3,
-- field type 15).
use Rattle.std.specs.Prelude.{◌≡◌, ℕ, ◌+◌, if◌then◌else◌, List, [], ◌∷◌, length, take, drop, Option, Some, None, Bool, is_ok, Result, Ok, Err}
use Rattle.std.specs.Option.{option_map, option_and_then, ok_or}
use Rattle.fpl_items.specs.declared.fault.ItemFault.{ItemFault}
use Rattle.fpl_items.specs.declared.fault.ItemFault.TheVariants.{BadField, OutOfMemory}
use Rattle.fpl_items.specs.declared.route.Element.{Element}
use Rattle.fpl_text.specs.Words.{words_of}
use Rattle.fpl_items.specs.Speeds.{speed_len, is_speed_and_level}
use Rattle.fpl_items.specs.Kinds.{kind_of}

-- what contracts see of a route
pub record RouteView : Type 0 where
  pub speed : List ℕ
  pub level : List ℕ
  pub elements : List Element

-- the elements of these words, of which the first is at offset `from`
abbrev pub elements_of : ℕ → List (List ℕ) → Option (List Element)
elements_of from [] = Some []
elements_of from (word ∷ words) =
    option_and_then
    (λ kind. option_map (λ elements. record { kind = kind; from = from; to = from + length word } ∷ elements) (elements_of (from + length word + 1) words))
    (kind_of word)

-- a speed and a level joined, and then the elements
abbrev pub path_of_words : List (List ℕ) → Option RouteView
path_of_words [] = None
path_of_words (word ∷ words) =
    if is_speed_and_level word
    then option_map
    (λ elements. record { speed = take (speed_len word) word; level = drop (speed_len word) word; elements = elements })
    (elements_of (length word + 1) words)
    else None

-- field 15, or its fault
unfoldable pub path_or_fault : List ℕ → Result RouteView ItemFault
path_or_fault field = ok_or (path_of_words (words_of field)) (BadField 15)

-- whether field 15 can be read
abbrev pub is_route : List ℕ → Bool
is_route field = is_ok (path_or_fault field)

-- The result of a call, seen by `view`, is what its definition gives, unless allocation fails.
abbrev pub ReadsAs : {X Y : Type 0} → (X → Y) → Result X ItemFault → Result Y ItemFault → Type 0
ReadsAs view (Ok x) expected = expected ≡ Ok (view x)
ReadsAs view (Err OutOfMemory) expected = Unit {0}
ReadsAs view (Err fault) expected = expected ≡ Err fault

-- the length of words, with a space after each
abbrev pub total_len : List (List ℕ) → ℕ
total_len [] = 0
total_len (word ∷ words) = length word + 1 + total_len words
