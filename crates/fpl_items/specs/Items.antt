-- Field 18: items, each an indicator and the words after it, of which DOF (date of flight), EET
-- (estimated elapsed times) and STS (reason for special handling) have an effect (ICAO Doc 4444,
-- appendix 3, field type 18). A flight with STS/ATFMX is exempt from slot allocation (EUROCONTROL
-- ATFCM Users Manual).
use Rattle.std.specs.Prelude.{◌≡◌, ℕ, ◌+◌, ◌-◌, Bool, true, false, not, ◌==◌, ◌&&◌, ◌||◌, nat_le, nat_lt, if◌then◌else◌, List, [], ◌∷◌, ◌++◌, length, take, drop, slice_index, slice_index_or, Option, Some, None, is_some, Result, Ok, Err, codes}
use Rattle.std.specs.Borrow.{Bor}
use Rattle.std.specs.Option.{option_or}
use Rattle.std.specs.List.{list_all, list_any}
use Rattle.fpl_items.specs.declared.fault.ItemFault.{ItemFault}
use Rattle.fpl_items.specs.declared.fault.ItemFault.TheVariants.{BadField, DuplicateItem, BadDate}
use Rattle.fpl_text.specs.Bytes.{is_letter, is_letter_or_digit}
use Rattle.fpl_text.specs.Times.{elapsed_time}
use Rattle.fpl_text.specs.Moments.{day_of}
use Rattle.fpl_text.specs.Words.{words_of}
use Rattle.fpl_text.specs.declared.words.Measured.{Measured}
use Rattle.fpl_items.specs.Kinds.{before_stroke, is_text}

-- an item by its bytes
pub record ItemView : Type 0 where
  pub name : List ℕ
  pub words : List (List ℕ)

-- a word begins an item if it has a name of 2 to 9 letters or digits, a letter first, before a
-- stroke (own)
unfoldable pub begins_item : List ℕ → Bool
begins_item word =
    nat_lt (before_stroke word) (length word) && nat_le 2 (before_stroke word) && nat_le (before_stroke word) 9
    && is_letter (slice_index word 0) && list_all is_letter_or_digit (take (before_stroke word) word)

-- the text after the stroke is the item's first word, unless it is empty
abbrev pub own_words : List ℕ → List (List ℕ)
own_words word =
    if length word == before_stroke word + 1 then [] else drop (before_stroke word + 1) word ∷ []

-- one word, or none
abbrev pub own_list : Option (Bor (List ℕ)) → List (List ℕ)
own_list None = []
own_list (Some word) = word.now ∷ []

-- the words before the first item
abbrev pub words_before : List (List ℕ) → List (List ℕ)
words_before [] = []
words_before (word ∷ words) = if begins_item word then [] else word ∷ words_before words

-- an item by its first word and the words after it
abbrev pub item_at : List ℕ → List (List ℕ) → ItemView
item_at word words = record { name = take (before_stroke word) word; words = own_words word ++ words_before words }

-- the words of an item, by what follows the stroke and the words after that
abbrev pub own_of : List (List ℕ) → List (List ℕ)
own_of [] = []
own_of (own ∷ words) = if length own == 0 then [] else own ∷ []

abbrev pub words_after : List (List ℕ) → List (List ℕ)
words_after words = own_of words ++ words_before (drop 1 words)

-- the EET item with these words
abbrev pub eet_of : List (List ℕ) → ItemView
eet_of words = record { name = codes "EET"; words = words_after words }

-- the items of words, each up to the next
abbrev pub items_of : List (List ℕ) → List ItemView
items_of [] = []
items_of (word ∷ words) = if begins_item word then item_at word words ∷ items_of words else items_of words

-- a measured word begins an item: its letters and digits are the name
pub record BeginsItem (measured : Measured) : Type 0 where
  pub begins : begins_item measured.word.now ≡ true
  pub stroke : measured.letters_or_digits ≡ before_stroke measured.word.now

-- the items that a first word, if there is one, and the words after it have
abbrev pub items_with : Option Measured → List (List ℕ) → List ItemView
items_with None words = []
items_with (Some measured) words = item_at measured.word.now words ∷ items_of words

-- a point of 1 to 11 letters or digits, and an elapsed time
unfoldable pub is_estimate : List ℕ → Bool
is_estimate word =
    nat_le 5 (length word) && nat_le (length word) 15
    && list_all is_letter_or_digit (take (length word - 4) word)
    && is_some (elapsed_time (drop (length word - 4) word))

-- the day that the first word is
abbrev pub day_of_words : List (List ℕ) → Option ℕ
day_of_words [] = None
day_of_words (word ∷ words) = day_of word

-- exactly one word, which is a date
unfoldable pub is_day : List (List ℕ) → Bool
is_day words = (length words == 1) && is_some (day_of_words words)

abbrev pub is_dof : ItemView → Bool
is_dof item = is_text (codes "DOF") item.name

-- the fault of an item; `dof` if there was a DOF before
unfoldable pub item_fault : Bool → ItemView → Option ItemFault
item_fault dof item =
    if is_dof item
    then (if dof then Some DuplicateItem else (if is_day item.words then None else Some BadDate))
    else (if is_text (codes "EET") item.name && not (list_all is_estimate item.words) then Some (BadField 18) else None)

-- the first fault, from the left
abbrev pub first_fault : Bool → List ItemView → Option ItemFault
first_fault dof [] = None
first_fault dof (item ∷ items) = option_or (item_fault dof item) (first_fault (dof || is_dof item) items)

abbrev pub unless_fault : Option ItemFault → List ItemView → Result (List ItemView) ItemFault
unless_fault None items = Ok items
unless_fault (Some fault) items = Err fault

-- the first fault of field 18, which is 0 or begins with an item; a second DOF is a fault by this
-- project's own rule
unfoldable pub field_fault : List ℕ → Option ItemFault
field_fault field =
    if is_text (codes "0") field then None
    else (if begins_item (slice_index_or (words_of field) 0 []) then first_fault false (items_of (words_of field))
    else Some (BadField 18))

-- the items of field 18, of which 0 has none, or its first fault
abbrev pub items_or_fault : List ℕ → Result (List ItemView) ItemFault
items_or_fault field = unless_fault (field_fault field) (items_of (words_of field))

-- an STS item of which a word is ATFMX
abbrev pub exempts : ItemView → Bool
exempts item = is_text (codes "STS") item.name && list_any (is_text (codes "ATFMX")) item.words

-- the flight is exempt if an item exempts it
abbrev pub is_exempt : List ItemView → Bool
is_exempt [] = false
is_exempt (item ∷ items) = exempts item || is_exempt items

-- the elapsed time of the first of these estimates that is for a point
abbrev pub estimate_for : List ℕ → List (List ℕ) → Option ℕ
estimate_for place [] = None
estimate_for place (word ∷ words) =
    if is_text place (take (length word - 4) word) then elapsed_time (drop (length word - 4) word)
    else estimate_for place words

-- and of all EET items
abbrev pub elapsed_to : List ℕ → List ItemView → Option ℕ
elapsed_to place [] = None
elapsed_to place (item ∷ items) =
    option_or (if is_text (codes "EET") item.name then estimate_for place item.words else None) (elapsed_to place items)

-- the day that the first DOF item gives
abbrev pub day_of_items : List ItemView → Option ℕ
day_of_items [] = None
day_of_items (item ∷ items) = if is_dof item then day_of_words item.words else day_of_items items

-- what items without a fault say: the day of the flight, and whether it is exempt
pub record Say (items : List ItemView) (day : Option ℕ) (exempt : Bool) : Type 0 where
  pub day_is : day ≡ day_of_items items
  pub exempt_is : exempt ≡ is_exempt items

-- one more item after a day, if there was one, and an exemption or none: what both then are, and
-- what follows of that
pub record SaysAfter (day : Option ℕ) (exempt : Bool) (item : ItemView) (new_day : Option ℕ) (new_exempt : Bool) : Type 0 where
  pub faultless : item_fault (is_some day) item ≡ None
  pub dof : is_some new_day ≡ (is_some day || is_dof item)
  pub day_then : (items : List ItemView) → option_or new_day (day_of_items items) ≡ option_or day (day_of_items (item ∷ items))
  pub exempt_then : new_exempt ≡ (exempt || exempts item)

-- an item that has an effect
abbrev pub has_effect : ItemView → Bool
has_effect item = is_dof item || is_text (codes "EET") item.name || is_text (codes "STS") item.name

-- the items from the first that has an effect on
abbrev pub from_effect : List ItemView → List ItemView
from_effect [] = []
from_effect (item ∷ items) = if has_effect item then item ∷ items else from_effect items

-- the first of these words, if there is one, begins an item
abbrev pub BeginAtItem : List (List ℕ) → Type 0
BeginAtItem [] = Unit {0}
BeginAtItem (word ∷ words) = begins_item word ≡ true

-- the first of these items, if there is one, is no EET
abbrev pub BeginWithOther : List ItemView → Type 0
BeginWithOther [] = Unit {0}
BeginWithOther (item ∷ items) = is_text (codes "EET") item.name ≡ false
