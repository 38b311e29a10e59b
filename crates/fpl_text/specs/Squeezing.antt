-- Squeezing a text, and its first faults. Lines and spaces may break a message anywhere between its
-- words (ICAO Doc 4444, appendix 3, structure and punctuation); that they are squeezed before the
-- fields are cut is this project's own rule.
use Rattle.std.specs.Prelude.{◌≡◌, ℕ, Bool, false, not, ◌==◌, ◌&&◌, ◌||◌, if◌then◌else◌, List, [], ◌∷◌, Option, Some, None, Result, Ok, Err}
use Rattle.std.specs.List.{list_all, position_from}
use Rattle.fpl_text.specs.declared.fault.TextFault.{TextFault}
use Rattle.fpl_text.specs.declared.fault.TextFault.TheVariants.{Empty, BadByte, OutOfMemory}
use Rattle.fpl_text.specs.Bytes.{is_blank, is_border, is_accepted}

abbrev pub begins_blank : List ℕ → Bool
begins_blank [] = false
begins_blank (b ∷ text) = is_blank b

-- each maximal run of blanks as one space
unfoldable pub with_single_spaces : List ℕ → List ℕ
with_single_spaces [] = []
with_single_spaces (b ∷ text) =
    if is_blank b then (if begins_blank text then with_single_spaces text else 32 ∷ with_single_spaces text)
    else b ∷ with_single_spaces text

-- the first byte; the end of a text counts as a hyphen
abbrev pub first_byte : List ℕ → ℕ
first_byte [] = 45
first_byte (b ∷ text) = b

-- the text after the byte `before`, without the spaces beside a hyphen or a bracket
unfoldable pub without_spaces_at_borders : ℕ → List ℕ → List ℕ
without_spaces_at_borders before [] = []
without_spaces_at_borders before (b ∷ text) =
    if (b == 32) && (is_border before || is_border (first_byte text)) then without_spaces_at_borders before text
    else b ∷ without_spaces_at_borders b text

-- each run of blanks as one space, and none at the ends or beside a hyphen or a bracket
unfoldable pub squeezed : List ℕ → List ℕ
squeezed text = without_spaces_at_borders 45 (with_single_spaces text)

-- the squeezed text, unless there is a byte that is not accepted
abbrev pub squeezed_unless : Option ℕ → List ℕ → Result (List ℕ) TextFault
squeezed_unless None text = Ok (squeezed text)
squeezed_unless (Some place) text = Err (BadByte place)

-- the squeezed text, or the first fault: nothing but blanks, or else the first byte that is not
-- accepted
unfoldable pub squeezed_or_fault : List ℕ → Result (List ℕ) TextFault
squeezed_or_fault text =
    if list_all is_blank text then Err Empty
    else squeezed_unless (position_from (λ b. not (is_accepted b)) 0 text) text

-- what is kept between two bytes with blanks between them, or without
unfoldable pub space_between : Bool → ℕ → ℕ → List ℕ
space_between blank before after =
    if blank && not (is_border before) && not (is_border after) then 32 ∷ [] else []

-- A call returns what its definition gives, unless allocation fails.
abbrev pub Gives : {A : Type 0} → Result A TextFault → Result A TextFault → Type 0
Gives (Ok x) expected = expected ≡ Ok x
Gives (Err OutOfMemory) expected = Unit {0}
Gives (Err fault) expected = expected ≡ Err fault

-- The same of a call that leaves a value, seen by `view`.
abbrev pub GivesAs : {A B : Type 0} → (A → B) → Result A TextFault → Result B TextFault → Type 0
GivesAs view (Ok x) expected = expected ≡ Ok (view x)
GivesAs view (Err OutOfMemory) expected = Unit {0}
GivesAs view (Err fault) expected = expected ≡ Err fault
