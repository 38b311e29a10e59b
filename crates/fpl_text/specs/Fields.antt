-- The fields of a message, separated by hyphens in one pair of brackets, and how many each kind of
-- message has (ICAO Doc 4444, appendix 3, structure and punctuation, and the fields of FPL, DLA,
-- CHG, CNL and DEP).
use Rattle.std.specs.Prelude.{ℕ, ◌-◌, Bool, not, ◌==◌, ◌&&◌, ◌||◌, nat_le, nat_lt, nat_eq, if◌then◌else◌, List, [], length, slice_index, slice_index_or, slice_range, Option, Some, None, Result, Ok, Err, codes}
use Rattle.std.specs.List.{list_all, slice_split, starts_with}
use Rattle.fpl_text.specs.declared.fault.TextFault.{TextFault}
use Rattle.fpl_text.specs.declared.fault.TextFault.TheVariants.{NoBracket, UnknownTitle, FieldCount}
use Rattle.fpl_text.specs.declared.fields.Title.{Title}
use Rattle.fpl_text.specs.declared.fields.Title.TheVariants.{Fpl, Dla, Chg, Cnl, Dep}
use Rattle.fpl_text.specs.Bytes.{is_digit}
use Rattle.fpl_text.specs.Squeezing.{squeezed_or_fault}

unfoldable pub is_bracket : ℕ → Bool
is_bracket b = (b == 40) || (b == 41)

-- what is between the first and the last byte
abbrev pub inside : List ℕ → List ℕ
inside text = slice_range text 1 (length text - 1)

-- an opening bracket first, and a closing one last
unfoldable pub stands_in_brackets : List ℕ → Bool
stands_in_brackets text =
    nat_le 2 (length text) && (slice_index text 0 == 40) && (slice_index text (length text - 1) == 41)

-- and no other bracket
unfoldable pub is_bracketed : List ℕ → Bool
is_bracketed text = stands_in_brackets text && list_all (λ b. not (is_bracket b)) (inside text)

-- what is between the brackets, cut at its hyphens
unfoldable pub fields_of : List ℕ → List (List ℕ)
fields_of text = slice_split (λ b. b == 45) (inside text)

abbrev pub first_field : List (List ℕ) → List ℕ
first_field fields = slice_index_or fields 0 []

-- the title with which a first field begins
unfoldable pub title_of : List ℕ → Option Title
title_of field =
    if starts_with nat_eq field (codes "FPL") then Some Fpl
    else (if starts_with nat_eq field (codes "DLA") then Some Dla
    else (if starts_with nat_eq field (codes "CHG") then Some Chg
    else (if starts_with nat_eq field (codes "CNL") then Some Cnl
    else (if starts_with nat_eq field (codes "DEP") then Some Dep
    else None))))

-- an amended field begins with a number of one or two digits and a stroke
unfoldable pub begins_amendment : List ℕ → Bool
begins_amendment field =
    is_digit (slice_index field 0)
    && ((slice_index field 1 == 47) || (is_digit (slice_index field 1) && (slice_index field 2 == 47)))

-- a message of this title may have this many fields
abbrev pub has_its_fields : Title → List (List ℕ) → Bool
has_its_fields Fpl fields = length fields == 9
has_its_fields Chg fields =
    nat_lt 5 (length fields) || ((length fields == 5) && begins_amendment (slice_index_or fields 4 []))
has_its_fields Dla fields = (length fields == 4) || (length fields == 5)
has_its_fields Cnl fields = (length fields == 4) || (length fields == 5)
has_its_fields Dep fields = (length fields == 4) || (length fields == 5)

abbrev pub counted_fields : Option Title → List (List ℕ) → Result (List (List ℕ)) TextFault
counted_fields None fields = Err UnknownTitle
counted_fields (Some title) fields = if has_its_fields title fields then Ok fields else Err FieldCount

-- the fields of a squeezed text, or its first fault
unfoldable pub fields_or_fault : List ℕ → Result (List (List ℕ)) TextFault
fields_or_fault text =
    if is_bracketed text then counted_fields (title_of (first_field (fields_of text))) (fields_of text)
    else Err NoBracket

abbrev pub fields_of_squeezed : Result (List ℕ) TextFault → Result (List (List ℕ)) TextFault
fields_of_squeezed (Ok text) = fields_or_fault text
fields_of_squeezed (Err fault) = Err fault

-- the fields of a text, or its first fault
unfoldable pub split_or_fault : List ℕ → Result (List (List ℕ)) TextFault
split_or_fault text = fields_of_squeezed (squeezed_or_fault text)
