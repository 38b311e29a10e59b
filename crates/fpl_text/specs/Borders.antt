-- Where the fields of a message begin and end: each is between two borders, which are the brackets
-- and the hyphens.
use Rattle.std.specs.Prelude.{◌≡◌, ℕ, ◌+◌, ◌-◌, ◌<◌, ◌≤◌, ◌==◌, if◌then◌else◌, true, List, [], ◌∷◌, length, take, slice_index, slice_get, slice_range, Some}
use Rattle.std.specs.List.{slice_split, count_by}
use Rattle.fpl_text.specs.Bytes.{is_border}
use Rattle.fpl_text.specs.Fields.{is_bracket, is_bracketed, fields_of, first_field, title_of, has_its_fields}
use Rattle.fpl_text.specs.declared.squeezed.Borders.{Borders}
use Rattle.fpl_text.specs.declared.fields.Title.{Title}

-- the parts into which hyphens cut a text
abbrev pub parts : List ℕ → List (List ℕ)
parts inside = slice_split (λ b. b == 45) inside

-- a part is between two borders, whose offsets are counted from the opening bracket
pub record StandsBetween (inside : List ℕ) (place before after : ℕ) : Type 0 where
  pub part : slice_get (parts inside) place ≡ Some (slice_range inside before (after - 1))
  pub order : before < after
  pub bound : after ≤ length inside + 1

-- the first parts are between consecutive borders of this list
abbrev pub AreBorders : List ℕ → List ℕ → Type 0
AreBorders inside borders =
    (place : ℕ) → place + 1 < length borders
    → StandsBetween inside place (slice_index borders place) (slice_index borders (place + 1))

-- the offsets of a text's borders, if its first byte is at offset `from`
abbrev pub border_places : ℕ → List ℕ → List ℕ
border_places from [] = []
border_places from (b ∷ text) =
    if is_border b then from ∷ border_places (from + 1) text else border_places (from + 1) text

-- These are the borders of a text: the offsets of the first `most`, how many others there are, and
-- how many are brackets.
pub record IsNoted (text : List ℕ) (most : ℕ) (borders : Borders) : Type 0 where
  pub places : borders.places.items ≡ take most (border_places 0 text)
  pub others : borders.others ≡ length (border_places 0 text) - most
  pub brackets : borders.brackets ≡ count_by is_bracket text

-- a text in one pair of brackets has this title, and a number of fields that the title allows
pub record IsMessage (text : List ℕ) (title : Title) : Type 0 where
  pub bracketed : is_bracketed text ≡ true
  pub titled : title_of (first_field (fields_of text)) ≡ Some title
  pub allowed : has_its_fields title (fields_of text) ≡ true
