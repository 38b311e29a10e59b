-- What the elements of a route are, by the words of its field (ICAO Doc 4444, appendix 3, field
-- type 15).
use Rattle.std.specs.Prelude.{◌≡◌, ℕ, ◌+◌, ◌≤◌, true, List, [], ◌∷◌, ◌++◌, Some, slice_range}
use Rattle.fpl_items.specs.declared.route.Element.{Element}
use Rattle.fpl_items.specs.Kinds.{kind_of}
use Rattle.fpl_items.specs.Speeds.{is_speed, is_level}

-- Each element is one of the words, in order: its span is that of the word in the field, and it has
-- the first kind that fits.
abbrev pub AreElements : List ℕ → List (List ℕ) → List Element → Type 0
AreElements field [] [] = Unit {0}
AreElements field [] (element ∷ elements) = ⊥
AreElements field (word ∷ words) [] = ⊥
AreElements field (word ∷ words) (element ∷ elements) =
    (slice_range field element.from element.to ≡ word) × (kind_of word ≡ Some element.kind) × AreElements field words elements

-- No element begins before `from`, and each ends before the next one begins.
abbrev pub AreInOrder : ℕ → List Element → Type 0
AreInOrder from [] = Unit {0}
AreInOrder from (element ∷ elements) =
    (from ≤ element.from) × (element.from ≤ element.to) × AreInOrder (element.to + 1) elements

-- The word is this speed, and this level after it.
pub record IsSpeedThenLevel (word speed level : List ℕ) : Type 0 where
  pub speed_is : is_speed speed ≡ true
  pub level_is : is_level level ≡ true
  pub spelled : word ≡ speed ++ level
