-- What the items of field 18 are, by its words (ICAO Doc 4444, appendix 3, field type 18).
use Rattle.std.specs.Prelude.{◌≡◌, ℕ, ◌≤◌, true, not, List, [], ◌∷◌, ◌++◌, length, slice_index}
use Rattle.std.specs.List.{list_all}
use Rattle.fpl_text.specs.Bytes.{is_letter, is_letter_or_digit}
use Rattle.fpl_items.specs.Items.{ItemView, begins_item}

-- a word, unless it is empty
abbrev pub word_if_any : List ℕ → List (List ℕ)
word_if_any [] = []
word_if_any (b ∷ word) = (b ∷ word) ∷ []

-- The first of these words is the item's name, a stroke, and the item's first word, if it follows;
-- the others are its further words, of which none begins an item.
pub record SpellsItem (item : ItemView) (words : List (List ℕ)) : Type 0 where
  pub own : List ℕ
  pub others : List (List ℕ)
  pub some : 2 ≤ length item.name
  pub most : length item.name ≤ 9
  pub letter : is_letter (slice_index item.name 0) ≡ true
  pub name : list_all is_letter_or_digit item.name ≡ true
  pub none_begins : list_all (λ word. not (begins_item word)) others ≡ true
  pub words_are : item.words ≡ word_if_any own ++ others
  pub spelled : words ≡ (item.name ++ (47 ∷ own)) ∷ others

-- the words are those of the items, one after the other
abbrev pub SpellItems : List ItemView → List (List ℕ) → Type 0
SpellItems [] words = words ≡ []
SpellItems (item ∷ items) words =
    (first : List (List ℕ)) × (rest : List (List ℕ)) × SpellsItem item first × SpellItems items rest × (words ≡ first ++ rest)

-- no words, or the first begins an item
abbrev pub BeginWithItem : List (List ℕ) → Type 0
BeginWithItem [] = Unit {0}
BeginWithItem (word ∷ words) = begins_item word ≡ true
