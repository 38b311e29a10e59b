-- The words of a squeezed text, which its spaces separate.
use Rattle.std.specs.Prelude.{◌≡◌, ◌≤◌, ◌<◌, ◌+◌, ◌-◌, ℕ, Bool, not, ◌==◌, ◌&&◌, ◌||◌, nat_le, if◌then◌else◌, List, [], ◌∷◌, length, slice_index, take, drop, true, false, is_some, Option, Some, None}
use Rattle.std.specs.List.{slice_split, list_all}
use Rattle.fpl_text.specs.Bytes.{is_letter}
use Rattle.fpl_text.specs.Times.{elapsed_time}

-- what spaces separate in a text; an empty text has no word
unfoldable pub words_of : List ℕ → List (List ℕ)
words_of text = if length text == 0 then [] else slice_split (λ b. b == 32) text

-- the words from an offset on; none beyond the end of the text
abbrev pub words_from : List ℕ → ℕ → List (List ℕ)
words_from text from = if nat_le from (length text) then slice_split (λ b. b == 32) (drop from text) else []

-- the lanes from `place` on hold a word and the space after it, or the word up to the last lane
pub record HoldWord (lanes : List ℕ) (place : ℕ) (word : List ℕ) : Type 0 where
  pub inside : place + length word ≤ 16
  pub same : (k : ℕ) → k < length word → slice_index lanes (place + k) ≡ slice_index word k
  pub space : place + length word < 16 → slice_index lanes (place + length word) ≡ 32

-- a word of four letters and an elapsed time
pub record IsFourLetterEstimate (word : List ℕ) : Type 0 where
  pub long : length word ≡ 8
  pub place : list_all is_letter (take 4 word) ≡ true
  pub time : is_some (elapsed_time (drop 4 word)) ≡ true

-- a text doesn't have this byte
abbrev pub lacks : ℕ → List ℕ → Bool
lacks byte text = list_all (λ b. not (b == byte)) text

-- a name may begin at an offset: one of three bytes, and a stroke as the third byte after it
abbrev pub may_begin : ℕ → ℕ → ℕ → List ℕ → ℕ → Bool
may_begin a b c text at_place =
    (slice_index text (at_place + 3) == 47)
    && ((slice_index text at_place == a) || (slice_index text at_place == b) || (slice_index text at_place == c))

-- the first such offset at or after another, if there is one
abbrev pub IsNextName : ℕ → ℕ → ℕ → List ℕ → ℕ → Option ℕ → Type 0
IsNextName a b c text from None = (k : ℕ) → from ≤ k → may_begin a b c text k ≡ false
IsNextName a b c text from (Some at_place) =
    (from ≤ at_place) × (at_place + 3 < length text) × (may_begin a b c text at_place ≡ true)
    × ((k : ℕ) → from ≤ k → k < at_place → may_begin a b c text k ≡ false)

-- a word at or after `from`, where one begins, begins at this offset
abbrev pub begins_word : List ℕ → ℕ → ℕ → Bool
begins_word text from at_place = (at_place == from) || (slice_index text (at_place - 1) == 32)

-- a text begins with this name of three bytes, and a stroke
abbrev pub is_named : List ℕ → List ℕ → Bool
is_named name text =
    (slice_index text 0 == slice_index name 0) && (slice_index text 1 == slice_index name 1)
    && (slice_index text 2 == slice_index name 2) && (slice_index text 3 == 47)

-- a text begins with one of three names, and a stroke
abbrev pub is_one_of : List ℕ → List ℕ → List ℕ → List ℕ → Bool
is_one_of a b c text = is_named a text || is_named b text || is_named c text

-- the words from the first that begins with one of three names on
abbrev pub words_from_named : List ℕ → List ℕ → List ℕ → List (List ℕ) → List (List ℕ)
words_from_named a b c [] = []
words_from_named a b c (word ∷ words) = if is_one_of a b c word then word ∷ words else words_from_named a b c words

-- the same words, with the first bytes of the first one left out
abbrev pub without_first : ℕ → List (List ℕ) → List (List ℕ)
without_first count [] = []
without_first count (word ∷ words) = drop count word ∷ words
