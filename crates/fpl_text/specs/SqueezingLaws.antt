-- What a squeezed text is, without the way in which it is made.
use Rattle.std.specs.Prelude.{◌≡◌, ℕ, Bool, true, not, ◌&&◌, List, [], ◌∷◌, ◌++◌}
use Rattle.std.specs.List.{filter}
use Rattle.fpl_text.specs.Bytes.{is_blank, is_border}
use Rattle.fpl_text.specs.Squeezing.{first_byte}

-- the bytes that are no blanks
abbrev pub unblanked : List ℕ → List ℕ
unblanked text = filter (λ b. not (is_blank b)) text

-- a byte of a word: neither a blank nor a hyphen or bracket
abbrev pub is_inner : ℕ → Bool
is_inner b = not (is_blank b) && not (is_border b)

-- after the byte `before`, each blank is a single space between two bytes of words
abbrev pub HasLoneSpaces : ℕ → List ℕ → Type 0
HasLoneSpaces before [] = Unit {0}
HasLoneSpaces before (b ∷ text) =
    (is_blank b ≡ true → (b ≡ 32) × (is_inner before ≡ true) × (is_inner (first_byte text) ≡ true)) × HasLoneSpaces b text

-- no blanks but spaces, no two of them adjacent, and none at the ends or beside a hyphen or a
-- bracket: the ends count as hyphens
abbrev pub IsSqueezed : List ℕ → Type 0
IsSqueezed text = HasLoneSpaces 45 text

-- in a text, `x` and `y` have just `between` between them, and on each side are the bytes of
-- `front` and of `rest` that are no blanks
pub record KeepsPair (text front rest between : List ℕ) (x y : ℕ) : Type 0 where
  pub left : List ℕ
  pub right : List ℕ
  pub whole : text ≡ left ++ (x ∷ (between ++ (y ∷ right)))
  pub before : unblanked left ≡ unblanked front
  pub after : unblanked right ≡ unblanked rest
