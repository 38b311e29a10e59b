-- How far a pass over a text has squeezed it.
use Rattle.std.specs.Prelude.{◌≡◌, ◌≤◌, ◌+◌, ℕ, Bool, true, false, not, if◌then◌else◌, List, [], ◌∷◌, ◌++◌, length, take, drop, None}
use Rattle.std.specs.List.{position_from}
use Rattle.fpl_text.specs.Bytes.{is_blank, is_accepted}
use Rattle.fpl_text.specs.Squeezing.{squeezed, space_between}

-- what a pass appends for the rest of a text, after the byte `before`, and after blanks or not
unfoldable pub appended : Bool → ℕ → List ℕ → List ℕ
appended blank before [] = []
appended blank before (b ∷ text) =
    if is_blank b then appended true before text else space_between blank before b ++ (b ∷ appended false b text)

abbrev pub is_bad : ℕ → Bool
is_bad b = not (is_accepted b)

-- a border, or a byte that is none: no space is kept beside the one, and one is beside the other
abbrev pub border_or_other : Bool → ℕ
border_or_other border = if border then 45 else 32

-- A pass has read the first `place` bytes of a text, all accepted. If all others are accepted, too,
-- the first `made` bytes of `out` are what it has kept, and `border` says whether the last of these
-- is a border. The bytes of a look fit after as many as are read.
pub record IsPass (text out : List ℕ) (place made : ℕ) (border : Bool) : Type 0 where
  pub whole : position_from is_bad 0 text ≡ None → take made out ++ appended false (border_or_other border) (drop place text) ≡ squeezed text
  pub accepted : position_from is_bad place (drop place text) ≡ position_from is_bad 0 text
  pub room : made ≤ place
  pub within : place ≤ length text
  pub long : length text + 64 ≤ length out
