-- What the fields of a message text are, without the way in which they are found (ICAO Doc 4444,
-- appendix 3, structure and punctuation).
use Rattle.std.specs.Prelude.{◌≡◌, ℕ, ◌<◌, true, false, not, ◌==◌, List, [], ◌∷◌, ◌++◌, length, All}
use Rattle.std.specs.List.{list_all, join_with_byte, AllByRecursion}
use Rattle.fpl_text.specs.Fields.{is_bracket}

-- At least one text, none with a hyphen, whose join by hyphens is in the one pair of brackets.
pub record AreFields (text : List ℕ) (fields : List (List ℕ)) : Type 0 where
  pub some : 0 < length fields
  pub no_hyphen : AllByRecursion (All (λ b. (b == 45) ≡ false)) fields
  pub no_bracket : list_all (λ b. not (is_bracket b)) (join_with_byte 45 fields) ≡ true
  pub spelled : text ≡ 40 ∷ join_with_byte 45 fields ++ 41 ∷ []
