-- Field 22 by the parts that it is, one after the other (ICAO Doc 4444, appendix 3, field type 22).
use Rattle.std.specs.Prelude.{◌≡◌, ℕ, List, ◌∷◌, ◌++◌}
use Rattle.fpl_text.specs.FieldParts.{AreOneOrTwo}

-- the one or two digits of the number of a field, a stroke, and the amended text of that field
pub record IsAmendment (field : List ℕ) (number : ℕ) (text : List ℕ) : Type 0 where
  pub digits : List ℕ
  pub number_is : AreOneOrTwo digits number
  pub spelled : field ≡ digits ++ (47 ∷ text)
