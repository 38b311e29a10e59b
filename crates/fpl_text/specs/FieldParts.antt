-- Fields 3, 7 and 9 by their parts, one after the other, without the way in which these are found
-- (ICAO Doc 4444, appendix 3, field types 3, 7 and 9).
use Rattle.std.specs.Prelude.{◌≡◌, ℕ, ◌+◌, ◌-◌, ◌*◌, ◌≤◌, true, List, [], ◌∷◌, ◌++◌, length, Option, Some, None, codes}
use Rattle.std.specs.List.{list_all}
use Rattle.fpl_text.specs.declared.fields.Title.{Title}
use Rattle.fpl_text.specs.declared.fields.Title.TheVariants.{Fpl, Dla, Chg, Cnl, Dep}
use Rattle.fpl_text.specs.declared.heading.Heading.{Heading}
use Rattle.fpl_text.specs.declared.ident.Ident.{Ident}
use Rattle.fpl_text.specs.declared.craft.Craft.{Craft}
use Rattle.fpl_text.specs.Bytes.{is_letter, is_digit, is_letter_or_digit}
use Rattle.fpl_text.specs.Places.{is_octal, octal_number}
use Rattle.fpl_text.specs.Craft.{is_craft_kind, wake_of}

-- one or two digits, and the number that they are
abbrev pub AreOneOrTwo : List ℕ → ℕ → Type 0
AreOneOrTwo [] n = ⊥
AreOneOrTwo (a ∷ []) n = (is_digit a ≡ true) × (n ≡ a - 48)
AreOneOrTwo (a ∷ b ∷ []) n = (is_digit a ≡ true) × (is_digit b ≡ true) × (n ≡ 10 * (a - 48) + (b - 48))
AreOneOrTwo (a ∷ b ∷ c ∷ digits) n = ⊥

-- no digits if there is no number, else its one or two digits
abbrev pub SpellsCount : Option ℕ → List ℕ → Type 0
SpellsCount None digits = digits ≡ []
SpellsCount (Some n) digits = AreOneOrTwo digits n

-- no text if there is no transponder code, else a stroke, an A and its four octal digits
abbrev pub SpellsCode : Option ℕ → List ℕ → Type 0
SpellsCode None text = text ≡ []
SpellsCode (Some n) text =
    (digits : List ℕ) × (text ≡ 47 ∷ 65 ∷ digits) × (length digits ≡ 4) × (list_all is_octal digits ≡ true) × (n ≡ octal_number digits)

-- field 7: a name of 1 to 7 letters or digits, and optionally a transponder code
pub record IsIdent (text : List ℕ) (ident : Ident) : Type 0 where
  pub code_text : List ℕ
  pub name : list_all is_letter_or_digit ident.name ≡ true
  pub some : 1 ≤ length ident.name
  pub most : length ident.name ≤ 7
  pub code : SpellsCode ident.code code_text
  pub spelled : text ≡ ident.name ++ code_text

-- field 9: the number of aircraft if it is given, their type, a stroke, and the letter of a wake
-- turbulence category
pub record IsCraft (text : List ℕ) (craft : Craft) : Type 0 where
  pub digits : List ℕ
  pub letter : ℕ
  pub number : SpellsCount craft.number digits
  pub kind : is_craft_kind craft.kind ≡ true
  pub wake : wake_of letter ≡ Some craft.wake
  pub spelled : text ≡ digits ++ (craft.kind ++ (47 ∷ letter ∷ []))

-- a message number: the sending unit, a stroke, the receiving unit, and three digits
pub record IsMessageNumber (text : List ℕ) : Type 0 where
  pub sender : List ℕ
  pub receiver : List ℕ
  pub digits : List ℕ
  pub sender_letters : list_all is_letter sender ≡ true
  pub receiver_letters : list_all is_letter receiver ≡ true
  pub digits_are : list_all is_digit digits ≡ true
  pub sender_some : 1 ≤ length sender
  pub sender_most : length sender ≤ 4
  pub receiver_some : 1 ≤ length receiver
  pub receiver_most : length receiver ≤ 4
  pub three : length digits ≡ 3
  pub spelled : text ≡ sender ++ (47 ∷ (receiver ++ digits))

-- no message number, or one
abbrev pub SpellsNumber : Option (List ℕ) → List ℕ → Type 0
SpellsNumber None text = text ≡ []
SpellsNumber (Some number) text = (text ≡ number) × IsMessageNumber number

abbrev pub title_text : Title → List ℕ
title_text Fpl = codes "FPL"
title_text Dla = codes "DLA"
title_text Chg = codes "CHG"
title_text Cnl = codes "CNL"
title_text Dep = codes "DEP"

-- field 3: a title, optionally a message number, and after a number optionally the one to which it
-- refers
pub record IsHeading (text : List ℕ) (heading : Heading) : Type 0 where
  pub number_text : List ℕ
  pub reference_text : List ℕ
  pub number : SpellsNumber heading.number number_text
  pub reference : SpellsNumber heading.reference reference_text
  pub behind : heading.number ≡ None → heading.reference ≡ None
  pub spelled : text ≡ title_text heading.title ++ (number_text ++ reference_text)
