-- A field that is a name alone.
use Rattle.std.proofs.Common.{◌≡◌, ◌&&◌, ℕ, Bool, true, List, [], ◌∷◌, length, leb, refl, arith}
use Rattle.std.specs.Prelude.{Some, None}
use Rattle.std.specs.List.{list_all, prefix_len}
use Rattle.std.proofs.lemmas.Bool.{and_parts, le-leb, leb-true}
use Rattle.std.proofs.lemmas.List.{take_all, drop_all}
use Rattle.fpl_text.specs.Bytes.{is_letter_or_digit}
use Rattle.fpl_text.specs.Places.{ident_of, transponder_of}

prefix-whole : (p : ℕ → Bool) (text : List ℕ) → list_all p text ≡ true → prefix_len p text ≡ length text
prefix-whole p [] h = refl
prefix-whole p (b ∷ text) h =
    let parts = and_parts (p b) (list_all p text) h in
    let rest = prefix-whole p text parts.1 in
    rw parts.0 (omega (arith, rest))

no-code : transponder_of [] ≡ Some None
unfolding transponder_of
no-code = refl

pub name-alone : (text : List ℕ) → (leb 4 (length text) && (leb (length text) 7 && list_all is_letter_or_digit text)) ≡ true
    → ident_of text ≡ Some (record { name = text; code = None })
unfolding ident_of
name-alone text h =
    let long = and_parts (leb 4 (length text)) _ h in
    let short = and_parts (leb (length text) 7) (list_all is_letter_or_digit text) long.1 in
    let whole = prefix-whole is_letter_or_digit text short.1 in
    let some : leb 1 (length text) ≡ true = le-leb 1 (length text) (omega (arith, leb-true 4 (length text) long.0)) in
    rw (whole, some, short.0, take_all (length text) text (omega arith), drop_all (length text) text (omega arith), no-code) refl
