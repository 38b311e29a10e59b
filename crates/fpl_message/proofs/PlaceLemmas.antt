-- The offset of the first byte in a text that no message has.
use Rattle.std.proofs.Common.{◌≡◌, ◌<◌, ◌≤◌, ◌+◌, ℕ, Bool, true, false, cond, List, [], ◌∷◌, length, refl, arith, Option, Some, None}
use Rattle.std.specs.Prelude.{not, if◌then◌else◌, Ok, Err}
use Rattle.std.specs.List.{list_all, position_from}
use Rattle.fpl_text.specs.declared.fault.TextFault.{TextFault}
use Rattle.fpl_text.specs.declared.fault.TextFault.TheVariants as text
use Rattle.fpl_text.specs.Bytes.{is_blank, is_accepted}
use Rattle.fpl_text.specs.Squeezing.{squeezed_unless, squeezed_or_fault, GivesAs}
use Rattle.fpl_text.specs.declared.fields.Title.{Title}
use Rattle.fpl_text.specs.Fields.{is_bracketed, fields_of, first_field, title_of, has_its_fields, counted_fields, fields_or_fault}
use Rattle.fpl_message.specs.declared.fault.Fault.TheVariants.{OutOfMemory}
use Rattle.fpl_message.specs.Refusals.{PlaceFits, text_fault}

-- what is found in a list lies within it
position_from-below : {X : Type 0} (test : X → Bool) (i : ℕ) (xs : List X) (place : ℕ) → position_from test i xs ≡ Some place → place < i + length xs
position_from-below test i [] place e = absurd cc
position_from-below test i (x ∷ xs) place e = at (test x) (position_from-below test (i + 1) xs place) e
  where
    at : (here : Bool) → (position_from test (i + 1) xs ≡ Some place → place < i + 1 + length xs)
        → cond here (Some i) (position_from test (i + 1) xs) ≡ Some place → place < i + length (x ∷ xs)
    at true later found = let same : i ≡ place = cc in omega arith
    at false later found = omega (arith, later found)

bad-below : (bytes : List ℕ) (place : ℕ) → squeezed_or_fault bytes ≡ Err (text.BadByte place) → place < length bytes
unfolding squeezed_or_fault
bad-below bytes place e = at (list_all is_blank bytes) (position_from (λ b. not (is_accepted b)) 0 bytes) refl e
  where
    at : (blank : Bool) (found : Option ℕ) → position_from (λ b. not (is_accepted b)) 0 bytes ≡ found
        → (if blank then Err text.Empty else squeezed_unless found bytes) ≡ Err (text.BadByte place) → place < length bytes
    at true found is fault = absurd cc
    at false None is fault = absurd cc
    at false (Some p) is fault = omega (arith, position_from-below (λ b. not (is_accepted b)) 0 bytes place cc)

-- the offset of a byte that no message has, in at most 2,000 bytes, is stored in 16 bits
pub squeezed-fits : {A : Type 0} (view : A → List ℕ) (bytes : List ℕ) (fault : TextFault) → length bytes ≤ 2000 → GivesAs view (Err fault) (squeezed_or_fault bytes) → PlaceFits fault
squeezed-fits view bytes text.Empty few e = tt
squeezed-fits view bytes (text.BadByte place) few e = omega (arith, bad-below bytes place e)
squeezed-fits view bytes text.NoBracket few e = tt
squeezed-fits view bytes text.UnknownTitle few e = tt
squeezed-fits view bytes text.FieldCount few e = tt
squeezed-fits view bytes text.OutOfMemory few e = tt

-- a squeezed text is not refused for a byte
not-bad : (bytes : List ℕ) (place : ℕ) → fields_or_fault bytes ≡ Err (text.BadByte place) → ⊥
unfolding fields_or_fault
not-bad bytes place e = at (is_bracketed bytes) (title_of (first_field (fields_of bytes))) e
  where
    counted : (enough : Bool) → (if enough then Ok (fields_of bytes) else Err text.FieldCount) ≡ Err (text.BadByte place) → ⊥
    counted true e = cc
    counted false e = cc

    at : (bracketed : Bool) (title : Option Title)
        → (if bracketed then counted_fields title (fields_of bytes) else Err text.NoBracket) ≡ Err (text.BadByte place) → ⊥
    at false title e = cc
    at true None e = cc
    at true (Some title) e = counted (has_its_fields title (fields_of bytes)) e

pub fields-fit : (bytes : List ℕ) (fault : TextFault) → fields_or_fault bytes ≡ Err fault → PlaceFits fault
fields-fit bytes text.Empty e = tt
fields-fit bytes (text.BadByte place) e = absurd (not-bad bytes place e)
fields-fit bytes text.NoBracket e = tt
fields-fit bytes text.UnknownTitle e = tt
fields-fit bytes text.FieldCount e = tt
fields-fit bytes text.OutOfMemory e = tt

-- nor for a failed allocation
not-memory : (bytes : List ℕ) → fields_or_fault bytes ≡ Err text.OutOfMemory → ⊥
unfolding fields_or_fault
not-memory bytes e = at (is_bracketed bytes) (title_of (first_field (fields_of bytes))) e
  where
    counted : (enough : Bool) → (if enough then Ok (fields_of bytes) else Err text.FieldCount) ≡ Err text.OutOfMemory → ⊥
    counted true e = cc
    counted false e = cc

    at : (bracketed : Bool) (title : Option Title)
        → (if bracketed then counted_fields title (fields_of bytes) else Err text.NoBracket) ≡ Err text.OutOfMemory → ⊥
    at false title e = cc
    at true None e = cc
    at true (Some title) e = counted (has_its_fields title (fields_of bytes)) e

pub fields-told : (bytes : List ℕ) (fault : TextFault) → fields_or_fault bytes ≡ Err fault → text_fault fault ≡ OutOfMemory → ⊥
fields-told bytes text.Empty e told = cc
fields-told bytes (text.BadByte place) e told = cc
fields-told bytes text.NoBracket e told = cc
fields-told bytes text.UnknownTitle e told = cc
fields-told bytes text.FieldCount e told = cc
fields-told bytes text.OutOfMemory e told = not-memory bytes e
