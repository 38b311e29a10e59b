-- What a writer was given.
use Rattle.std.specs.Prelude.{◌≡◌, ℕ, List, ◌++◌, Option, Some, None, Result, OnOk, OnErr}
use Rattle.std.specs.Io.KnownBytes.{Appends}
use Rattle.flow_input.specs.Source.{counted_up}
use Rattle.flow_input.specs.declared.counted.Counted.{Counted}

-- a prefix of the bytes was appended
abbrev pub AppendsFront : Option (List ℕ) → Option (List ℕ) → List ℕ → Type 0
AppendsFront None new bytes = Unit {0}
AppendsFront (Some old) None bytes = ⊥
AppendsFront (Some old) (Some new) bytes = (front : List ℕ) × (rest : List ℕ) × (bytes ≡ front ++ rest) × (new ≡ old ++ front)

-- what a call that writes a text leaves: after an `Ok` the text was written and no call of the
-- device failed, after an `Err` a prefix of the text was, and one call failed
pub record Writes {D T E : Type 0} (contents : D → Option (List ℕ)) (result : Result T E) (old new : Counted D) (text : List ℕ) : Type 0 where
  pub ok : OnOk result (Appends (contents old.device) (contents new.device) text)
  pub err : OnErr result (AppendsFront (contents old.device) (contents new.device) text)
  pub no_failure : OnOk result (new.failures ≡ old.failures)
  pub failed : OnErr result (new.failures ≡ counted_up old.failures)
