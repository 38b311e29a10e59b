-- An input as its frames are taken from it.
use Rattle.std.specs.Prelude.{◌≡◌, ◌+◌, ◌-◌, ◌^◌, min, length, ℕ, Bool, List, [], Option, Some, None, Result, Ok, Err}
use Rattle.flow_input.specs.Frames.{Cut, first_cut}
use Rattle.flow_input.specs.NextFrame.{filing_in, filing_of}
use Rattle.fpl_message.specs.Filings.{FilingView}
use Rattle.flow_input.specs.declared.fault.IntakeFault.{IntakeFault}
use Rattle.flow_input.specs.declared.fault.IntakeFault.TheVariants as fault
use Rattle.flow_input.specs.declared.intake.Frame.{Frame}
use Rattle.flow_input.specs.declared.intake.Frame.TheVariants.{Whole}

-- the known bytes of which no frame was taken yet, how many bytes were taken, how many calls of the
-- reader failed, whether the input has ended, and whether it has failed
pub record IntakeView : Type 0 where
  pub left : Option (List ℕ)
  pub taken : ℕ
  pub failures : ℕ
  pub ended : Bool
  pub failed : Bool

-- the number of failed calls after one more: it stays at its maximum
abbrev pub counted_up : ℕ → ℕ
counted_up failures = min (failures + 1) (2 ^ 64 - 1)

-- how many calls of the reader have failed after a call that ended with this fault
abbrev pub failures_with : IntakeFault → ℕ → ℕ
failures_with fault.Read before = counted_up before
failures_with fault.TooMuch before = before
failures_with fault.OutOfMemory before = before

-- the same after a call with this result: one more only if the reader failed
abbrev pub failures_after : {T : Type 0} → Result T IntakeFault → ℕ → ℕ
failures_after (Ok x) before = before
failures_after (Err e) before = failures_with e before

-- the frame is the first of the bytes, and what is left is the rest; or there is none, and nothing
-- is left
abbrev pub IsFirst : {A : Type 0} → Option (Frame A) → List ℕ → List ℕ → Type 0
IsFirst None old new = (first_cut old ≡ None) × (new ≡ [])
IsFirst (Some frame) old new = (c : Cut) × (first_cut old ≡ Some c) × (new ≡ c.rest) × (filing_in frame ≡ filing_of c.frame)

-- the same if the bytes are known
abbrev pub CutsFirst : {A : Type 0} → Option (Frame A) → Option (List ℕ) → Option (List ℕ) → Type 0
CutsFirst frame None new = Unit {0}
CutsFirst frame (Some old) None = ⊥
CutsFirst frame (Some old) (Some new) = IsFirst frame old new

-- the first frame of the bytes, one that isn't too long, was taken, and what is left is the rest
abbrev pub MissesFirst : Option (List ℕ) → Option (List ℕ) → Type 0
MissesFirst old new = (filing : FilingView) × CutsFirst {A = Unit {0}} (Some (Whole filing)) old new

-- the same number of bytes, if they are known
abbrev pub SameTotal : ℕ → Option (List ℕ) → ℕ → Option (List ℕ) → Type 0
SameTotal n None m new = Unit {0}
SameTotal n (Some old) m None = ⊥
SameTotal n (Some old) m (Some new) = m + length new ≡ n + length old

-- what was taken and what is left are as many bytes as before, if they are known
abbrev pub KeepsTotal : IntakeView → IntakeView → Type 0
KeepsTotal old new = SameTotal old.taken old.left new.taken new.left
