-- What is read before the feeders start.
use Rattle.std.specs.Prelude.{◌≡◌, ◌⊎◌, ℕ, List, [], ◌∷◌, ◌++◌, length, take, nat_le, if◌then◌else◌, Option, None, IfSome}
use Rattle.std.specs.Io.KnownBytes.{Appends, Consumes}
use Rattle.fpl_message.specs.Filings.{FilingView}
use Rattle.flow_input.specs.Filings.{filings}
use Rattle.flow_input.specs.Frames.{frames, ended_frames}
use Rattle.flow_input.specs.Writes.{AppendsFront}
use Rattle.flow_input.specs.NextFrame.{filing_of}
use Rattle.flow_input.specs.Reader.{InputView}
use Rattle.flow_input.specs.Cutting.{Cutting}
use Rattle.flow_core.specs.Output.{too_long_line}
use Rattle.flow_runs.specs.declared.fault.RunFault.{RunFault}
use Rattle.flow_runs.specs.declared.fault.RunFault.TheVariants as fault
use Rattle.flow_runs.specs.Dealing.{AreDealt}
use Rattle.fpl_message.specs.declared.filing.TheConstants.{MAX_BYTES}

-- a line for each frame that is too long
unfoldable pub long_lines : List (List ℕ) → List ℕ
long_lines [] = []
long_lines (f ∷ fs) = if nat_le (length f) MAX_BYTES then long_lines fs else too_long_line ++ long_lines fs

-- of these frames the whole filings are dealt and counted, and for each of the others its line is
-- there
pub record HasRead (feeders : ℕ) (frames : List (List ℕ)) (feeds : List (List FilingView)) (count : ℕ) (begun written : Option (List ℕ)) : Type 0 where
  pub dealt : AreDealt feeders (filings frames) feeds
  pub counted : count ≡ length (filings frames)
  pub told : Appends begun written (long_lines frames)

-- whatever frame this is the filing of, it is the next that was read
abbrev pub ReadsNext : Option FilingView → List (List FilingView) → ℕ → List (List FilingView) → ℕ → Option (List ℕ) → Option (List ℕ) → Type 0
ReadsNext filing old count new longer before after =
    (feeders : ℕ) (frames : List (List ℕ)) (frame : List ℕ) (begun : Option (List ℕ)) → filing ≡ filing_of frame → HasRead feeders frames old count begun before → HasRead feeders (frames ++ frame ∷ []) new longer begun after

-- how far reading has come: these frames were taken from the beginning of the input
pub record Reading (feeders : ℕ) (feeds : List (List FilingView)) (count : ℕ) (begun written : Option (List ℕ)) (ahead : InputView) (input rest : Option (List ℕ)) : Type 0 where
  pub done : List (List ℕ)
  pub cutting : Cutting done ahead input rest
  pub has : HasRead feeders done feeds count begun written

-- ---- if reading ended with a fault

-- bytes were read of the input, and a line was written for each frame that is too long among their
-- first frames
pub record ToldFirst (begun written input rest : Option (List ℕ)) : Type 0 where
  pub read : List ℕ
  pub consumed : Consumes input rest read
  pub count : ℕ
  pub told : Appends begun written (long_lines (take count (frames read)))

-- the same, for exactly those frames that had ended in the bytes read
pub record ToldEnded (begun written input rest : Option (List ℕ)) : Type 0 where
  pub read : List ℕ
  pub consumed : Consumes input rest read
  pub told : Appends begun written (long_lines (ended_frames read))

-- bytes were read of the input, and a prefix of the lines for their frames that are too long was
-- written
pub record ToldFront (begun written input rest : Option (List ℕ)) : Type 0 where
  pub read : List ℕ
  pub consumed : Consumes input rest read
  pub told : AppendsFront begun written (long_lines (frames read))

-- what was written if reading ended with this fault
abbrev pub ToldUntil : RunFault → Option (List ℕ) → Option (List ℕ) → Option (List ℕ) → Option (List ℕ) → Type 0
ToldUntil fault.Read begun written input rest = ToldEnded begun written input rest
ToldUntil fault.TooMuch begun written input rest = ToldFirst begun written input rest
ToldUntil fault.Write begun written input rest = ToldFront begun written input rest
ToldUntil fault.OutOfMemory begun written input rest = ToldFirst begun written input rest
ToldUntil _ begun written input rest = ⊥

-- what was written for one frame, of which this is the filing, if the fault came with it
abbrev pub LeavesNext : RunFault → Option FilingView → Option (List ℕ) → Option (List ℕ) → Type 0
LeavesNext fault.Write filing before after = (filing ≡ None) × AppendsFront before after too_long_line
LeavesNext fault.OutOfMemory filing before after = after ≡ before
LeavesNext _ filing before after = ⊥

-- the same if the run ended before a feeder began: while the input was read, or by an allocation
-- failure after that
abbrev pub EndedBefore : RunFault → Option (List ℕ) → Option (List ℕ) → Option (List ℕ) → Option (List ℕ) → Type 0
EndedBefore why begun written input rest =
    ToldUntil why begun written input rest ⊎ ((why ≡ fault.OutOfMemory) × IfSome input (λ bytes. Appends begun written (long_lines (frames bytes))))
