-- How far serving has come, and how it can stop.
use Rattle.std.specs.Prelude.{◌≡◌, ◌≤◌, ℕ, List, ◌++◌, length, Option, Result, Ok, Err}
use Rattle.std.specs.Io.KnownBytes.{Appends, Consumes}
use Rattle.fpl_message.specs.Filings.{FilingView}
use Rattle.flow_input.specs.Frames.{frames, ended_frames}
use Rattle.flow_input.specs.Reader.{InputView, Agrees}
use Rattle.flow_input.specs.NextFrame.{GaveFirst, filing_of, filing_kept}
use Rattle.flow_input.specs.Cutting.{Cutting}
use Rattle.flow_input.specs.Writes.{AppendsFront}
use Rattle.flow_input.specs.Source.{counted_up}
use Rattle.flow_input.specs.declared.fault.IntakeFault.{IntakeFault}
use Rattle.flow_input.specs.declared.fault.IntakeFault.TheVariants as intake
use Rattle.flow_core.specs.State.{State}
use Rattle.flow_core.specs.Served.{served, answer_to, output, served_all}
use Rattle.flow_core.specs.declared.serving.ServeFault.{ServeFault}
use Rattle.flow_core.specs.declared.serving.ServeFault.TheVariants as fault

-- these bytes were appended, and perhaps more
abbrev pub AppendsMore : Option (List ℕ) → Option (List ℕ) → List ℕ → Type 0
AppendsMore old new bytes = (more : List ℕ) × Appends old new (bytes ++ more)

-- serving stopped: the first frames of the bytes read were served, and all of their output was
-- written, except for an end of what is said of the last one
pub record Stopped (first now : State) (begun written : Option (List ℕ)) (input rest : Option (List ℕ)) : Type 0 where
  pub read : List ℕ
  pub consumed : Consumes input rest read
  pub answered : List (List ℕ)
  pub last : List (List ℕ)
  pub others : List (List ℕ)
  pub whole : frames read ≡ answered ++ (last ++ others)
  pub one : length last ≤ 1
  pub state : now ≡ served_all first (answered ++ last)
  pub most : AppendsMore begun written (output first answered)
  pub front : AppendsFront begun written (output first (answered ++ last))

-- it stopped, but not since the writer failed: exactly the output of the frames that were served
-- was written
pub record Answered (first now : State) (begun written : Option (List ℕ)) (input rest : Option (List ℕ)) : Type 0 where
  pub read : List ℕ
  pub consumed : Consumes input rest read
  pub answered : List (List ℕ)
  pub others : List (List ℕ)
  pub whole : frames read ≡ answered ++ others
  pub state : now ≡ served_all first answered
  pub appended : Appends begun written (output first answered)

-- it stopped since the reader failed: exactly the frames that had ended in the bytes read were
-- served, and answered
pub record Starved (first now : State) (begun written : Option (List ℕ)) (input rest : Option (List ℕ)) : Type 0 where
  pub read : List ℕ
  pub consumed : Consumes input rest read
  pub state : now ≡ served_all first (ended_frames read)
  pub whole : Appends begun written (output first (ended_frames read))

-- the fault of serving for one of taking a frame
abbrev pub fault_of : IntakeFault → ServeFault
fault_of intake.Read = fault.Read
fault_of intake.TooMuch = fault.TooMuch
fault_of intake.OutOfMemory = fault.OutOfMemory

-- how many calls of the reader have failed after serving ended with this result: one more only if
-- it failed
abbrev pub reader_failures : Result (Unit {0}) ServeFault → ℕ → ℕ
reader_failures (Ok x) before = before
reader_failures (Err fault.Read) before = counted_up before
reader_failures (Err fault.TooMuch) before = before
reader_failures (Err fault.Write) before = before
reader_failures (Err fault.OutOfMemory) before = before

-- the same of the writer
abbrev pub writer_failures : Result (Unit {0}) ServeFault → ℕ → ℕ
writer_failures (Ok x) before = before
writer_failures (Err fault.Read) before = before
writer_failures (Err fault.TooMuch) before = before
writer_failures (Err fault.Write) before = counted_up before
writer_failures (Err fault.OutOfMemory) before = before

-- ---- one frame

-- whatever frame this is the filing of, it was served, and its output was appended
abbrev pub AnswersFrame : Option FilingView → State → State → Option (List ℕ) → Option (List ℕ) → Type 0
AnswersFrame filing old new before now = (frame : List ℕ) → filing ≡ filing_of frame → (new ≡ served old frame) × Appends before now (answer_to old frame)

-- it was served, and a prefix of its output was appended
abbrev pub AnswersPart : Option FilingView → State → State → Option (List ℕ) → Option (List ℕ) → Type 0
AnswersPart filing old new before now = (frame : List ℕ) → filing ≡ filing_of frame → (new ≡ served old frame) × AppendsFront before now (answer_to old frame)

-- ---- in the middle of serving

-- the frames that were served were taken from the beginning of the input, and their output was
-- written
pub record Serving (first now : State) (begun written : Option (List ℕ)) (ahead : InputView) (input rest : Option (List ℕ)) : Type 0 where
  pub done : List (List ℕ)
  pub cutting : Cutting done ahead input rest
  pub state : now ≡ served_all first done
  pub appended : Appends begun written (output first done)

-- frames were taken from the beginning of what is unread, they were served, and their output was
-- appended
pub record ServedMore (old new : State) (before now : Option (List ℕ)) (ahead left : InputView) (mid rest : Option (List ℕ)) : Type 0 where
  pub frames : List (List ℕ)
  pub cutting : (done : List (List ℕ)) (input : Option (List ℕ)) → Cutting done ahead input mid → Cutting (done ++ frames) left input rest
  pub state : new ≡ served_all old frames
  pub appended : Appends before now (output old frames)

-- serving has come this far, and the rest of the input is unchanged
abbrev pub ComesOn : State → State → Option (List ℕ) → Option (List ℕ) → InputView → InputView → Type 0
ComesOn old new before now ahead left = (rest : Option (List ℕ)) → Agrees ahead rest → ServedMore old new before now ahead left rest rest

-- or it has stopped there
abbrev pub StopsOn : State → State → Option (List ℕ) → Option (List ℕ) → InputView → Type 0
StopsOn old new before now ahead = (first : State) (begun input rest : Option (List ℕ)) → Agrees ahead rest → Serving first old begun before ahead input rest → Stopped first new begun now input rest

-- but not since the writer failed
abbrev pub IsAnsweredOn : State → State → Option (List ℕ) → Option (List ℕ) → InputView → Type 0
IsAnsweredOn old new before now ahead = (first : State) (begun input rest : Option (List ℕ)) → Agrees ahead rest → Serving first old begun before ahead input rest → Answered first new begun now input rest

-- ---- after a frame was taken

-- serving has advanced: that frame was served, and others that were whole
abbrev pub AnswersTaken : State → State → Option (List ℕ) → Option (List ℕ) → InputView → InputView → Type 0
AnswersTaken old new before now taken left = (ahead : InputView) (mid rest : Option (List ℕ)) → GaveFirst (filing_kept taken.item) ahead taken mid rest → Agrees taken rest
    → ServedMore old new before now ahead left mid rest

-- or it has stopped
abbrev pub StopsTaken : State → State → Option (List ℕ) → Option (List ℕ) → InputView → Type 0
StopsTaken old new before now taken = (ahead : InputView) (mid rest : Option (List ℕ)) → GaveFirst (filing_kept taken.item) ahead taken mid rest → Agrees taken rest
    → (first : State) (begun input : Option (List ℕ)) → Serving first old begun before ahead input mid → Stopped first new begun now input rest

-- but not since the writer failed
abbrev pub IsAnsweredTaken : State → State → Option (List ℕ) → Option (List ℕ) → InputView → Type 0
IsAnsweredTaken old new before now taken = (ahead : InputView) (mid rest : Option (List ℕ)) → GaveFirst (filing_kept taken.item) ahead taken mid rest → Agrees taken rest
    → (first : State) (begun input : Option (List ℕ)) → Serving first old begun before ahead input mid → Answered first new begun now input rest
