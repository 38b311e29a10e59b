-- The output of a desk that is served an input, and its state after it.
use Rattle.std.specs.Prelude.{ℕ, List, [], ◌∷◌, ◌++◌, length, nat_le, nat_lt, if◌then◌else◌}
use Rattle.flow_input.specs.NextFrame.{second}
use Rattle.flow_core.specs.State.{State, Input}
use Rattle.flow_core.specs.Steps.{step}
use Rattle.flow_core.specs.Output.{answer_text, too_long_line, journal_full_line}
use Rattle.fpl_message.specs.declared.filing.TheConstants.{MAX_BYTES}

-- a frame as the filing of feeder 0
abbrev pub as_input : List ℕ → Input
as_input frame = record { feeder = 0; text = second frame }

-- the state after a frame: a frame that is too long gets no entry, nor does one at a full journal
unfoldable pub served : State → List ℕ → State
served s frame = if nat_le (length frame) MAX_BYTES then (if nat_lt (length s.journal) s.setup.max_entries then step s (as_input frame) else s) else s

-- and what is written for it
unfoldable pub answer_to : State → List ℕ → List ℕ
answer_to s frame =
    if nat_le (length frame) MAX_BYTES
    then (if nat_lt (length s.journal) s.setup.max_entries then answer_text (step s (as_input frame)) (length s.journal) else journal_full_line)
    else too_long_line

-- what is written for some frames, and the state after them
unfoldable pub output : State → List (List ℕ) → List ℕ
output s [] = []
output s (f ∷ fs) = answer_to s f ++ output (served s f) fs

unfoldable pub served_all : State → List (List ℕ) → State
served_all s [] = s
served_all s (f ∷ fs) = served_all (served s f) fs
