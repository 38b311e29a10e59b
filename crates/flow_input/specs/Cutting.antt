-- How far an input has been split into frames.
use Rattle.std.specs.Prelude.{◌≡◌, ◌+◌, ◌<◌, false, ℕ, List, ◌++◌, length, Option}
use Rattle.std.specs.Io.KnownBytes.{Consumes}
use Rattle.flow_input.specs.Frames.{frames, ended_frames}
use Rattle.flow_input.specs.Reader.{InputView}
use Rattle.flow_input.specs.declared.input.TheConstants.{MAX_INPUT}

-- these frames are the first of the bytes read, and stay so however the input continues
pub record Cutting (done : List (List ℕ)) (ahead : InputView) (input rest : Option (List ℕ)) : Type 0 where
  pub read : List ℕ
  pub consumed : Consumes input rest read
  pub count : length read ≡ ahead.taken + length ahead.unread
  pub whole : frames read ≡ done ++ frames ahead.unread
  pub goes_on : ahead.ended ≡ false → (more : List ℕ) → (frames (read ++ more) ≡ done ++ frames (ahead.unread ++ more)) × (ended_frames (read ++ more) ≡ done ++ ended_frames (ahead.unread ++ more))

-- these are the first frames of what was read
pub record CutFront (done : List (List ℕ)) (input rest : Option (List ℕ)) : Type 0 where
  pub read : List ℕ
  pub consumed : Consumes input rest read
  pub others : List (List ℕ)
  pub whole : frames read ≡ done ++ others

-- these are exactly the frames that had ended in what was read
pub record CutEnded (done : List (List ℕ)) (input rest : Option (List ℕ)) : Type 0 where
  pub read : List ℕ
  pub consumed : Consumes input rest read
  pub whole : ended_frames read ≡ done

-- more bytes were read than an input may have
pub record Overrun (input rest : Option (List ℕ)) : Type 0 where
  pub read : List ℕ
  pub consumed : Consumes input rest read
  pub long : MAX_INPUT < length read
