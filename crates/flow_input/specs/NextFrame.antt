-- What one call for a frame takes from the input.
use Rattle.std.specs.Prelude.{◌≡◌, ◌+◌, ℕ, length, nat_le, if◌then◌else◌, Bool, true, false, List, [], ◌++◌, Option, Some, None}
use Rattle.std.specs.Io.KnownBytes.{Consumes}
use Rattle.flow_input.specs.declared.intake.Frame.{Frame}
use Rattle.flow_input.specs.declared.intake.Frame.TheVariants.{Whole, TooLong}
use Rattle.fpl_message.specs.Filings.{FilingView}
use Rattle.fpl_message.specs.declared.edition.Edition.TheVariants as edition
use Rattle.flow_input.specs.Frames.{Cut, first_cut, ended_frames, kept_of}
use Rattle.flow_input.specs.Reader.{InputView}
use Rattle.fpl_message.specs.declared.filing.TheConstants.{MAX_BYTES}

-- a frame read by the second edition
abbrev pub second : List ℕ → FilingView
second frame = record { edition = edition.Second; bytes = frame }

-- the filing of a frame: none if it is too long
abbrev pub filing_of : List ℕ → Option FilingView
filing_of frame = if nat_le (length frame) MAX_BYTES then Some (second frame) else None

-- the filing that was made of a frame
abbrev pub filing_in : {A : Type 0} → Frame A → Option FilingView
filing_in (Whole filing) = Some filing
filing_in TooLong = None

-- the filing of the bytes that are shown of a frame
abbrev pub filing_kept : Option (List ℕ) → Option FilingView
filing_kept None = None
filing_kept (Some frame) = Some (second frame)

-- whatever frame has these bytes shown, this is its filing
abbrev pub IsFiled : Option (List ℕ) → Option FilingView → Type 0
IsFiled kept filing = (frame : List ℕ) → kept ≡ kept_of frame → filing ≡ filing_of frame

-- the first frame of the unread bytes and those that were read: either its end was seen, or the
-- reader has ended
pub record GaveFirst (filing : Option FilingView) (old new : InputView) (before after : Option (List ℕ)) : Type 0 where
  pub came : List ℕ
  pub consumed : Consumes before after came
  pub whole : Cut
  pub is : first_cut (old.unread ++ came) ≡ Some whole
  pub rest : new.unread ≡ whole.rest
  pub going : old.ended ≡ false
  pub seen : new.ended ≡ false → whole.ended ≡ true
  pub count : new.taken + length new.unread ≡ old.taken + length old.unread + length came
  pub filed : filing ≡ filing_of whole.frame

-- no frame is left
pub record GaveNone (old new : InputView) (before after : Option (List ℕ)) : Type 0 where
  pub came : List ℕ
  pub consumed : Consumes before after came
  pub is : first_cut (old.unread ++ came) ≡ None
  pub ended : new.ended ≡ true
  pub count : new.taken + length new.unread ≡ old.taken + length old.unread + length came
  pub quiet : old.ended ≡ true → came ≡ []

-- whether a frame was taken, the bytes that are shown of it, and what is left
abbrev pub Cuts : Bool → Option (List ℕ) → InputView → InputView → Option (List ℕ) → Option (List ℕ) → Type 0
Cuts false kept old new before after = GaveNone old new before after
Cuts true kept old new before after = GaveFirst (filing_kept kept) old new before after

-- what a call for a frame returns, and leaves
abbrev pub GivesFrame : {A : Type 0} → Option (Frame A) → InputView → InputView → Option (List ℕ) → Option (List ℕ) → Type 0
GivesFrame None old new before after = GaveNone old new before after
GivesFrame (Some frame) old new before after = GaveFirst (filing_in frame) old new before after

-- a frame that isn't too long was taken, but its filing isn't returned
abbrev pub Misses : InputView → InputView → Option (List ℕ) → Option (List ℕ) → Type 0
Misses old new before after = (filing : FilingView) × GaveFirst (Some filing) old new before after

-- if the reader failed, no frame had ended in the bytes that were read
abbrev pub Starves : InputView → Option (List ℕ) → Option (List ℕ) → Type 0
Starves old before after = (came : List ℕ) × Consumes before after came × (ended_frames (old.unread ++ came) ≡ [])
