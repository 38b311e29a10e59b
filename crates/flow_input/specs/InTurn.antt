-- The frames of an input, as successive calls return them.
use Rattle.std.specs.Prelude.{◌≡◌, ◌+◌, ◌≤◌, ℕ, length, map, List, [], ◌∷◌, Option, Some, None, IfSome}
use Rattle.fpl_message.specs.Filings.{FilingView}
use Rattle.flow_input.specs.declared.intake.Frame.{Frame}
use Rattle.flow_input.specs.Frames.{Cut, first_cut, frames}
use Rattle.flow_input.specs.NextFrame.{filing_in, filing_of}
use Rattle.flow_input.specs.declared.input.TheConstants.{MAX_INPUT}

-- the filings of the frames of an input: none for a frame that is too long
abbrev pub filings_of : List ℕ → List (Option FilingView)
filings_of bytes = map filing_of (frames bytes)

-- the result is the first filing of the bytes, and what is left has the others; or they have none,
-- and nothing is left
abbrev pub IsNext : {A : Type 0} → Option (Frame A) → List ℕ → List ℕ → Type 0
IsNext None old new = (filings_of old ≡ []) × (new ≡ [])
IsNext (Some frame) old new = filings_of old ≡ filing_in frame ∷ filings_of new

-- the same if the bytes are known
abbrev pub GivesNext : {A : Type 0} → Option (Frame A) → Option (List ℕ) → Option (List ℕ) → Type 0
GivesNext frame None new = Unit {0}
GivesNext frame (Some old) None = ⊥
GivesNext frame (Some old) (Some new) = IsNext frame old new

-- successive calls, each of which took the first frame of what the one before left, returned these
-- filings
abbrev pub AnswerInTurn : List (Option FilingView) → List ℕ → List ℕ → Type 0
AnswerInTurn [] old new = new ≡ old
AnswerInTurn (filing ∷ filings) old new =
    (c : Cut) × (first_cut old ≡ Some c) × (filing ≡ filing_of c.frame) × AnswerInTurn filings c.rest new

-- if no frame is left, the whole input, the bytes taken and these, isn't longer than it may be
abbrev pub EndsWithin : {A : Type 0} → Option (Frame A) → ℕ → Option (List ℕ) → Type 0
EndsWithin (Some frame) taken left = Unit {0}
EndsWithin None taken left = IfSome left (λ bytes. taken + length bytes ≤ MAX_INPUT)
