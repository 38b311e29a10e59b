-- What one call takes from a reader, which gives its bytes in pieces.
use Rattle.std.specs.Prelude.{◌≡◌, ℕ, ◌+◌, ◌<◌, Bool, true, false, List, [], ◌∷◌, ◌++◌, length, Option, Some, IsTrue, IfSome, ◌⊎◌}
use Rattle.std.specs.Io.KnownBytes.{Consumes, IsAtEnd}
use Rattle.flow_input.specs.Frames.{Cut, cut}
use Rattle.flow_input.specs.declared.input.TheConstants.{MAX_INPUT}

-- the bytes read and not yet taken, how many were taken, whether the reader has ended, and the
-- current frame: none if it is too long
pub record InputView : Type 0 where
  pub unread : List ℕ
  pub taken : ℕ
  pub ended : Bool
  pub item : Option (List ℕ)

-- if the reader has ended, nothing is left
abbrev pub Agrees : InputView → Option (List ℕ) → Type 0
Agrees ahead remaining = IsTrue ahead.ended → (ahead.unread ≡ []) × IsAtEnd remaining

-- some bytes came from the reader
abbrev pub Came : Option (List ℕ) → Option (List ℕ) → Type 0
Came before after = (came : List ℕ) × Consumes before after came

-- the bytes read make the input longer than it may be
abbrev pub CameTooMuch : InputView → Option (List ℕ) → Option (List ℕ) → Type 0
CameTooMuch old before after = (came : List ℕ) × Consumes before after came × (MAX_INPUT < old.taken + length old.unread + length came)

-- the bytes read follow those that were unread
abbrev pub Filled : InputView → InputView → Option (List ℕ) → Option (List ℕ) → Type 0
Filled old new before after = (came : List ℕ) × Consumes before after came × (new.unread ≡ old.unread ++ came)

-- no byte stops
abbrev pub NoneStops : (ℕ → Bool) → List ℕ → Type 0
NoneStops stops [] = Unit {0}
NoneStops stops (b ∷ bs) = (stops b ≡ false) × NoneStops stops bs

-- the first byte stops, or there is none
abbrev pub BeginsWithStop : (ℕ → Bool) → List ℕ → Type 0
BeginsWithStop stops [] = Unit {0}
BeginsWithStop stops (b ∷ bs) = stops b ≡ true

-- a run of bytes that don't stop was taken from the unread ones
pub record TookRun (stops : ℕ → Bool) (old new : InputView) : Type 0 where
  pub run : List ℕ
  pub whole : old.unread ≡ run ++ new.unread
  pub none : NoneStops stops run
  pub count : new.taken ≡ old.taken + length run

-- the same if bytes were read meanwhile
pub record Took (stops : ℕ → Bool) (old new : InputView) (before after : Option (List ℕ)) : Type 0 where
  pub came : List ℕ
  pub consumed : Consumes before after came
  pub run : List ℕ
  pub whole : old.unread ++ came ≡ run ++ new.unread
  pub none : NoneStops stops run
  pub count : new.taken ≡ old.taken + length run

-- the first byte is a different one
abbrev pub BeginsWithOther : ℕ → List ℕ → Type 0
BeginsWithOther b [] = Unit {0}
BeginsWithOther b (x ∷ xs) = (x ≡ b) → ⊥

-- the byte was taken if it came next
abbrev pub TakesIf : ℕ → InputView → InputView → Type 0
TakesIf b old new =
    ((old.unread ≡ b ∷ new.unread) × (new.taken ≡ old.taken + 1))
    ⊎ (BeginsWithOther b old.unread × (new ≡ old))

-- the rest of a frame that begins with this byte was taken
pub record Finished (first : ℕ) (old new : InputView) (before after : Option (List ℕ)) : Type 0 where
  pub came : List ℕ
  pub consumed : Consumes before after came
  pub whole : Cut
  pub is : cut (first ∷ (old.unread ++ came)) ≡ Some whole
  pub rest : new.unread ≡ whole.rest
  pub seen : new.ended ≡ false → whole.ended ≡ true
  pub count : new.taken + length new.unread ≡ old.taken + length old.unread + length came

-- if the reader failed, the bytes showed no end of the frame
abbrev pub Unfinished : ℕ → InputView → Option (List ℕ) → Option (List ℕ) → Type 0
Unfinished first old before after = (came : List ℕ) × Consumes before after came × IfSome (cut (first ∷ (old.unread ++ came))) (λ c. c.ended ≡ false)
