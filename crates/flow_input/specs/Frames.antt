-- How an input is split into frames.
--
-- Blanks before a frame are skipped. A frame that begins with an opening bracket ends with the
-- first closing bracket, which belongs to it, or before the next opening bracket, or at the end of
-- the input. Any other frame ends before the first line feed or opening bracket, or at the end of
-- the input. In codes: 40 and 41 are the brackets, 32, 13 and 10 the blanks space, carriage return
-- and line feed.
use Rattle.std.specs.Prelude.{ℕ, zero, suc, Bool, true, false, not, ◌||◌, List, [], ◌∷◌, ◌++◌, length, nat_le, ◌==◌, if◌then◌else◌, Option, Some, None}
use Rattle.std.specs.Option.{option_map_or}
use Rattle.fpl_message.specs.declared.filing.TheConstants.{MAX_BYTES}

-- the bytes before the first that stops, and those from it on
abbrev pub until : (ℕ → Bool) → List ℕ → List ℕ
until stops [] = []
until stops (b ∷ bs) = if stops b then [] else b ∷ until stops bs

abbrev pub since : (ℕ → Bool) → List ℕ → List ℕ
since stops [] = []
since stops (b ∷ bs) = if stops b then b ∷ bs else since stops bs

-- a byte that is no blank
abbrev pub is_not_blank : ℕ → Bool
is_not_blank b = not ((b == 32) || (b == 13) || (b == 10))

-- a message goes to the next bracket
abbrev pub is_parenthesis : ℕ → Bool
is_parenthesis b = (b == 40) || (b == 41)

-- an order goes to the end of the line or to a message
abbrev pub ends_order : ℕ → Bool
ends_order b = (b == 10) || (b == 40)

-- a frame, the bytes after it, and whether they show that it ended
pub record Cut : Type 0 where
  pub frame : List ℕ
  pub rest : List ℕ
  pub ended : Bool

-- a message with its closing bracket, if that comes before the next message
abbrev pub closed : List ℕ → List ℕ → Cut
closed body [] = record { frame = 40 ∷ body; rest = []; ended = false }
closed body (b ∷ rest) = if b == 41 then record { frame = 40 ∷ body ++ 41 ∷ []; rest = rest; ended = true } else record { frame = 40 ∷ body; rest = b ∷ rest; ended = true }

abbrev pub order_cut : List ℕ → List ℕ → Cut
order_cut frame [] = record { frame = frame; rest = []; ended = false }
order_cut frame (b ∷ rest) = record { frame = frame; rest = b ∷ rest; ended = true }

-- the first frame of bytes that begin with no blank
abbrev pub cut : List ℕ → Option Cut
cut [] = None
cut (b ∷ bs) = Some (if b == 40 then closed (until is_parenthesis bs) (since is_parenthesis bs) else order_cut (b ∷ until ends_order bs) (since ends_order bs))

-- the first frame, past the blanks before it
unfoldable pub first_cut : List ℕ → Option Cut
first_cut bytes = cut (since is_not_blank bytes)

-- the first frames, each of which takes a byte at least
unfoldable pub frames_in : ℕ → List ℕ → List (List ℕ)
frames_in zero bytes = []
frames_in (suc n) bytes = option_map_or (λ c. c.frame ∷ frames_in n c.rest) (first_cut bytes) []

-- all frames of an input
unfoldable pub frames : List ℕ → List (List ℕ)
frames bytes = frames_in (length bytes) bytes

-- the frames whose end the bytes show, however the input continues
unfoldable pub ended_in : ℕ → List ℕ → List (List ℕ)
ended_in zero bytes = []
ended_in (suc n) bytes = option_map_or (λ c. if c.ended then c.frame ∷ ended_in n c.rest else []) (first_cut bytes) []

unfoldable pub ended_frames : List ℕ → List (List ℕ)
ended_frames bytes = ended_in (length bytes) bytes

-- the bytes that are shown of a frame: none if it is too long
abbrev pub kept_of : List ℕ → Option (List ℕ)
kept_of bytes = if nat_le (length bytes) MAX_BYTES then Some bytes else None
