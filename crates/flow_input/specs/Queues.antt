-- How frames that wait to be filed are stored: one after the other, in blocks.
use Rattle.std.specs.Prelude.{◌≡◌, ◌≤◌, ◌+◌, ℕ, List, [], ◌∷◌, ◌++◌, length, take, drop}
use Rattle.std.specs.List.{AllByRecursion, flat_map}
use Rattle.fpl_message.specs.Filings.{FilingView}
use Rattle.fpl_message.specs.declared.filing.TheConstants.{MAX_BYTES}
use Rattle.flow_input.specs.NextFrame.{second}

-- the filings of the frames that have these lengths and lie so
abbrev pub queued : List ℕ → List ℕ → List FilingView
queued [] bytes = []
queued (n ∷ ns) bytes = second (take n bytes) ∷ queued ns (drop n bytes)

-- the length of frames that have these lengths
abbrev pub total : List ℕ → ℕ
total [] = 0
total (n ∷ ns) = n + total ns

-- the frames after those that were removed lie from this offset to the end of the buffer
pub record IsQueue (lens bytes : List ℕ) (removed from : ℕ) : Type 0 where
  pub some : removed ≤ length lens
  pub fits : from + total (drop removed lens) ≡ length bytes
  pub few : AllByRecursion (λ n. n ≤ MAX_BYTES) (drop removed lens)

-- the filings of the frames of full blocks and of the last one
abbrev pub joined : List (List FilingView) → List FilingView → List FilingView
joined full last = flat_map (λ b. b) full ++ last
