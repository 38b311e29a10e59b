-- The filings of an input.
use Rattle.std.specs.Prelude.{ℕ, length, nat_le, if◌then◌else◌, List, [], ◌∷◌}
use Rattle.fpl_message.specs.Filings.{FilingView}
use Rattle.fpl_message.specs.declared.filing.TheConstants.{MAX_BYTES}
use Rattle.flow_input.specs.NextFrame.{second}

-- the filings among some frames: of each that is not too long
unfoldable pub filings : List (List ℕ) → List FilingView
filings [] = []
filings (f ∷ fs) = if nat_le (length f) MAX_BYTES then second f ∷ filings fs else filings fs
