-- Which feeder files what: filings are dealt in turn.
use Rattle.std.specs.Prelude.{◌≡◌, ℕ, ◌+◌, ◌<◌, ◌%◌, ◌==◌, if◌then◌else◌, List, [], ◌∷◌, length, Some, slice_get}
use Rattle.fpl_message.specs.Filings.{FilingView}

-- of filings whose first is the i-th of all, from 0, those that go to feeder k
abbrev pub dealt_from : ℕ → ℕ → ℕ → List FilingView → List FilingView
dealt_from feeders k i [] = []
dealt_from feeders k i (f ∷ fs) = if i % feeders == k then f ∷ dealt_from feeders k (i + 1) fs else dealt_from feeders k (i + 1) fs

-- the i-th filing, from 0, goes to feeder i modulo their number
unfoldable pub dealt : ℕ → ℕ → List FilingView → List FilingView
dealt feeders k fs = dealt_from feeders k 0 fs

-- each feeder's feed is what is dealt to it
pub record AreDealt (feeders : ℕ) (fs : List FilingView) (feeds : List (List FilingView)) : Type 0 where
  pub wide : length feeds ≡ feeders
  pub each : (k : ℕ) → k < feeders → slice_get feeds k ≡ Some (dealt feeders k fs)
