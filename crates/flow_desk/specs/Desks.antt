-- Passes of a desk.
use Rattle.std.specs.Prelude.{◌≡◌, ℕ, ◌<◌, ◌==◌, Bool, List, length, Some, slice_get, IsTrue, IsFalse}
use Rattle.std.specs.List.{list_any}
use Rattle.flow_core.specs.State.{EntryView}
use Rattle.flow_desk.specs.Histories.{own}
use Rattle.flow_desk.specs.FeederPasses.{PassView}

-- some pass among these is this feeder's
abbrev pub has_pass : List PassView → ℕ → Bool
has_pass ps feeder = list_any (λ p. p.feeder == feeder) ps

-- each feeder has a pass among these
abbrev pub IsPresent : ℕ → List PassView → Type 0
IsPresent feeders ps = (k : ℕ) → k < feeders → IsTrue (has_pass ps k)

-- some feeder has none
abbrev pub IsMissing : ℕ → List PassView → Type 0
IsMissing feeders ps = (k : ℕ) × (k < feeders) × IsFalse (has_pass ps k)

-- the i-th pass is that of feeder i, which has seen these entries and has a receipt for each of its
-- own
abbrev pub AreOpened : ℕ → List EntryView → List PassView → Type 0
AreOpened feeders es ps = (length ps ≡ feeders) × ((i : ℕ) (p : PassView) → slice_get ps i ≡ Some p → p ≡ record { feeder = i; receipts = length (own i es); seen = es })
