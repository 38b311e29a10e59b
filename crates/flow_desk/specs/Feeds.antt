-- What a feeder has filed of its feed.
use Rattle.std.specs.Prelude.{◌≡◌, ◌≢◌, ◌<◌, ◌≤◌, ℕ, ◌+◌, List, [], ◌∷◌, ◌++◌, length, map}
use mathlib.Core.List.{IsPrefix}
use Rattle.fpl_message.specs.Filings.{FilingView}
use Rattle.flow_plans.specs.Settings.{SetupView}
use Rattle.flow_core.specs.declared.receipt.Receipt.{Receipt}
use Rattle.flow_core.specs.declared.receipt.StepFault.TheVariants.{JournalFull, OutOfMemory}
use Rattle.flow_core.specs.State.{EntryView}
use Rattle.flow_desk.specs.declared.feeders.End.{End}
use Rattle.flow_desk.specs.declared.feeders.End.TheVariants.{Finished, Stopped, NotStarted}
use Rattle.flow_desk.specs.FeederPasses.{PassView}
use Rattle.flow_desk.specs.Histories.{own}

-- from p to q a feed was filed up to what is left: these entries are new, and no other of the
-- feeder's
pub record Ran (p : PassView) (feed : List FilingView) (q : PassView) (receipts : List Receipt) (left : List FilingView) : Type 0 where
  pub entries : List EntryView
  pub later : IsPrefix p.seen q.seen
  pub feeder : q.feeder ≡ p.feeder
  pub counted : q.receipts ≡ p.receipts + length entries
  pub own_are : own q.feeder q.seen ≡ own p.feeder p.seen ++ entries
  pub texts : map (λ (e : EntryView). e.input.text) entries ++ left ≡ feed
  pub answers : map (λ (e : EntryView). e.receipt) entries ≡ receipts

-- the end of a feed: nothing is left; or the first of what is left was refused, with `JournalFull`
-- only if the journal was full; each is begun
abbrev pub EndsAs : SetupView → End → PassView → List FilingView → Type 0
EndsAs s Finished q left = left ≡ []
EndsAs s (Stopped fault) q left = (left ≢ []) × (fault ≡ JournalFull → length q.seen ≡ s.max_entries) × (fault ≡ OutOfMemory → length q.seen < s.max_entries)
EndsAs s NotStarted q left = ⊥

pub record HasRun (setup : SetupView) (p : PassView) (feed : List FilingView) (q : PassView) (receipts : List Receipt) (left : List FilingView) (end : End) : Type 0 where
  pub ran : Ran p feed q receipts left
  pub ends : EndsAs setup end q left

-- each feed was run by its pass
abbrev pub HaveRun : SetupView → List PassView → List (List FilingView) → List PassView → List (List Receipt) → List (List FilingView) → List End → Type 0
HaveRun s [] [] [] [] [] [] = Unit {0}
HaveRun s (p ∷ ps) (feed ∷ feeds) (q ∷ qs) (receipts ∷ rs) (left ∷ ls) (end ∷ es) = HasRun s p feed q receipts left end × HaveRun s ps feeds qs rs ls es
HaveRun s _ _ _ _ _ _ = ⊥

-- a feed that has filed nothing, with the capacity for a receipt of each text
abbrev pub IsFresh : List Receipt → List FilingView → ℕ → Type 0
IsFresh receipts left room = (receipts ≡ []) × (length left ≤ room)
