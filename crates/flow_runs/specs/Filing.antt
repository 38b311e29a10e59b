-- What the feeders of a desk have filed in total.
use Rattle.std.specs.Prelude.{◌≡◌, ◌≢◌, ℕ, ◌<◌, List, [], ◌∷◌, ◌++◌, length, Option, Some, None, IfSome, slice_get}
use Rattle.std.specs.List.{All}
use mathlib.Core.List.{IsPrefix}
use Rattle.fpl_message.specs.Filings.{FilingView}
use Rattle.flow_plans.specs.Settings.{SetupView}
use Rattle.flow_core.specs.State.{Input, EntryView}
use Rattle.flow_core.specs.CoreView.{texts_of}
use Rattle.flow_core.specs.History.{History, state_of}
use Rattle.flow_core.specs.declared.receipt.Receipt.{Receipt}
use Rattle.flow_desk.specs.declared.feeders.End.{End}
use Rattle.flow_desk.specs.Feeds.{Ran, EndsAs}
use Rattle.flow_desk.specs.Histories.{own, after}
use Rattle.flow_desk.specs.FeederPasses.{PassView}
use Rattle.flow_runs.specs.declared.fault.RunFault.{RunFault}

-- from p to q a feed was filed up to what is left
pub record FiledTo (p : PassView) (feed : List FilingView) (q : PassView) (left : List FilingView) : Type 0 where
  pub receipts : List Receipt
  pub ran : Ran p feed q receipts left

-- and ended so
pub record RanFeed (setup : SetupView) (p : PassView) (feed : List FilingView) (q : PassView) (left : List FilingView) (end : End) : Type 0 where
  pub filed : FiledTo p feed q left
  pub ends : EndsAs setup end q left

-- and so did each of these, feed by feed
abbrev pub RanFeeds : SetupView → List PassView → List (List FilingView) → List PassView → List (List FilingView) → List End → Type 0
RanFeeds s [] [] [] [] [] = Unit {0}
RanFeeds s (p ∷ ps) (feed ∷ feeds) (q ∷ qs) (left ∷ ls) (end ∷ es) = RanFeed s p feed q left end × RanFeeds s ps feeds qs ls es
RanFeeds s _ _ _ _ _ = ⊥

-- A desk was closed: after the entries read there are only those of the feeders, all in one history
-- of the desk of one thread. Each feeder has filed a prefix of its feed; if none ended with a fault
-- and the journal isn't full, all of it. One ended with a fault only if the journal isn't full:
-- otherwise each text that is left has found it full, whichever fault was seen.
pub record HasFiled (setup : SetupView) (read : List EntryView) (feeders : ℕ) (feeds : List (List FilingView)) (core : History) (stop : Option RunFault) : Type 0 where
  pub entries : List EntryView
  pub setup_is : core.setup ≡ setup
  pub journal : (state_of core).journal ≡ read ++ entries
  pub one_thread : state_of core ≡ after setup (read ++ entries)
  pub below : All (λ (e : EntryView). e.input.feeder < feeders) entries
  pub fronts : (k : ℕ) (feed : List FilingView) → slice_get feeds k ≡ Some feed → IsPrefix (texts_of (own k entries)) feed
  pub room : stop ≢ None → length (read ++ entries) < setup.max_entries
  pub whole : stop ≡ None → length (read ++ entries) < setup.max_entries → (k : ℕ) (feed : List FilingView) → slice_get feeds k ≡ Some feed → texts_of (own k entries) ≡ feed
