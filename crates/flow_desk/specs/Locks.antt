-- What is true of the state under the lock, and of the core with which it ends.
use Rattle.std.specs.Prelude.{◌≡◌, ℕ, ◌<◌, ◌≤◌, true, List, [], ◌∷◌, ◌++◌, length, slice_index}
use mathlib.Core.List.{IsPrefix}
use Rattle.std.specs.List.{All}
use Rattle.logbook.specs.Pages.{Book}
use Rattle.flow_plans.specs.Settings.{SetupView}
use Rattle.flow_core.specs.State.{EntryView}
use Rattle.flow_core.specs.History.{History, state_of}
use Rattle.flow_core.specs.Steps.{step}
use Rattle.flow_core.specs.declared.change.Change.{Change}
use Rattle.flow_desk.specs.Boards.{LeadTo}
use Rattle.flow_desk.specs.Fronts.{FrontView}
use Rattle.flow_desk.specs.Seats.{PublisherView}
use Rattle.flow_desk.specs.FeederPasses.{PassView}
use Rattle.flow_desk.specs.Histories.{own, after}
use Rattle.flow_core.specs.declared.entry.TheConstants.{MAX_FEEDERS}

-- each feeder's entries are counted, and there are no others
pub record Counts (feeders : ℕ) (es : List EntryView) (counts : List ℕ) : Type 0 where
  pub wide : length counts ≡ feeders
  pub each : (k : ℕ) → k < feeders → slice_index counts k ≡ length (own k es)
  pub below : All (λ e. e.input.feeder < feeders) es

-- one more entry was appended and counted, and the rows that it changed were appended to the
-- changes
pub record Enters (feeders : ℕ) (old new : History) (counts : List ℕ) (cs cs' : List Change) (e : EntryView) : Type 0 where
  pub setup : new.setup ≡ old.setup
  pub room : length (state_of old).journal < old.setup.max_entries
  pub step : state_of new ≡ step (state_of old) e.input
  pub appended : (state_of new).journal ≡ (state_of old).journal ++ e ∷ []
  pub counted : Counts feeders (state_of new).journal counts
  pub rows : (es : List EntryView) → LeadTo old.setup es (state_of old).journal cs → LeadTo old.setup es (state_of new).journal cs'

-- whenever the lock is free the core is the one-thread desk over its journal, which is both the
-- history and what is published
pub record IsLocked (book : Book) (setup : SetupView) (feeders : ℕ) (core : History) (head : Book) (front : FrontView) (counts : List ℕ) (publisher : PublisherView) : Type 0 where
  pub setup_is : core.setup ≡ setup
  pub one_thread : state_of core ≡ after setup (state_of core).journal
  pub head_is : head ≡ book
  pub book_is : front.book ≡ book
  pub entries_are : front.entries ≡ (state_of core).journal
  pub counted : Counts feeders (state_of core).journal counts
  pub few : feeders ≤ MAX_FEEDERS
  pub published : (publisher.knows ≡ true) × (publisher.book ≡ book) × (publisher.setup ≡ setup) × (publisher.entries ≡ (state_of core).journal)

-- the history begins with what the pass has seen, which has all of its feeder's entries; they are
-- as many as its receipts
pub record AgreesWithPass (es : List EntryView) (p : PassView) : Type 0 where
  pub later : IsPrefix p.seen es
  pub all_own : length (own p.feeder es) ≡ p.receipts
  pub none_own : own p.feeder es ≡ own p.feeder p.seen
