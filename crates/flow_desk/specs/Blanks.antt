-- What contracts see of a blank, and what is true of it.
use Rattle.std.specs.Prelude.{◌≡◌, ℕ, ◌≤◌, ◌+◌, nat_lt, if◌then◌else◌, true, List, [], ◌∷◌, length, Option, Some, None}
use Rattle.std.specs.List.{All}
use Rattle.logbook.specs.Pages.{Book}
use Rattle.flow_plans.specs.Settings.{SetupView}
use Rattle.flow_core.specs.State.{EntryView}
use Rattle.flow_core.specs.History.{History, state_of}
use Rattle.flow_desk.specs.Fronts.{FrontView}
use Rattle.flow_desk.specs.Seats.{SeatView, PublisherView}
use Rattle.flow_desk.specs.Locks.{Counts}
use Rattle.flow_core.specs.declared.entry.TheConstants.{MAX_FEEDERS}

-- which desk it will be, and the entries so far
pub record BlankView : Type 0 where
  pub book : Book
  pub setup : SetupView
  pub feeders : ℕ
  pub entries : List EntryView

-- a reader of this desk's board that has read these entries
abbrev pub IsFree : Book → SetupView → List EntryView → SeatView → Type 0
IsFree book setup es s = (s.knows ≡ true) × (s.book ≡ book) × (s.setup ≡ setup) × (s.read ≡ es)

pub record IsBlank (core : History) (head : Book) (front : FrontView) (counts : List ℕ) (publisher : PublisherView) (seats : List SeatView) : Type 0 where
  pub book_is : front.book ≡ head
  pub entries_are : front.entries ≡ (state_of core).journal
  pub counted : Counts (length seats) (state_of core).journal counts
  pub writer : (publisher.knows ≡ true) × (publisher.book ≡ head) × (publisher.setup ≡ core.setup) × (publisher.entries ≡ (state_of core).journal)
  pub free : All (IsFree head core.setup (state_of core).journal) seats
  pub few : length seats ≤ MAX_FEEDERS

-- the number of the first entry whose feeder isn't below this, with entries numbered from n
abbrev pub first_beyond : ℕ → ℕ → List EntryView → Option ℕ
first_beyond feeders n [] = None
first_beyond feeders n (e ∷ es) = if nat_lt e.input.feeder feeders then first_beyond feeders (n + 1) es else Some n
