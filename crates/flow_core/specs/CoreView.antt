-- How a core stores the state.
use Rattle.std.specs.Prelude.{◌≡◌, ◌≤◌, ◌<◌, ◌+◌, ◌-◌, List, [], ◌∷◌, ◌++◌, map, length, take, ℕ, Bool, true, Some}
use Rattle.std.specs.List.{AllByRecursion}
use Rattle.fpl_message.specs.Filings.{FilingView}
use Rattle.fpl_message.specs.Reads.{ReadingView, reading_of}
use Rattle.flow_plans.specs.Settings.{SetupView}
use Rattle.flow_traffic.specs.Traffic.{Traffic, TrafficView}
use Rattle.flow_traffic.specs.Frozen.{FrozenPairsStay}
use Rattle.flow_core.specs.State.{State, Input, EntryView}
use Rattle.flow_traffic.specs.Answers.{Answers}
use Rattle.flow_core.specs.declared.receipt.Receipt.{Receipt}
use Rattle.flow_core.specs.declared.change.Change.{Change}
use Rattle.flow_core.specs.declared.journal.Version.TheVariants as version
use Rattle.flow_core.specs.Journal.{IsEntry}
use Rattle.flow_core.specs.Steps.{run}
use Rattle.flow_core.specs.History.{History}
use Rattle.flow_core.specs.Changes.{changes_between, rows_at, without_last_filing}
use Rattle.flow_plans.specs.declared.setup.TheConstants.{MAX_ENTRIES}

abbrev pub inputs : List EntryView → List Input
inputs journal = map (λ e. e.input) journal

-- the texts of entries
abbrev pub texts_of : List EntryView → List FilingView
texts_of entries = map (λ (e : EntryView). e.input.text) entries

-- the state in these fields is that of the run
pub record IsRun (s : State) : Type 0 where
  pub is : s ≡ run s.setup (inputs s.journal)
  pub entries : AllByRecursion (λ e. IsEntry version.Two e.input) s.journal
  pub within : AllByRecursion (λ e. e.receipt.first_notice + e.receipt.notices ≤ length s.traffic.notices) s.journal
  pub room : length s.journal ≤ s.setup.max_entries
  pub limit : s.setup.max_entries ≤ MAX_ENTRIES

-- without the last entry
abbrev pub without_last : {X : Type 0} → List X → List X
without_last xs = take (length xs - 1) xs

-- The last filing can be undone: the reader has read its text, for which there is capacity, and the
-- state before it is the run without it.
pub record MayTakeBack (setup : SetupView) (traffic : TrafficView) (journal : List EntryView) (read : ReadingView) (capacity : ℕ) : Type 0 where
  pub before : Traffic
  pub is : traffic.before ≡ Some before
  pub some : 0 < length journal
  pub reads : (earlier : List EntryView) (e : EntryView) → journal ≡ earlier ++ e ∷ [] → read ≡ reading_of e.input.text
  pub fits : (earlier : List EntryView) (e : EntryView) → journal ≡ earlier ++ e ∷ [] → length e.input.text.bytes ≤ capacity
  pub run_then : IsRun (record { setup = setup; traffic = before; journal = without_last journal })

-- the state in these fields is that of the run, and so is what can be undone, if anything can
pub record IsRunWith (setup : SetupView) (traffic : TrafficView) (journal : List EntryView) (undoable : Bool) (read : ReadingView) (buffer : List ℕ) (capacity : ℕ) : Type 0 where
  pub run_now : IsRun (record { setup = setup; traffic = traffic.traffic; journal = journal })
  pub empty : buffer ≡ []
  pub back : undoable ≡ true → MayTakeBack setup traffic journal read capacity

-- the result of answering this reading: the receipt of the entry after `entries` others; and the
-- traffic can be undone
pub record IsReceipt (read : ReadingView) (old : Traffic) (new : TrafficView) (entries : ℕ) (r : Receipt) : Type 0 where
  pub number : r.number ≡ entries + 1
  pub first : r.first_notice ≡ length old.notices
  pub count : r.notices ≡ length new.traffic.notices - length old.notices
  pub grow : length old.notices ≤ length new.traffic.notices
  pub answers : Answers read old new.traffic r.verdict
  pub frozen : FrozenPairsStay read old new.traffic r.verdict
  pub before : new.before ≡ Some old

-- this entry was appended: the state is that of the run with it, and the traffic can be undone
pub record Enters (setup : SetupView) (old : Traffic) (new : TrafficView) (journal longer : List EntryView) (e : EntryView) : Type 0 where
  pub entries : longer ≡ journal ++ e ∷ []
  pub number : e.receipt.number ≡ length journal + 1
  pub run_now : IsRun (record { setup = setup; traffic = new.traffic; journal = longer })
  pub before : new.before ≡ Some old
  pub frozen : FrozenPairsStay (reading_of e.input.text) old new.traffic e.receipt.verdict

-- There is capacity for the rows of all plans, and if the last filing can be undone these are the
-- rows that it changed.
pub record HasNoted (h : History) (changes : List Change) (capacity : ℕ) : Type 0 where
  pub room : h.setup.max_plans ≤ capacity
  pub changed : h.undoable ≡ true → changes ≡ changes_between (rows_at (without_last_filing h)) (rows_at h)
