-- What contracts see of the board, and of an operation on it.
use Rattle.std.specs.Prelude.{◌≡◌, ℕ, ◌-◌, ◌==◌, if◌then◌else◌, List, length, slice_get, Option, None}
use Rattle.std.specs.Option.{option_flatten}
use Rattle.logbook.specs.Pages.{Book}
use Rattle.flow_plans.specs.Settings.{SetupView}
use Rattle.flow_core.specs.declared.row.Row.{Row}
use Rattle.flow_core.specs.declared.change.Change.{Change}
use Rattle.flow_core.specs.State.{EntryView}
use Rattle.flow_core.specs.Boards.{padded, put_all}
use Rattle.flow_desk.specs.Fronts.{FrontView}
use Rattle.flow_desk.specs.Histories.{rows_after}

-- the history that it shows, the number of its entries, and a row for each plan that the setup
-- allows
pub record BoardView : Type 0 where
  pub book : Book
  pub setup : SetupView
  pub entries : List EntryView
  pub count : ℕ
  pub rows : List (Option Row)

-- the board shows what its entries leave
pub record IsBoard (b : BoardView) : Type 0 where
  pub counted : b.count ≡ length b.entries
  pub rows : b.rows ≡ padded b.setup.max_plans (rows_after b.setup b.entries)

-- a board with the rows after some entries, which absorbs these changes, has the rows after others
abbrev pub LeadTo : SetupView → List EntryView → List EntryView → List Change → Type 0
LeadTo setup es later cs = put_all (padded setup.max_plans (rows_after setup es)) cs ≡ padded setup.max_plans (rows_after setup later)

-- some more entries: the history that ends with them, the number of its entries, and the rows that
-- they changed
pub record OperationView : Type 0 where
  pub front : FrontView
  pub number : ℕ
  pub changes : List Change

-- what it makes of a board
abbrev pub absorbed : BoardView → OperationView → BoardView
absorbed b t = record { book = t.front.book; setup = b.setup; entries = t.front.entries; count = t.number; rows = put_all b.rows t.changes }

-- the row of the plan of this number, from 1, among these
abbrev pub shown_row : List (Option Row) → ℕ → Option Row
shown_row rows plan = if plan == 0 then None else option_flatten (slice_get rows (plan - 1))
