-- What contracts see of a reader of the board and of its writer.
use Rattle.std.specs.Prelude.{Bool, List}
use Rattle.logbook.specs.Pages.{Book}
use Rattle.flow_plans.specs.Settings.{SetupView}
use Rattle.flow_core.specs.State.{EntryView}

-- a reader: whether it knows its desk, which one that is, and what it read last
pub record SeatView : Type 0 where
  pub knows : Bool
  pub book : Book
  pub setup : SetupView
  pub read : List EntryView

-- the writer: whether it knows its desk, which one that is, and what is published
pub record PublisherView : Type 0 where
  pub knows : Bool
  pub book : Book
  pub setup : SetupView
  pub entries : List EntryView
