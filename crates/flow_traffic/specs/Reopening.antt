-- A closed regulation that is opened again.
use Rattle.std.specs.Prelude.{List, Option, None, Some}
use Rattle.std.specs.List.{insert}
use Rattle.flow_regulations.specs.Listing.{RegulationView, ClosedView}

-- the regulations with a closed one at its former index again
abbrev pub open_again : Option ClosedView → List RegulationView → List RegulationView
open_again None lists = lists
open_again (Some c) lists = insert lists c.index c.listed
