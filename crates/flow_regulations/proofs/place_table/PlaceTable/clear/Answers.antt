use Rattle.flow_regulations.proofs.Rows.{rows-none}
use Rattle.flow_regulations.proofs.place_table.PlaceTable.clear.Goals as goal

pub returns : goal.returns
returns g c = λ ls. rw c.clear.ensures.items (rows-none 0 ls)
