use Rattle.flow_core.proofs.ChangedRows.{if-row}
use Rattle.flow_core.proofs.change.row_before.Goals as goal

pub returns : goal.returns
returns g c =
    rw c.row_with.ensures (if-row c.args.traffic.now.before c.args.number c.args.told.now c.previous.result c.requires.each c.requires.told c.previous.ensures)
