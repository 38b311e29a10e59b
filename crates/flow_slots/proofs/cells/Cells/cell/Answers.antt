use Rattle.std.proofs.Common.{◌≤◌, length, ap, sym, ◌∙◌, arith}
use Rattle.flow_slots.specs.MadeRow.{filled}
use Rattle.flow_slots.specs.PackedCell.{from_start}
use Rattle.flow_slots.proofs.Filled.{cell_at-others}
use Rattle.flow_slots.proofs.Started.{cell_at-started}
use Rattle.flow_slots.proofs.cells.Cells.cell.Goals as goal

pub returns-else-k-len-clause-value : goal.returns-else-k-len-clause-value
returns-else-k-len-clause-value g c =
    let s = c.self.inside in
    let beyond : length s.row.items ≤ c.args.k = omega (arith, c.if-k-len.false, c.len.ensures, s.row.ok.0) in
    let empty = cell_at-started s.start (filled s.row.items s.len) c.args.k ∙ ap (from_start s.start) (cell_at-others s.row.items s.len c.args.k beyond) in
    rw (← c.self.view_is) (sym empty)
