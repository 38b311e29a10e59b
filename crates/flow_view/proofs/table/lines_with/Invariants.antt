use Rattle.std.proofs.Common.{◌≡◌, None, take}
use Rattle.flow_view.specs.Table.{lines}
use Rattle.flow_view.proofs.Tables.{last_slot}
use Rattle.flow_view.proofs.table.lines_with.Given as goal

abbrev pub invariant-loop-row : goal.invariant-loop-row
invariant-loop-row g l = record {
  made : l.made.items ≡ lines (take l.row-index l.rows);
  before : l.before ≡ last_slot None (take l.row-index l.rows);
}
