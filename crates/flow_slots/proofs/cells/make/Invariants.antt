use Rattle.std.proofs.Common.{◌≡◌, ◌-◌, ◌≤◌, length, vec_capacity}
use Rattle.flow_slots.specs.MadeRow.{filled}
use Rattle.flow_slots.proofs.cells.make.Given as goal

abbrev pub invariant-loop-row : goal.invariant-loop-row
invariant-loop-row g l = record {
  same : filled l.row.items l.count ≡ filled l.fn.row.items l.count;
  capacity : vec_capacity l.row ≡ vec_capacity l.fn.row;
  grows : length l.fn.row.items ≤ length l.row.items;
}

abbrev pub decreases-loop-row : goal.decreases-loop-row
decreases-loop-row g l = l.count - length l.row.items
