use Rattle.std.proofs.Common.{◌≡◌, ◌-◌, true, length}
use Rattle.flow_slots.specs.PackedCell.{planned_in}
use Rattle.flow_slots.specs.Walk.{waits}
use Rattle.flow_slots.proofs.Displacing.{Displacing}
use Rattle.flow_slots.proofs.displacement.displace.Given as goal

abbrev pub invariant-loop-row : goal.invariant-loop-row
invariant-loop-row l = record {
  same_reference : l.row.cells.ghost_name ≡ l.fn.row.cells.ghost_name;
  walk : Displacing l.fn.row.cells.now (length l.fn.places) l.row.passed l.fn.row.at (planned_in l.fn.flight) l.row.cells.now l.row.at l.places (planned_in l.coming) l.row.at;
  waits : waits l.coming ≡ true;
}

abbrev pub decreases-loop-row : goal.decreases-loop-row
decreases-loop-row l = length l.fn.row.cells.now - l.row.at
