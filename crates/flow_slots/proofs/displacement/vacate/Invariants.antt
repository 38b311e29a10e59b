use Rattle.std.proofs.Common.{◌≡◌, length, map, ◌-◌, ◌<◌, ◌≤◌}
use Rattle.flow_slots.specs.PackedCell.{from_start}
use Rattle.flow_slots.proofs.MovingUp.{Closing}
use Rattle.flow_slots.proofs.displacement.vacate.Given as goal

abbrev pub invariant-loop-next : goal.invariant-loop-next
invariant-loop-next l =
    record {
      same_reference : l.row.cells.ghost_name ≡ l.fn.row.cells.ghost_name;
      walk : Closing l.shape (map (from_start l.shape.start) l.fn.row.cells.now) l.fn.places l.row.passed l.fn.row.at (map (from_start l.shape.start) l.row.cells.now) l.row.at l.places l.row.at;
      within : l.row.at < length l.row.cells.now;
    }

abbrev pub decreases-loop-next : goal.decreases-loop-next
decreases-loop-next l = length l.fn.row.cells.now - l.row.at

abbrev pub invariant-loop-held : goal.invariant-loop-held
invariant-loop-held l =
    record {
      same_reference : l.row.cells.ghost_name ≡ l.fn.row.cells.ghost_name;
      walk : Closing l.shape (map (from_start l.shape.start) l.fn.row.cells.now) l.fn.places l.row.passed l.fn.row.at (map (from_start l.shape.start) l.row.cells.now) l.row.at l.places l.row.at;
      within : l.row.at < length l.row.cells.now;
      later : l.initial.row.at ≤ l.row.at;
    }

abbrev pub decreases-loop-held : goal.decreases-loop-held
decreases-loop-held l = length l.fn.row.cells.now - l.row.at
