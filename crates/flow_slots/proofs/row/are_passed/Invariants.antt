use Rattle.std.proofs.Common.{◌≡◌, ℕ, ◌<◌, true, false, get_or}
use Rattle.flow_slots.specs.declared.cell.Cell.TheVariants.{Empty}
use Rattle.flow_slots.specs.PackedCell.{planned_in}
use Rattle.flow_slots.specs.Walk.{passes}
use Rattle.flow_slots.proofs.row.are_passed.Given as goal

abbrev pub invariant-loop-cell : goal.invariant-loop-cell
invariant-loop-cell l = record {
  none : l.open ≡ false → (k : ℕ) → k < l.cell-index → passes (planned_in l.flight) (get_or l.cells k Empty) ≡ true;
  all : ((k : ℕ) → k < l.cell-index → passes (planned_in l.flight) (get_or l.cells k Empty) ≡ true) → l.open ≡ false;
}
