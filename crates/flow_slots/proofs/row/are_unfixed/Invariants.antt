use Rattle.std.proofs.Common.{◌≡◌, ℕ, ◌<◌, false, get_or}
use Rattle.flow_slots.specs.declared.cell.Cell.TheVariants.{Empty}
use Rattle.flow_slots.specs.Row.{IsFixedCell}
use Rattle.flow_slots.proofs.row.are_unfixed.Given as goal

abbrev pub invariant-loop-cell : goal.invariant-loop-cell
invariant-loop-cell l = record {
  none : l.kept ≡ false → (k : ℕ) → k < l.cell-index → IsFixedCell (get_or l.cells k Empty) → ⊥;
  all : ((k : ℕ) → k < l.cell-index → IsFixedCell (get_or l.cells k Empty) → ⊥) → l.kept ≡ false;
}
