use Rattle.std.proofs.Common.{◌≡◌, ◌≤◌, map, length}
use Rattle.flow_core.specs.History.{state_of}
use Rattle.flow_view.specs.Shown.{slot_row_of, slot_before}
use Rattle.flow_view.proofs.slot_row.rows_of.Given as goal

abbrev pub invariant-loop-slot : goal.invariant-loop-slot
invariant-loop-slot g l = record {
  rows : l.rows.items ≡ map (slot_row_of l.core.setup.taxi (state_of l.core).traffic l.spot l.list.lineup) (slot_before l.slot l.list.lineup);
  few : length l.rows.items ≤ l.slot;
}
