use Rattle.std.proofs.Common.{◌≡◌, ℕ, ◌+◌, ◌<◌, map, drop}
use Rattle.flow_slots.specs.PackedCell.{from_start}
use Rattle.flow_slots.specs.Period.{first_slot}
use Rattle.flow_slots.specs.Row.{cell_at, IsFixedCell}
use Rattle.flow_slots.specs.Walk.{next_up}
use Rattle.flow_slots.proofs.displacement.next_up.Given as goal

abbrev pub invariant-loop-next : goal.invariant-loop-next
invariant-loop-next l = record {
  between : (j : ℕ) → l.row.at < j → j < l.next → IsFixedCell (cell_at (map (from_start l.shape.start) l.row.cells.now) j);
  same : next_up (λ e. first_slot l.shape e) l.row.at (drop (l.row.at + 1) (map (from_start l.shape.start) l.row.cells.now)) ≡ next_up (λ e. first_slot l.shape e) l.row.at (drop l.next (map (from_start l.shape.start) l.row.cells.now));
}
