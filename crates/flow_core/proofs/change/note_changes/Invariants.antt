use Rattle.std.proofs.Common.{◌≡◌, ◌≤◌, length, take, vec_capacity, IfSome}
use Rattle.std.specs.List.{filter_map}
use Rattle.flow_core.specs.Changes.{change_at, rows_in}
use Rattle.flow_core.proofs.change.note_changes.Given as goal

abbrev pub invariant-loop-index : goal.invariant-loop-index
invariant-loop-index g l = record {
  changes : IfSome l.traffic.before (λ before. l.changes.items ≡ filter_map (change_at (rows_in before) (rows_in l.traffic.traffic)) (take l.index l.numbers));
  few : length l.changes.items ≤ l.index;
  capacity : vec_capacity l.changes ≡ vec_capacity l.initial.changes;
}
