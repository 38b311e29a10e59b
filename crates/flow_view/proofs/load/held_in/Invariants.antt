use Rattle.std.proofs.Common.{◌≡◌, ◌≤◌, take}
use Rattle.std.specs.Prelude.{count_by}
use Rattle.flow_view.specs.Load.{is_from_to}
use Rattle.flow_view.proofs.load.held_in.Given as goal

abbrev pub invariant-loop-row : goal.invariant-loop-row
invariant-loop-row l = record {
  counted : l.count ≡ count_by (λ r. is_from_to l.from l.to r.time) (take l.row-index l.rows);
  most : l.count ≤ l.row-index;
}
