use Rattle.std.proofs.Common.{◌≡◌, ◌≤◌, take, nat_le}
use Rattle.std.specs.Prelude.{count_by}
use Rattle.flow_view.proofs.load.held_later.Given as goal

abbrev pub invariant-loop-row : goal.invariant-loop-row
invariant-loop-row l = record {
  counted : l.count ≡ count_by (λ r. nat_le l.end r.time) (take l.row-index l.rows);
  most : l.count ≤ l.row-index;
}
