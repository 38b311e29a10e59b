use Rattle.std.proofs.Common.{◌≡◌, ◌≤◌, ◌*◌, take}
use Rattle.flow_view.specs.Totals.{totals_of}
use Rattle.flow_view.proofs.totals.totals_of.Given as goal

abbrev pub invariant-loop-row : goal.invariant-loop-row
invariant-loop-row l = record {
  counted : l.totals ≡ totals_of (take l.row-index l.rows);
  flights : l.totals.flights ≡ l.row-index;
  frozen : l.totals.frozen ≤ l.row-index;
  delayed : l.totals.delayed ≤ l.row-index;
  total : l.totals.total ≤ 100_000_000 * l.row-index;
}
