use Rattle.std.proofs.Common.{◌≡◌, ◌≤◌, take, false}
use Rattle.std.specs.Prelude.{count_by}
use Rattle.std.specs.Option.{option_map_or}
use Rattle.flow_view.specs.Load.{is_from_to}
use Rattle.flow_view.specs.Totals.{entry_of}
use Rattle.flow_view.proofs.load.demand_in.Given as goal

abbrev pub invariant-loop-row : goal.invariant-loop-row
invariant-loop-row l = record {
  counted : l.count ≡ count_by (λ r. option_map_or (is_from_to l.from l.to) (entry_of r) false) (take l.row-index l.rows);
  most : l.count ≤ l.row-index;
}
