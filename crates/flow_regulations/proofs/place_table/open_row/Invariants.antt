use Rattle.std.proofs.Common.{◌≡◌, ℕ, ◌<◌, ◌≤◌}
use Rattle.flow_regulations.specs.Marks.{mask_of, IsOpenedIn}
use Rattle.flow_regulations.proofs.place_table.open_row.Given as goal

abbrev pub invariant-loop-row : goal.invariant-loop-row
invariant-loop-row l = record {
  done : (f : ℕ) → f < l.row → IsOpenedIn l.own l.index f (mask_of l.initial.table f) (mask_of l.table f);
  rest : (f : ℕ) → l.row ≤ f → mask_of l.table f ≡ mask_of l.initial.table f;
}
