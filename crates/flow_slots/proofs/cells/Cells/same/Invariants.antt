use Rattle.std.proofs.Common.{◌≡◌, ℕ, ◌<◌}
use Rattle.flow_slots.specs.Row.{cell_at}
use Rattle.flow_slots.proofs.cells.Cells.same.Given as goal

abbrev pub invariant-loop-k : goal.invariant-loop-k
invariant-loop-k g l = (j : ℕ) → j < l.k → cell_at l.self.row j ≡ cell_at l.other.row j
