use Rattle.std.proofs.Common.{◌≡◌, ◌≤◌, vec_len, vec_capacity}
use Rattle.flow_core.specs.Changes.{rows_at}
use Rattle.flow_core.specs.Boards.{padded}
use Rattle.flow_desk.proofs.board.rows_of.Given as goal

abbrev pub invariant-loop-number : goal.invariant-loop-number
invariant-loop-number g l = record {
  rows : l.rows.items ≡ padded l.number (rows_at l.core);
  len : vec_len l.rows ≡ l.number;
  room : l.most ≤ vec_capacity l.rows;
}
