use Rattle.std.proofs.Common.{◌≡◌, take}
use Rattle.flow_core.specs.Boards.{put_all}
use Rattle.flow_desk.proofs.board.put_rows.Given as goal

abbrev pub invariant-loop-change : goal.invariant-loop-change
invariant-loop-change l = l.rows ≡ put_all l.initial.rows (take l.change-index l.changes)
