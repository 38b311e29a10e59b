use Rattle.std.proofs.Common.{◌≡◌, length, take}
use Rattle.std.specs.Prelude.{sum_by}
use Rattle.flow_view.specs.Table.{lines}
use Rattle.slotview.specs.Rows.{with_more}
use Rattle.slotview.proofs.list.put_lists.Given as goal

abbrev pub invariant-loop-opening : goal.invariant-loop-opening
invariant-loop-opening g l = l.sheet.rows ≡ with_more 0 (sum_by (λ o. length (lines o.rows)) (take l.opening-index l.openings))
