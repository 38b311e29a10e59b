use Rattle.std.proofs.Common.{◌≡◌}
use Rattle.slotview.specs.Rows.{with_more}
use Rattle.slotview.proofs.list.put_list.Given as goal

abbrev pub invariant-loop-line : goal.invariant-loop-line
invariant-loop-line g l = l.sheet.rows ≡ with_more l.fn.sheet.rows l.line-index
