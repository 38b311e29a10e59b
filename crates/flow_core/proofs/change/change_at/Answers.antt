use Rattle.std.proofs.Common.{◌∙◌, sym}
use Rattle.flow_core.specs.Changes.{rows_in}
use Rattle.flow_core.proofs.ChangedRows.{if-change, if-still}
use Rattle.flow_core.proofs.change.change_at.Goals as goal

pub returns-then-is_told : goal.returns-then-is_told
returns-then-is_told g c =
    if-still c.args.traffic.now.before c.args.traffic.now.traffic c.args.number c.args.told.now
    (c.may_have_moved_plans.ensures c.if-not-may_have_moved_plans.true) c.requires.each c.is_told.ensures.each c.requires.told
    (sym c.is_told.ensures.value ∙ c.if-is_told.true)

pub returns : goal.returns
returns g c =
    rw c.change_between.ensures (if-change c.args.traffic.now.before (rows_in c.args.traffic.now.traffic) c.args.number c.row_before-before.result c.row_at.result c.row_at.ensures c.row_before-before.ensures)
