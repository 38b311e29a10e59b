use Rattle.std.proofs.Common.{◌≡◌, ◌∙◌, ◌+◌, ◌++◌, ◌∷◌, [], ℕ, List, None, ap, sym, take}
use Rattle.flow_view.specs.declared.slot_row.SlotRow.{SlotRow}
use Rattle.flow_view.specs.Table.{lines}
use Rattle.flow_view.proofs.Lists.{take-next}
use Rattle.flow_view.proofs.Tables.{last_slot, line-added, slot-of-last}
use Rattle.flow_view.proofs.table.lines_with.Goals as goal

pub loop-row-preserved : goal.loop-row-preserved
loop-row-preserved g c =
    let rows : List SlotRow = c.args.rows.now in
    let i : ℕ = c.loop-row.row-index in
    let next : take (i + 1) rows ≡ take i rows ++ c.row-item.result ∷ [] = take-next rows i c.row-item.result c.loop-row-test.true c.row-item.is in
    record {
      made = line-added (take i rows) c.row-item.result c.loop-row.before c.line_of.result c.loop-row.made.items c.push.new.self.items c.loop-row.invariant.made c.loop-row.invariant.before c.line_of.ensures c.in_ok-push.ensures.items
          ∙ ap lines (sym next);
      before = sym (slot-of-last None (take i rows) c.row-item.result) ∙ ap (last_slot None) (sym next);
    }
