use Rattle.std.proofs.Common.{◌≡◌, ◌++◌, ◌∷◌, [], ◌+◌, ◌-◌, List, Option, arith, ap, sym, ◌∙◌, slice_get}
use Rattle.flow_core.specs.declared.row.Row.{Row}
use Rattle.flow_core.specs.Changes.{rows_at}
use Rattle.flow_core.specs.Boards.{padded}
use Rattle.flow_desk.proofs.Rows.{padded-next}
use Rattle.flow_desk.proofs.board.rows_of.Goals as goal

pub loop-number-preserved : goal.loop-number-preserved
loop-number-preserved g c =
    let i = c.loop-number.invariant in
    let rows : List Row = rows_at c.args.core.now in
    let at : c.loop-number.number + 1 - 1 ≡ c.loop-number.number = omega arith in
    let row : c.row.result ≡ slice_get rows c.loop-number.number = c.row.ensures.row (omega arith) ∙ ap (slice_get rows) at in
    record {
      rows = c.push_reserved.ensures.items
          ∙ (ap (λ (l : List (Option Row)). l ++ c.row.result ∷ []) i.rows
          ∙ (ap (λ (r : Option Row). padded c.loop-number.number rows ++ r ∷ []) row ∙ sym (padded-next c.loop-number.number rows)));
      len = omega (arith, c.push_reserved.ensures.len, i.len);
      room = rw c.push_reserved.ensures.capacity i.room;
    }
