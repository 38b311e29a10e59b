use Rattle.std.proofs.Common.{ap, sym, ◌∙◌}
use Rattle.flow_desk.specs.Histories.{row_at}
use Rattle.flow_desk.specs.Boards.{BoardView, shown_row}
use Rattle.flow_desk.specs.declared.rule.View.{View}
use Rattle.flow_desk.proofs.Keeping.{reads, row-read}
use Rattle.flow_desk.proofs.seat.Seat.look.Goals as goal

pub enter_as-requires : goal.enter_as-requires
enter_as-requires g c x = reads _ _ x

pub returns-in-Ok-clause-row : goal.returns-in-Ok-clause-row
returns-in-Ok-clause-row g c =
    c.row-row.ensures
    ∙ (ap (λ (b : BoardView). shown_row b.rows c.args.plan) c.get.ensures
    ∙ (row-read _ _ _ _ c.in-Ok.ensures.1 c.args.plan ∙ ap (λ (v : View). row_at v.setup v.front.entries c.args.plan) (sym c.leave-reader.ensures.1)))
