use Rattle.flow_view.proofs.Delays.{noted, beyond}
use Rattle.std.proofs.Common.{◌∙◌, ◌-◌, ap}
use Rattle.std.specs.Prelude.{slice_index_or}
use Rattle.flow_view.specs.Delays.{worse_flight}
use Rattle.flow_view.proofs.delay.note_row.Goals as goal

pub returns-then-index-greatest : goal.returns-then-index-greatest
returns-then-index-greatest g c =
    noted c.args.opening.now c.args.row.now c.args.greatest.now c.index-greatest-index.result c.worse.result c.if-row-eq0.false c.if-index-greatest.true
    (c.worse.ensures
    ∙ (ap (λ w. worse_flight w c.delay_in.result) c.index-greatest-index.is
    ∙ ap (worse_flight (slice_index_or c.args.greatest.now (c.args.row.now.plan - 1) c.index-greatest-index.result)) c.delay_in.ensures))

pub returns-else-index-greatest : goal.returns-else-index-greatest
returns-else-index-greatest g c = beyond c.args.opening.now c.args.row.now c.args.greatest.now c.if-row-eq0.false c.if-index-greatest.false
