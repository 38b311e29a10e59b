use Rattle.flow_slots.proofs.Started.{row-new}
use Rattle.flow_slots.proofs.cells.Cells.new.Goals as goal

pub returns : goal.returns
returns g c = row-new c.args.start c.args.len c.in_ok-with_capacity.field-0.items c.in_ok-with_capacity.ensures.items
