use Rattle.std.proofs.Common.{ap, sym, ◌∙◌}
use Rattle.std.specs.Option.{option_map}
use Rattle.flow_slots.specs.Period.{slot_time}
use Rattle.flow_regulations.proofs.Delays.{fixed-held}
use Rattle.flow_regulations.proofs.telling.fixed_moment.Goals as goal

pub returns-in_err-slot : goal.returns-in_err-slot
returns-in_err-slot g c =
    let l = c.args.list.now.lineup in
    let was = fixed-held l c.args.flight c.slot_of.result (c.is_fixed.ensures.fixed.0 c.if-not-is_fixed.false) c.slot_of.ensures.slot in
    c.from_residual.ensures ∙ ap (λ o. option_map (slot_time l.period) o) (sym (c.in_err-slot.was) ∙ was)

pub returns : goal.returns
returns g c =
    let l = c.args.list.now.lineup in
    let was = fixed-held l c.args.flight c.slot_of.result (c.is_fixed.ensures.fixed.0 c.if-not-is_fixed.false) c.slot_of.ensures.slot in
    rw (c.slot_time.ensures, c.shape.ensures) (ap (λ o. option_map (slot_time l.period) o) (sym (c.in_ok-slot.was) ∙ was))
