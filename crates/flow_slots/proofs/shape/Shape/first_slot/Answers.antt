use Rattle.std.proofs.Common.{take}
use Rattle.flow_slots.specs.Period.{Period}
use Rattle.flow_slots.proofs.Periods.{first_slot-first}
use Rattle.flow_slots.proofs.shape.Shape.first_slot.Goals as goal

pub returns-clause-first : goal.returns-clause-first
returns-clause-first c =
    let s = c.self.inside in
    let p : Period = record { start = s.start; end = s.end; rate = s.rate; parts = take s.count s.parts } in
    let within = rw (← c.self.view_is) at c.requires in
    rw (c.slot_from.ensures, c.minutes.ensures.value, ← c.self.view_is) (first_slot-first p c.args.entry c.self.invariant.1 within.0)
