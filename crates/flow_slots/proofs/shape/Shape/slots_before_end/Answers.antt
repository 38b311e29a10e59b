use Rattle.std.proofs.Common.{take, arith}
use Rattle.flow_slots.specs.Period.{Period}
use Rattle.flow_slots.proofs.Periods.{start-before_end, slots_before_end-at_most}
use Rattle.flow_slots.proofs.shape.Shape.slots_before_end.Goals as goal

pub slot_from-requires-clause-not_before : goal.slot_from-requires-clause-not_before
slot_from-requires-clause-not_before c =
    let s = c.self.inside in
    let p : Period = record { start = s.start; end = s.end; rate = s.rate; parts = take s.count s.parts } in
    omega (arith, start-before_end p c.self.invariant.1)

pub returns-clause-at_most : goal.returns-clause-at_most
returns-clause-at_most c =
    let s = c.self.inside in
    let p : Period = record { start = s.start; end = s.end; rate = s.rate; parts = take s.count s.parts } in
    rw (c.slot_from.ensures, c.minutes.ensures.value) (slots_before_end-at_most p c.self.invariant.1)
