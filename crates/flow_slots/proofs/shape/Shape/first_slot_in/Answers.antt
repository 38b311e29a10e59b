use Rattle.std.proofs.Common.{◌≤◌, ◌+◌, take, ap, arith}
use Rattle.flow_slots.specs.Period.{Period}
use Rattle.flow_slots.proofs.Periods.{slot_from-at_most}
use Rattle.flow_slots.proofs.shape.Shape.first_slot_in.Goals as goal

pub returns-clause-most : goal.returns-clause-most
returns-clause-most c =
    let s = c.self.inside in
    let p : Period = record { start = s.start; end = s.end; rate = s.rate; parts = take s.count s.parts } in
    let from : p.start ≤ c.minutes.result + c.args.minutes = omega (arith, c.minutes.ensures.value) in
    omega (arith, c.slot_from.ensures, c.minutes.ensures.value, slot_from-at_most p.end p.start p.rate p.parts (c.minutes.result + c.args.minutes) c.self.invariant.1.subperiods from, c.self.invariant.1.at_most_a_day, c.requires, ap (λ v. v.start) c.self.view_is, ap (λ v. v.end) c.self.view_is)
