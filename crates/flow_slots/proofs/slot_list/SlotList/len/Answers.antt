use Rattle.std.proofs.Common.{arith}
use Rattle.flow_slots.proofs.Periods.{slots_before_end-at_most}
use Rattle.flow_slots.proofs.slot_list.SlotList.len.Goals as goal

pub returns-clause-most : goal.returns-clause-most
returns-clause-most g c =
    let s = c.self.inside in
    omega (arith, c.len.ensures, c.self.invariant.kept.len, c.self.invariant.kept.flights, slots_before_end-at_most s.first_slots c.self.invariant.kept.regular)
