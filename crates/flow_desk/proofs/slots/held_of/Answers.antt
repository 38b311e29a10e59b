use Rattle.std.proofs.Common.{◌<◌, ◌∙◌}
use Rattle.flow_slots.specs.Lineup.{len_of}
use Rattle.flow_desk.proofs.Slotting.{held-next}
use Rattle.flow_desk.proofs.slots.held_of.Goals as goal

pub loop-slot-preserved : goal.loop-slot-preserved
loop-slot-preserved g c =
    let l = c.args.list.now.lineup in
    let less : c.loop-slot.slot < len_of l = rw (← c.len-slot-end.ensures.value) c.loop-slot-test.true in
    rw c.in_ok-note.ensures (held-next l c.loop-slot.held.items c.loop-slot.slot (len_of l) less ∙ c.loop-slot.invariant)
