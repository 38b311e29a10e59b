use Rattle.flow_slots.proofs.Held.{held_slot-fixed, held_slot-without}
use Rattle.flow_slots.proofs.slot_list.SlotList.release.Goals as goal

pub remove-requires : goal.remove-requires
remove-requires g c = held_slot-fixed c.args.flight c.args.self.now.lineup c.requires.fixed

pub insert-requires-clause-absent : goal.insert-requires-clause-absent
insert-requires-clause-absent g c =
    rw c.remove.ensures.lineup (held_slot-without c.args.flight c.args.self.now.lineup)
