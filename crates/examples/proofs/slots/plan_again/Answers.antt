use Rattle.std.proofs.Common.{◌≡◌, None, sym, subst}
use Rattle.flow_slots.specs.Lineup.{Lineup, held_slot}
use Rattle.flow_slots.proofs.Held.{held_slot-without}
use Rattle.examples.proofs.slots.plan_again.Goals as goal

pub insert-requires-clause-absent : goal.insert-requires-clause-absent
insert-requires-clause-absent g c = subst (λ (l : Lineup). held_slot l c.args.flight ≡ None) (sym c.remove.ensures.lineup) (held_slot-without c.args.flight c.args.list.now.lineup)
