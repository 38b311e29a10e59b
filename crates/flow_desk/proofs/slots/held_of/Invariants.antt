use Rattle.std.proofs.Common.{◌≡◌, ◌++◌, ◌-◌}
use Rattle.flow_slots.specs.Lineup.{len_of}
use Rattle.flow_desk.specs.Slots.{held_from}
use Rattle.flow_desk.proofs.slots.held_of.Given as goal

abbrev pub invariant-loop-slot : goal.invariant-loop-slot
invariant-loop-slot g l = l.held.items ++ held_from l.list.lineup l.slot (len_of l.list.lineup - l.slot) ≡ held_from l.list.lineup 0 (len_of l.list.lineup)
