use Rattle.std.proofs.Common.{◌-◌, ◌≤◌, length}
use Rattle.flow_slots.specs.PackedCell.{planned_in}
use Rattle.flow_slots.proofs.Following.{Passed}
use Rattle.flow_slots.proofs.displacement.first_later.Given as goal

abbrev pub invariant-loop-chunk : goal.invariant-loop-chunk
invariant-loop-chunk l = record {
  passed : Passed l.cells l.from (planned_in l.flight) l.chunk;
}

abbrev pub decreases-loop-chunk : goal.decreases-loop-chunk
decreases-loop-chunk l = length l.cells - l.chunk

abbrev pub invariant-loop-flight : goal.invariant-loop-flight
invariant-loop-flight l = record {
  passed : Passed l.cells l.from (planned_in l.flight) l.place;
}

abbrev pub decreases-loop-flight : goal.decreases-loop-flight
decreases-loop-flight l = length l.cells - l.place
