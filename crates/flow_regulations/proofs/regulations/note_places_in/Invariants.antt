use Rattle.std.proofs.Common.{◌≡◌, ◌-◌, ◌≤◌, length, vec_capacity}
use Rattle.flow_regulations.proofs.Passing.{AreNoted}
use Rattle.flow_regulations.proofs.regulations.note_places_in.Given as goal

abbrev pub invariant-loop-index : goal.invariant-loop-index
invariant-loop-index g l = record {
  noted : AreNoted l.number l.index l.places.items l.regulations;
  count : length l.places.items ≤ l.index;
  capacity : vec_capacity l.places ≡ vec_capacity l.initial.places;
}

abbrev pub decreases-loop-index : goal.decreases-loop-index
decreases-loop-index g l = length l.regulations - l.index
