use Rattle.std.proofs.Common.{◌+◌, ◌-◌}
use Rattle.flow_regulations.proofs.FixedNoted.{AreFixed}
use Rattle.flow_regulations.proofs.fixed_flights.note_fixed.Given as goal

abbrev pub invariant-loop-number : goal.invariant-loop-number
invariant-loop-number g l = AreFixed l.list.lineup l.number l.flights.items

abbrev pub decreases-loop-number : goal.decreases-loop-number
decreases-loop-number g l = l.last + 1 - l.number
