use Rattle.std.proofs.Common.{◌≡◌, ◌≤◌, take}
use Rattle.flow_view.specs.Counts.{entering_flights}
use Rattle.flow_view.proofs.count.entering_flights.Given as goal

abbrev pub invariant-loop-entrant : goal.invariant-loop-entrant
invariant-loop-entrant l = record {
  counted : l.count ≡ entering_flights l.from l.to l.standing (take l.entrant-index l.entrants);
  most : l.count ≤ l.entrant-index;
}
