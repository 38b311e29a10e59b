use Rattle.std.proofs.Common.{◌≡◌, ◌≤◌, take, nat_le}
use Rattle.std.specs.Prelude.{count_by, ◌&&◌}
use Rattle.flow_view.proofs.delay.flights_from_to.Given as goal

abbrev pub invariant-loop-delay : goal.invariant-loop-delay
invariant-loop-delay l = record {
  counted : l.count ≡ count_by (λ d. nat_le l.least d.minutes && nat_le d.minutes l.most) (take l.delay-index l.delays);
  most : l.count ≤ l.delay-index;
}
