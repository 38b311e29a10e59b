use Rattle.std.proofs.Common.{◌≡◌, ◌≤◌, take}
use Rattle.std.specs.Prelude.{count_by, nat_lt}
use Rattle.flow_view.proofs.delay.flights_over.Given as goal

abbrev pub invariant-loop-delay : goal.invariant-loop-delay
invariant-loop-delay l = record {
  counted : l.count ≡ count_by (λ d. nat_lt l.minutes d.minutes) (take l.delay-index l.delays);
  most : l.count ≤ l.delay-index;
}
