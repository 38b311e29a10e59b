use Rattle.std.proofs.Common.{◌≡◌, ◌<◌, ◌+◌, ℕ, take, length, slice_get, Some}
use Rattle.flow_view.specs.Delays.{delay_of_flight}
use Rattle.flow_view.proofs.delay.delays_of.Given as goal

abbrev pub invariant-loop-opening : goal.invariant-loop-opening
invariant-loop-opening g l = record {
  len : length l.greatest.items ≡ l.plans;
  each : (n : ℕ) → n < l.plans → slice_get l.greatest.items n ≡ Some (delay_of_flight (take l.opening-index l.openings) (n + 1));
}
