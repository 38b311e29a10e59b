use Rattle.std.proofs.Common.{◌≡◌, ◌≤◌, ◌*◌, take}
use Rattle.flow_view.specs.Delays.{delay_in_all}
use Rattle.flow_view.proofs.delay.delay_in_all.Given as goal

abbrev pub invariant-loop-delay : goal.invariant-loop-delay
invariant-loop-delay l = record {
  counted : l.total ≡ delay_in_all (take l.delay-index l.delays);
  most : l.total ≤ 4_294_967_295 * l.delay-index;
}
