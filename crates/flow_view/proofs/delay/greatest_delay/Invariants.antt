use Rattle.std.proofs.Common.{◌≡◌, take}
use Rattle.flow_view.specs.Delays.{greatest_delay}
use Rattle.flow_view.proofs.delay.greatest_delay.Given as goal

abbrev pub invariant-loop-delay : goal.invariant-loop-delay
invariant-loop-delay l = l.most ≡ greatest_delay (take l.delay-index l.delays)
