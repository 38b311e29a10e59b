use Rattle.std.proofs.Common.{◌≡◌, ◌≤◌, take, length}
use Rattle.std.specs.Prelude.{flat_map}
use Rattle.std.specs.Option.{option_to_list}
use Rattle.flow_view.proofs.delay.collected.Given as goal

abbrev pub invariant-loop-delay : goal.invariant-loop-delay
invariant-loop-delay g l = record {
  made : l.delays.items ≡ flat_map (λ d. option_to_list d) (take l.delay-index l.greatest);
  few : length l.delays.items ≤ l.delay-index;
}
