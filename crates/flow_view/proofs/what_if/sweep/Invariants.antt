use Rattle.std.proofs.Common.{◌≡◌, take, map}
use Rattle.std.specs.List.{AllByRecursion}
use Rattle.flow_view.specs.Sweeps.{swept, order_at, Opens}
use Rattle.flow_view.proofs.what_if.sweep.Given as goal

abbrev pub invariant-loop-rate : goal.invariant-loop-rate
invariant-loop-rate g l = record {
  setup : l.core.setup ≡ l.fn.core.setup;
  filed : l.core.filed ≡ l.fn.core.filed;
  lines : l.lines.items ≡ map (swept l.fn.core l.order) (take l.rate-index l.rates);
  opened : AllByRecursion (λ rate. Opens l.fn.core (order_at l.order rate)) (take l.rate-index l.rates);
}
