use Rattle.std.proofs.Common.{◌≡◌, take}
use Rattle.flow_view.specs.Openings.{openings_after}
use Rattle.flow_view.proofs.opening.openings_of.Given as goal

abbrev pub invariant-loop-index : goal.invariant-loop-index
invariant-loop-index g l = record {
  setup : l.past.setup ≡ l.core.setup;
  filed : l.past.filed ≡ take l.index l.core.filed;
  openings : l.openings.items ≡ openings_after l.index l.core;
}
