use Rattle.std.proofs.Common.{◌≡◌, take}
use Rattle.std.specs.Prelude.{flat_map}
use Rattle.std.specs.Option.{option_to_list}
use Rattle.flow_core.specs.History.{state_of}
use Rattle.flow_view.specs.Counts.{entrant_of}
use Rattle.flow_view.proofs.count.entrants_of.Given as goal

abbrev pub invariant-loop-index : goal.invariant-loop-index
invariant-loop-index g l = l.entrants.items ≡ flat_map (λ p. option_to_list (entrant_of l.core.setup.taxi (state_of l.core).traffic.now l.spot p)) (take l.index (state_of l.core).traffic.plans)
