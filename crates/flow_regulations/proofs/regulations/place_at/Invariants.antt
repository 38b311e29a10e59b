use Rattle.std.proofs.Common.{◌≡◌, drop}
use Rattle.flow_regulations.specs.SlotStates.{place_at}
use Rattle.flow_regulations.proofs.regulations.place_at.Given as goal

abbrev pub invariant-loop-noted : goal.invariant-loop-noted
invariant-loop-noted l = place_at (drop l.noted-index l.places) l.index ≡ place_at l.places l.index
