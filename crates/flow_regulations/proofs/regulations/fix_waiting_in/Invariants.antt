use Rattle.std.proofs.Common.{◌-◌, length}
use Rattle.flow_regulations.specs.Listing.{Walked, IsFixedWaiting}
use Rattle.flow_regulations.proofs.regulations.fix_waiting_in.Given as goal

abbrev pub invariant-loop-index : goal.invariant-loop-index
invariant-loop-index g l = Walked (IsFixedWaiting l.number) l.index l.initial.regulations l.regulations

abbrev pub decreases-loop-index : goal.decreases-loop-index
decreases-loop-index g l = length l.regulations - l.index
