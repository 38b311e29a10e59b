use Rattle.std.proofs.Common.{◌≡◌, take}
use Rattle.flow_regulations.proofs.regulations.are_same.Given as goal

abbrev pub invariant-loop-index : goal.invariant-loop-index
invariant-loop-index g l = take l.index l.regulations ≡ take l.index l.others
