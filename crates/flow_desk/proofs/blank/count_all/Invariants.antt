use Rattle.std.proofs.Common.{length, take}
use Rattle.flow_core.specs.History.{state_of}
use Rattle.flow_desk.specs.Locks.{Counts}
use Rattle.flow_desk.proofs.blank.count_all.Given as goal

abbrev pub invariant-loop-index : goal.invariant-loop-index
invariant-loop-index g l = Counts (length l.initial.counts.items) (take l.index (state_of l.core).journal) l.counts.items
