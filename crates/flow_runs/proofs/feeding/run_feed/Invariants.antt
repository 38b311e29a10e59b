use Rattle.std.proofs.Common.{length}
use Rattle.flow_runs.specs.Filing.{FiledTo}
use Rattle.flow_runs.proofs.feeding.run_feed.Given as goal

abbrev pub invariant-loop-alloc : goal.invariant-loop-alloc
invariant-loop-alloc g l = FiledTo l.initial.feed.pass l.initial.feed.left l.feed.pass l.feed.left

abbrev pub decreases-loop-alloc : goal.decreases-loop-alloc
decreases-loop-alloc g l = length l.feed.left
