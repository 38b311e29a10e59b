use Rattle.std.proofs.Common.{◌≡◌, ◌+◌, drop}
use Rattle.flow_core.specs.History.{state_of}
use Rattle.flow_desk.specs.Blanks.{first_beyond}
use Rattle.flow_desk.proofs.blank.first_feeder_beyond.Given as goal

abbrev pub invariant-loop-index : goal.invariant-loop-index
invariant-loop-index g l = first_beyond l.feeders (l.index + 1) (drop l.index (state_of l.core).journal) ≡ first_beyond l.feeders 1 (state_of l.core).journal
