use Rattle.std.proofs.Common.{◌≤◌, ◌+◌, length, vec_len, vec_capacity}
use Rattle.flow_desk.specs.Feeds.{Ran}
use Rattle.flow_desk.proofs.feeders.run_feed.Given as goal

abbrev pub invariant-loop-alloc : goal.invariant-loop-alloc
invariant-loop-alloc g l = record {
  room : vec_len l.feed.receipts + length l.left.items ≤ vec_capacity l.feed.receipts;
  ran : Ran l.fn.feed.pass l.fn.feed.left.items l.feed.pass l.feed.receipts.items l.left.items;
}

abbrev pub decreases-loop-alloc : goal.decreases-loop-alloc
decreases-loop-alloc g l = length l.left.items
