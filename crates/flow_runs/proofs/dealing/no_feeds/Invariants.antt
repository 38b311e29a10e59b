use Rattle.std.proofs.Common.{◌≡◌, ◌≤◌, [], map, vec_len, vec_capacity, List}
use Rattle.std.proofs.Math.ListN.{replicate}
use Rattle.fpl_message.specs.Filings.{FilingView}
use Rattle.flow_runs.proofs.dealing.no_feeds.Given as goal

abbrev pub invariant-loop : goal.invariant-loop
invariant-loop g l = record {
  empty : l.feeds.items ≡ replicate {A = List FilingView} l.counter [];
  len : vec_len l.feeds ≡ l.counter;
  room : l.feeders ≤ vec_capacity l.feeds;
}
