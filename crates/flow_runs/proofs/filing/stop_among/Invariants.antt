use Rattle.std.proofs.Common.{◌≡◌, ◌<◌, ℕ, None, take, slice_index_or}
use Rattle.std.specs.List.{fold}
use Rattle.flow_runs.specs.Ends.{EndsWell, IsStop, stop_after}
use Rattle.flow_runs.proofs.filing.stop_among.Given as goal

abbrev pub invariant-loop-feed : goal.invariant-loop-feed
invariant-loop-feed g l = record {
  is : l.stop ≡ fold (λ stop f. stop_after stop f.end) None (take l.feed-index l.feeds);
  well : (i : ℕ) (d : _) → i < l.feed-index → l.stop ≡ None → EndsWell (slice_index_or l.feeds i d).end;
  kinds : IsStop l.stop;
}
