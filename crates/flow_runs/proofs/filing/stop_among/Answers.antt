use Rattle.std.proofs.Common.{◌∙◌, List, Option, None, take, ap, sym, arith}
use Rattle.std.specs.List.{All, fold}
use Rattle.std.proofs.lemmas.List.Sums.{fold_more}
use Rattle.std.proofs.lemmas.List.{take_all}
use Rattle.flow_runs.specs.declared.fault.RunFault.{RunFault}
use Rattle.flow_runs.specs.declared.feeding.Feed.{Feed}
use Rattle.flow_runs.specs.Ends.{EndsWell, stop_after}
use Rattle.flow_runs.proofs.Stops.{if-none, one-more}
use Rattle.flow_runs.proofs.filing.stop_among.Goals as goal

pub loop-feed-preserved : goal.loop-feed-preserved
loop-feed-preserved g c =
    let well : Feed g.row.N.Denot g.row.A.Denot → Type 0 = λ d. EndsWell d.end in
    let f = c.feed-item.result in
    let stops : List (Feed g.row.N.Denot g.row.A.Denot) → Option RunFault = λ fs. fold (λ stop d. stop_after stop d.end) None fs in
    record {
      is = c.stop_with-stop.ensures.is
          ∙ (ap (λ stop. stop_after stop f.end) c.loop-feed.invariant.is ∙ (ap (λ (d : Feed g.row.N.Denot g.row.A.Denot). stop_after (stops (take c.loop-feed.feed-index c.args.feeds.now)) d.end) c.feed-item.is
          ∙ sym (fold_more (λ (stop : Option RunFault) (d : Feed g.row.N.Denot g.row.A.Denot). stop_after stop d.end) None c.args.feeds.now c.loop-feed.feed-index f c.loop-feed-test.true)));
      well = λ i d lt none. (let both = c.stop_with-stop.ensures.none none in
          one-more well c.args.feeds.now c.loop-feed.feed-index f c.loop-feed-test.true c.feed-item.is (λ j e lt. c.loop-feed.invariant.well j e lt both.0) both.1 i d lt);
      kinds = c.stop_with-stop.ensures.error_kinds c.loop-feed.invariant.kinds;
    }

pub returns-clause-none : goal.returns-clause-none
returns-clause-none g c =
    if-none c.loop-feed.stop (All (λ (d : Feed g.row.N.Denot g.row.A.Denot). EndsWell d.end) c.args.feeds.now) (λ none i d lt. c.loop-feed.invariant.well i d (omega (arith, lt, c.loop-feed-test.false)) none)

pub returns-clause-is : goal.returns-clause-is
returns-clause-is g c =
    c.loop-feed.invariant.is ∙ ap (λ (fs : List (Feed g.row.N.Denot g.row.A.Denot)). fold (λ (stop : Option RunFault) d. stop_after stop d.end) None fs) (take_all c.loop-feed.feed-index c.args.feeds.now (omega (arith, c.loop-feed-test.false)))
