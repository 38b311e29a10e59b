use Rattle.std.proofs.Common.{List}
use Rattle.fpl_message.specs.Filings.{FilingView}
use Rattle.flow_desk.specs.FeederPasses.{PassView}
use Rattle.flow_desk.specs.declared.feeders.End.{End}
use Rattle.flow_runs.specs.declared.feeding.Feed.{Feed}
use Rattle.flow_runs.proofs.FeedsRun.{feeds-ran}
use Rattle.flow_runs.proofs.feeding.run_all.Goals as goal

pub returns : goal.returns
returns g c =
    let F : Type 0 = Feed g.row.N.Denot g.row.A.Denot in
    let pass : F → PassView = λ f. f.pass in
    let left : F → List FilingView = λ f. f.left in
    let end : F → End = λ f. f.end in
    feeds-ran g.N.Name.setup pass left end c.args.feeds.items c.join_mut.result.1.items c.join_mut.ensures.1.met.1.0 c.join_mut.ensures.1.met.1.1
