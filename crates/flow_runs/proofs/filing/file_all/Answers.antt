use Rattle.std.proofs.Common.{◌≡◌, ◌≢◌, ◌<◌, List, length, ◌++◌, None, map, ap, refl, sym, subst, ◌∙◌, arith}
use Rattle.std.specs.List.{All}
use Rattle.std.proofs.lemmas.List.{length-map}
use Rattle.fpl_message.specs.Filings.{FilingView}
use Rattle.flow_plans.specs.Settings.{SetupView}
use Rattle.flow_core.specs.State.{EntryView}
use Rattle.flow_core.specs.History.{History, state_of}
use Rattle.flow_desk.specs.Desks.{IsMissing}
use Rattle.flow_desk.specs.FeederPasses.{PassView}
use Rattle.flow_desk.specs.declared.feeders.End.{End}
use Rattle.flow_runs.specs.Ends.{EndsWell}
use Rattle.flow_runs.specs.Filing.{RanFeeds}
use Rattle.flow_runs.specs.declared.feeding.Feed.{Feed}
use Rattle.flow_runs.proofs.Closed.{closed, as-many, none-missing}
use Rattle.flow_core.proofs.Serves.{err-made}
use Rattle.flow_runs.proofs.Stops.{from-none, all-map}
use Rattle.flow_runs.proofs.filing.file_all.Goals as goal

pub returns-clause-filed : goal.returns-clause-filed
returns-clause-filed g c =
    let F : Type 0 = Feed g.row.N.Denot g.row.A.Denot in
    let olds : List F = c.in_ok-opened.opened.feeds.items in
    let news : List F = c.run_all-replay.result.1.items in
    let ps : List PassView = map (λ (f : F). f.pass) olds in
    let qs : List PassView = map (λ (f : F). f.pass) news in
    let ls : List (List FilingView) = map (λ (f : F). f.left) news in
    let es : List End = map (λ (f : F). f.end) news in
    let fs : List (List FilingView) = c.args.texts.items in
    let ran : RanFeeds g.N.Name.setup ps fs qs ls es = subst (λ (ts : List (List FilingView)). RanFeeds g.N.Name.setup ps ts qs ls es) c.in_ok-opened.ensures.texts c.run_all-replay.ensures in
    let taken : c.take_passes.new.passes.items ≡ qs = c.take_passes.ensures.passes ∙ ap (λ (vs : List PassView). vs ++ qs) c.in_ok-opened.ensures.passes.0 in
    let ends = c.stop_among-ends.result in
    let stop = c.close_desk.result.stop in
    let core : History = c.close_desk.result.core in
    let journal : List EntryView = (state_of core).journal in
    let most : core.setup.max_entries ≡ g.N.Name.setup.max_entries = ap (λ (q : SetupView). q.max_entries) c.close_desk.ensures.setup in
    let all_well : ends ≡ None → All EndsWell es = λ e. (all-map (λ (f : F). f.end) EndsWell news
    (subst (λ (gs : List F). All (λ f. EndsWell f.end) gs) c.as_slice.ensures.value (from-none ends (All (λ (f : F). EndsWell f.end) c.as_slice.result.now) c.stop_among-ends.ensures.none e))) in
    let well : stop ≡ None → length journal < g.N.Name.setup.max_entries → All EndsWell es = λ e few. all_well (sym (c.close_desk.ensures.is (omega (arith, few, most))) ∙ e) in
    let few : stop ≢ None → length journal < g.N.Name.setup.max_entries = λ stopped. omega (arith, most, c.close_desk.ensures.room stopped) in
    closed g.N.Name.setup g.N.Name.feeders c.args.blank.entries ps fs qs c.take_passes.new.passes.items ls es core stop
    c.requires.some c.requires.each c.in_ok-opened.ensures.opened ran well few taken c.close_desk.ensures.setup c.close_desk.ensures.one_thread c.close_desk.ensures.below c.close_desk.ensures.passes

pub take_passes-requires : goal.take_passes-requires
take_passes-requires g c =
    let F : Type 0 = Feed g.row.N.Denot g.row.A.Denot in
    let olds : List F = c.in_ok-opened.opened.feeds.items in
    let news : List F = c.run_all-replay.result.1.items in
    let pass : F → PassView = λ f. f.pass in
    let many = as-many g.N.Name.setup (map pass olds) (map (λ (f : F). f.left) olds) (map pass news) (map (λ (f : F). f.left) news) (map (λ (f : F). f.end) news) c.run_all-replay.ensures in
    omega (arith, many, length-map olds pass, length-map news pass, c.in_ok-opened.opened.passes.ok.0, ap length c.in_ok-opened.ensures.passes.0, c.in_ok-opened.ensures.passes.1)

pub close_desk-requires-clause-none : goal.close_desk-requires-clause-none
close_desk-requires-clause-none g c gone =
    let F : Type 0 = Feed g.row.N.Denot g.row.A.Denot in
    let olds : List F = c.in_ok-opened.opened.feeds.items in
    let news : List F = c.run_all-replay.result.1.items in
    let ps : List PassView = map (λ (f : F). f.pass) olds in
    let qs : List PassView = map (λ (f : F). f.pass) news in
    let taken : c.take_passes.new.passes.items ≡ qs = c.take_passes.ensures.passes ∙ ap (λ (vs : List PassView). vs ++ qs) c.in_ok-opened.ensures.passes.0 in
    let missing : IsMissing g.N.Name.feeders qs = subst (λ (vs : List PassView). IsMissing g.N.Name.feeders vs) taken gone in
    none-missing g.N.Name.setup g.N.Name.feeders c.args.blank.entries ps (map (λ (f : F). f.left) olds) qs (map (λ (f : F). f.left) news) (map (λ (f : F). f.end) news)
    (ap length c.in_ok-opened.ensures.texts ∙ c.requires.each) c.in_ok-opened.ensures.opened c.run_all-replay.ensures missing

pub returns-in_err-opened-clause-fault : goal.returns-in_err-opened-clause-fault
returns-in_err-opened-clause-fault g c =
    rw (err-made c.from_residual.result c.from_residual.ensures.1) refl
