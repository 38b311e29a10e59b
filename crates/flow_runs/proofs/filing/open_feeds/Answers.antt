use Rattle.std.proofs.Common.{◌≡◌, ◌++◌, [], List, map, ap, sym, subst, ◌∙◌}
use Rattle.flow_desk.specs.Desks.{AreOpened}
use Rattle.flow_desk.specs.FeederPasses.{PassView}
use Rattle.flow_runs.specs.declared.feeding.Feed.{Feed}
use Rattle.flow_runs.proofs.filing.open_feeds.Goals as goal

pub returns-clause-opened : goal.returns-clause-opened
returns-clause-opened g c =
    let F : Type 0 = Feed g.row.N.Denot g.row.A.Denot in
    let pass : F → PassView = λ f. f.pass in
    let none : c.reserve.new.self.items ≡ [] = c.reserve.ensures.items ∙ c.new-feeds.ensures.items in
    let all : c.in-Ok.passes.items ≡ map pass c.gather.new.feeds.items = sym (c.gather.ensures.passes ∙ ap (λ (fs : List F). map pass fs ++ c.in-Ok.passes.items) none) in
    subst (λ (ps : List PassView). AreOpened g.N.Name.feeders c.args.blank.entries ps) all c.in-Ok.ensures.opened

pub returns-clause-texts : goal.returns-clause-texts
returns-clause-texts g c =
    let F : Type 0 = Feed g.row.N.Denot g.row.A.Denot in
    let none : c.reserve.new.self.items ≡ [] = c.reserve.ensures.items ∙ c.new-feeds.ensures.items in
    c.gather.ensures.texts ∙ ap (λ (fs : List F). map (λ (f : F). f.left) fs ++ c.args.texts.items) none
