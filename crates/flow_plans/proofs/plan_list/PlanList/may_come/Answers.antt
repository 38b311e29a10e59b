use Rattle.std.proofs.Common.{sym, ap, ◌∙◌, ◌&&◌}
use Rattle.flow_plans.specs.Outlines.{may_fly}
use Rattle.flow_plans.proofs.OutlineLemmas.{outline-within, outline-says}
use Rattle.flow_plans.proofs.plan_list.PlanList.may_come.Goals as goal

pub index-outline-requires : goal.index-outline-requires
index-outline-requires g c =
    let s = c.self.inside in
    outline-within c.args.number s.outlines.len s.outlines.items s.plans.items c.args.self.now s.outlines.ok.0 c.self.invariant c.self.view_is c.requires

pub returns-then-may_come : goal.returns-then-may_come
returns-then-may_come g c = λ never.
    (let s = c.self.inside in
    let o = c.index-outline.result.now in
    outline-says c.args.number s.outlines.len s.outlines.items s.plans.items c.args.self.now o c.args.taxi c.args.start c.args.end c.args.spot.now
    s.outlines.ok.0 c.self.invariant c.self.view_is c.requires c.index-outline.ensures
    (ap (λ b. b && may_fly c.args.taxi c.args.start c.args.end o) (sym c.may_come.ensures ∙ c.if-may_come.true) ∙ (sym c.may_fly.ensures ∙ never)))

pub returns-else-may_come : goal.returns-else-may_come
returns-else-may_come g c = λ never.
    (let s = c.self.inside in
    let o = c.index-outline.result.now in
    outline-says c.args.number s.outlines.len s.outlines.items s.plans.items c.args.self.now o c.args.taxi c.args.start c.args.end c.args.spot.now
    s.outlines.ok.0 c.self.invariant c.self.view_is c.requires c.index-outline.ensures
    (ap (λ b. b && may_fly c.args.taxi c.args.start c.args.end o) (sym c.may_come.ensures ∙ c.if-may_come.false)))
