use Rattle.flow_plans.proofs.Departures.{outline-enters}
use Rattle.flow_plans.proofs.OutlineLemmas.{outline-within}
use Rattle.flow_plans.proofs.plan_list.PlanList.departure.Goals as goal

pub index-requires : goal.index-requires
index-requires g c =
    let s = c.self.inside in
    outline-within c.args.number s.outlines.len s.outlines.items s.plans.items c.args.self.now s.outlines.ok.0 c.self.invariant c.self.view_is c.requires.number

pub returns : goal.returns
returns g c =
    let s = c.self.inside in
    let inside = outline-within c.args.number s.outlines.len s.outlines.items s.plans.items c.args.self.now s.outlines.ok.0 c.self.invariant c.self.view_is c.requires.number in
    outline-enters c.args.number s.outlines.len s.outlines.items s.plans.items c.args.self.now c.index.result.now c.args.taxi c.args.start c.args.end c.args.letters c.departure.result
    inside s.outlines.ok.0 c.self.invariant c.self.view_is c.index.ensures c.departure.ensures
