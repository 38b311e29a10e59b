use Rattle.std.proofs.Common.{sym, ap}
use Rattle.flow_traffic.specs.Traffic.{TrafficView}
use Rattle.flow_traffic.proofs.Slots.{slots-named}
use Rattle.flow_traffic.proofs.traffic.Traffic.slots.Goals as goal

pub returns : goal.returns
returns g c =
    let named = slots-named c.self.inside.plans.taxi c.self.inside.regulations.max_plans c.self.inside.plans.plans c.args.id.now c.self.inside.regulations.lists c.self.invariant.kept.listed in
    let same = rw c.self.invariant.kept.limit at named in
    rw (sym (ap (λ (v : TrafficView). v.traffic) c.self.view_is)) (rw same at c.slots.ensures)
