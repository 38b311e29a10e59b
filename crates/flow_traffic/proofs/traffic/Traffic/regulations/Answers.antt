use Rattle.std.proofs.Common.{sym, ap, map}
use Rattle.flow_regulations.specs.Listing.{IsListed, regulation_of}
use Rattle.flow_traffic.specs.Traffic.{TrafficView}
use Rattle.flow_traffic.proofs.traffic.Traffic.regulations.Goals as goal

pub returns-clause-open : goal.returns-clause-open
returns-clause-open g c = rw (sym (ap (λ (v : TrafficView). v.traffic) c.self.view_is)) (ap (map regulation_of) c.all.ensures)

pub returns-clause-lists : goal.returns-clause-lists
returns-clause-lists g c =
    let listed = rw c.self.invariant.kept.limit at c.self.invariant.kept.listed in
    rw (sym (ap (λ (v : TrafficView). v.traffic) c.self.view_is)) (rw c.all.ensures listed)
