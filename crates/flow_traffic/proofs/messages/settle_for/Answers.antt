use Rattle.std.proofs.Common.{sym}
use Rattle.flow_regulations.proofs.Steps.{settled-but}
use Rattle.flow_traffic.proofs.Settles.{staying, leaving}
use Rattle.flow_traffic.proofs.messages.settle_for.Goals as goal
use Rattle.flow_traffic.proofs.messages.settle_for.Goals.{then-departs, else-departs}

pub returns-clause-settled : goal.returns-clause-settled
returns-clause-settled g c = λ s time taxi listing listed settled same.
    elim c.if-departs.branch [
      | then-departs w ↦
          let freeze = rw (sym listing) at w.freeze_departing.ensures.frozen in
          let frozen = freeze s.store.taxi s.store.plans listed in
          let renewed = rw (w.regulations-is, w.freeze_departing.ensures.limit, sym listing, sym taxi, sym time) at c.reallocate.ensures.renewed in
          let others = rw w.regulations-is at c.reallocate.ensures.others in
          rw w.if-departs.true (leaving c.args.number s c.args.plans.now.plans w.freeze_departing.new.self.lists c.reallocate.new.self.lists
          (rw (sym listing) at w.freeze_departing.ensures.others) frozen others
          (renewed s.store.plans frozen.listed (frozen.settled_but s.time settled) same))
      | else-departs w ↦
          let renewed = rw (w.regulations-is, sym listing, sym taxi, sym time) at c.reallocate.ensures.renewed in
          let others = rw (w.regulations-is, sym listing) at c.reallocate.ensures.others in
          rw w.if-departs.false (staying c.args.number s c.args.plans.now.plans c.reallocate.new.self.lists
          others (renewed s.store.plans listed (settled-but c.args.number s.store.taxi s.time s.store.plans s.listing.lists settled) same))
    ]
