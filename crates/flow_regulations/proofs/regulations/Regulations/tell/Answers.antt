use Rattle.std.proofs.Common.{List, sym, subst}
use Rattle.flow_regulations.specs.Listing.{RegulationView}
use Rattle.flow_regulations.specs.Marks.{AreMarked}
use Rattle.flow_regulations.proofs.regulations.Regulations.tell.Goals as goal

pub tell-requires-clause-marked : goal.tell-requires-clause-marked
tell-requires-clause-marked g c =
    let M : List RegulationView → Type 0 = λ ls. AreMarked c.self.inside.marks ls in
    subst M (sym c.deref.ensures.value) c.self.invariant.4
