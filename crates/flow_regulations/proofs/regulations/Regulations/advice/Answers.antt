use Rattle.std.proofs.Common.{List, sym, subst}
use Rattle.flow_regulations.specs.Listing.{RegulationView}
use Rattle.flow_regulations.specs.Marks.{IsMarked}
use Rattle.flow_regulations.proofs.regulations.Regulations.advice.Goals as goal

pub advice_of-requires-clause-covers : goal.advice_of-requires-clause-covers
advice_of-requires-clause-covers g c =
    let M : List RegulationView → Type 0 = λ ls. IsMarked c.of-word.result c.args.number 0 ls in
    subst M (sym c.deref.ensures.value) (c.of-word.ensures c.self.inside.regulations.items c.self.invariant.4)
