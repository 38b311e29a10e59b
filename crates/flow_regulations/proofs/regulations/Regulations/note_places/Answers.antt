use Rattle.std.proofs.Common.{List, sym, subst}
use Rattle.flow_regulations.specs.Listing.{RegulationView}
use Rattle.flow_regulations.specs.Marks.{IsMarked}
use Rattle.flow_regulations.proofs.regulations.Regulations.note_places.Goals as goal

pub note_places_in-requires-clause-covers : goal.note_places_in-requires-clause-covers
note_places_in-requires-clause-covers g c =
    let M : List RegulationView → Type 0 = λ ls. IsMarked c.of-word.result c.args.number 0 ls in
    subst M (sym c.deref.ensures.value) (c.of-word.ensures c.self.inside.regulations.items c.self.invariant.4)
