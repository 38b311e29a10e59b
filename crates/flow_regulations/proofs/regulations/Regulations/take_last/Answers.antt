use Rattle.std.proofs.Common.{List, subst}
use Rattle.flow_regulations.specs.Listing.{RegulationView, HaveCapacity, AreApart, names_in}
use Rattle.flow_regulations.specs.Marks.{AreInRows, AreMarked}
use Rattle.flow_regulations.proofs.Marking.{marked-front}
use Rattle.flow_regulations.proofs.Names.{apart-front, capacity-front}
use Rattle.flow_regulations.proofs.Rows.{rows-front}
use Rattle.flow_regulations.proofs.regulations.Regulations.take_last.Goals as goal

pub invariant_of-self : goal.invariant_of-self
invariant_of-self g c =
    let s = c.self.inside in
    let ns : List RegulationView = c.pop-last.new.self.items in
    let H : List RegulationView → Type 0 = HaveCapacity s.max_plans in
    let A : List RegulationView → Type 0 = λ ls. AreApart (names_in ls) in
    let M : List RegulationView → Type 0 = λ ls. AreMarked s.marks ls in
    let Z : List RegulationView → Type 0 = λ ls. AreInRows s.table 0 ls in
    (c.self.invariant.0, c.self.invariant.1, capacity-front s.max_plans ns _ (subst H c.pop-last.ensures.items c.self.invariant.2), apart-front ns _ (subst A c.pop-last.ensures.items c.self.invariant.3), marked-front s.marks ns _ (subst M c.pop-last.ensures.items c.self.invariant.4), rows-front s.table 0 ns _ (subst Z c.pop-last.ensures.items c.self.invariant.5))
