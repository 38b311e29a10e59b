use Rattle.std.proofs.Common.{ap, subst, ◌∙◌}
use Rattle.flow_slots.specs.Lineup.{fixed_slot}
use Rattle.flow_regulations.specs.Listing.{RegulationView}
use Rattle.flow_regulations.specs.Marks.{IsInOrder}
use Rattle.flow_regulations.proofs.Looks.{held-fixed}
use Rattle.flow_regulations.proofs.regulation.Regulation.fixed_slot.Goals as goal

pub returns-then-is_fixed-clause-slot : goal.returns-then-is_fixed-clause-slot
returns-then-is_fixed-clause-slot g c =
    c.slot_of.ensures.slot ∙ (held-fixed c.self.inside.list.lineup c.args.number (c.is_fixed.ensures.fixed.0 c.if-is_fixed.true) ∙ ap (λ v. fixed_slot v.lineup c.args.number) c.self.view_is)

pub returns-then-is_fixed-clause-order : goal.returns-then-is_fixed-clause-order
returns-then-is_fixed-clause-order g c =
    let I : RegulationView → Type 0 = IsInOrder in
    subst I c.self.view_is (record { lined = c.is_fixed.ensures.lined; regular = c.self.invariant.0 })

pub returns-else-is_fixed-clause-order : goal.returns-else-is_fixed-clause-order
returns-else-is_fixed-clause-order g c =
    let I : RegulationView → Type 0 = IsInOrder in
    subst I c.self.view_is (record { lined = c.is_fixed.ensures.lined; regular = c.self.invariant.0 })
