use Rattle.std.proofs.Common.{refl, arith}
use Rattle.std.proofs.lemmas.List.{ext_get_or}
use Rattle.flow_slots.specs.declared.cell.Cell.TheVariants.{Empty}
use Rattle.flow_slots.proofs.cells.Cells.same.Goals as goal

pub returns : goal.returns
returns g c =
    let same = ext_get_or Empty c.args.self.now.row c.args.other.now.row (omega arith) (λ j h. c.loop-k.invariant j (omega arith)) in
    ((λ _. same), (λ _. refl))
