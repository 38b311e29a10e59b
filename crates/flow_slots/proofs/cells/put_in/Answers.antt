use Rattle.std.proofs.Common.{◌++◌, ◌∷◌, [], ap, ◌∙◌, arith}
use Rattle.flow_slots.proofs.Filled.{filled-written, filled-appended}
use Rattle.flow_slots.proofs.cells.put_in.Goals as goal

pub returns-then-k-len-clause-items : goal.returns-then-k-len-clause-items
returns-then-k-len-clause-items g c =
    filled-written c.args.row.now.items c.args.k c.args.cell (omega (arith, c.if-k-len.true, c.len.ensures))

pub returns-else-k-len-clause-items : goal.returns-else-k-len-clause-items
returns-else-k-len-clause-items g c =
    c.push_reserved.ensures.items ∙ (ap (λ v. v ++ c.args.cell ∷ []) c.make.ensures.items ∙ filled-appended c.args.row.now.items c.args.k c.args.cell (omega (arith, c.if-k-len.false, c.len.ensures)))
