use Rattle.std.proofs.Common.{◌+◌, ◌-◌, length, ap, ◌∙◌, arith}
use Rattle.flow_slots.specs.MadeRow.{filled}
use Rattle.flow_slots.proofs.Filled.{filled-more}
use Rattle.flow_slots.proofs.cells.make_to.Goals as goal

pub returns-then-made-k-clause-same : goal.returns-then-made-k-clause-same
returns-then-made-k-clause-same g c =
    ap (λ v. filled v c.args.len) c.make.ensures.items ∙ filled-more c.args.row.now.items c.args.len (c.args.k + 1 - length c.args.row.now.items) (omega arith)

pub returns-then-not-is_empty-clause-same : goal.returns-then-not-is_empty-clause-same
returns-then-not-is_empty-clause-same g c =
    ap (λ v. filled v c.args.len) c.make-then-not-is_empty.ensures.items ∙ filled-more c.args.row.now.items c.args.len (c.len-made.result + 1 - length c.args.row.now.items) (omega arith)
