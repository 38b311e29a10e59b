use Rattle.std.proofs.Common.{[], ◌∷◌, sym, ◌∙◌, arith}
use Rattle.std.proofs.lemmas.List.{length-append}
use Rattle.flow_slots.specs.declared.cell.Cell.TheVariants.{Empty}
use Rattle.flow_slots.proofs.Filled.{filled-more, filled-all}
use Rattle.flow_slots.proofs.cells.make.Goals as goal

pub loop-row-preserved : goal.loop-row-preserved
loop-row-preserved g c =
    let one = filled-more c.loop-row.row.items c.args.count 1 (omega arith) in
    rw (c.push_reserved.ensures.items, c.empty.ensures) (record {
      same = one ∙ c.loop-row.invariant.same;
      capacity = c.push_reserved.ensures.capacity ∙ c.loop-row.invariant.capacity;
      grows = omega (arith, c.loop-row.invariant.grows, length-append c.loop-row.row.items (Empty ∷ []));
    })

pub returns-clause-items : goal.returns-clause-items
returns-clause-items g c =
    sym (filled-all c.loop-row.row.items c.args.count (omega arith)) ∙ c.loop-row.invariant.same
