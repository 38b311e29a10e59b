use Rattle.std.proofs.Common.{◌+◌, ◌∷◌, drop, sym, ap, ◌∙◌, arith}
use Rattle.std.proofs.lemmas.List.{drop_more}
use Rattle.flow_slots.proofs.Periods.{part-end}
use Rattle.flow_slots.proofs.shape.time_from.Goals as goal

pub slots_in-slots-requires-clause-minutes : goal.slots_in-slots-requires-clause-minutes
slots_in-slots-requires-clause-minutes c =
    let ps = c.args.parts.now in
    let i = c.loop-part.part-index in
    let next = drop_more ps i c.part-item.result c.loop-part-test.true ∙ ap (λ v. v ∷ drop (i + 1) ps) (sym c.part-item.is) in
    omega (arith, part-end c.args.end c.loop-part.from c.loop-part.hourly i c.part-item.result ps (drop (i + 1) ps) next c.loop-part.invariant.subperiods)
