use Rattle.std.proofs.Common.{◌≡◌, ◌≤◌, ◌-◌, length, slice_index, sym, ◌∙◌, arith}
use Rattle.std.proofs.lemmas.Grind.{get_or_default_zero}
use Rattle.indexmap.specs.IndexMap.{spare}
use Rattle.flow_plans.specs.Chains.{ChainsView}
use Rattle.flow_plans.proofs.ChainChanges.{out-forgotten}
use Rattle.flow_plans.proofs.chains.Chains.withdraw.Goals as goal

pub returns-then-forget_alone-clause-out : goal.returns-then-forget_alone-clause-out
returns-then-forget_alone-clause-out g c =
    let chains : ChainsView = record { heads = c.self.inside.heads.entries; older = c.self.inside.older.items; room = spare c.self.inside.heads } in
    let inside : c.args.number ≤ length chains.older = rw (← c.self.view_is) at c.requires.number.1 in
    let last : slice_index chains.older (c.args.number - 1) ≡ 0 =
    sym (get_or_default_zero chains.older (c.args.number - 1) c.index.result.now (omega (arith, inside, c.requires.number.0))) ∙ sym c.index.ensures ∙ c.if-index-eq0.true in
    rw (← c.self.view_is)
    (out-forgotten chains c.args.name.now c.args.number c.forget_alone.new.heads.entries (spare c.forget_alone.new.heads) c.requires.number.0 inside
    (c.forget_alone.ensures.newest c.if-forget_alone.true) last (c.forget_alone.ensures.gone c.if-forget_alone.true))
