use Rattle.std.proofs.Common.{refl, sym, ◌∙◌}
use Rattle.fpl_items.proofs.EffectLemmas.{other-first}
use Rattle.fpl_items.proofs.item.take_eet.Goals as goal

pub returns-clause-no : goal.returns-clause-no
returns-clause-no c = λ no. (refl, other-first c.args.words.now c.requires (sym c.is_named.ensures ∙ c.if-is_named.false))
