use Rattle.std.proofs.Common.{ap, sym, ◌∙◌}
use Rattle.fpl_items.specs.Items.{items_of}
use Rattle.fpl_items.proofs.EffectLemmas.{items-effect, begin-at}
use Rattle.fpl_items.proofs.item.skip_to_effect.Goals as goal

pub returns-clause-items : goal.returns-clause-items
returns-clause-items c = ap items_of c.skip_to_named.ensures ∙ sym (items-effect c.args.words.now)

pub returns-clause-begin : goal.returns-clause-begin
returns-clause-begin c = begin-at c.args.words.now _ c.skip_to_named.ensures
