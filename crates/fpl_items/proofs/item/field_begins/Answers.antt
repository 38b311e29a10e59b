use Rattle.std.proofs.Common.{◌∙◌}
use Rattle.fpl_items.proofs.ItemsLemmas.{begins_item-is}
use Rattle.fpl_items.proofs.EffectLemmas.{field-begins}
use Rattle.fpl_items.proofs.item.field_begins.Goals as goal

pub returns : goal.returns
returns c = c.has_name.ensures ∙ begins_item-is c.args.field.now c.leading_letters_or_digits.result c.leading_letters_or_digits.ensures.value ∙ field-begins c.args.field.now
