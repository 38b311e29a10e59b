use Rattle.std.proofs.Common.{sym, ◌∙◌}
use Rattle.std.proofs.lemmas.Bool.{and_parts, ltb-true, eqb-true}
use Rattle.fpl_items.proofs.ItemsLemmas.{begins_item-is, stroke-behind}
use Rattle.fpl_items.proofs.item.begins_item.Goals as goal

pub returns-clause-value : goal.returns-clause-value
returns-clause-value c = c.has_name.ensures ∙ begins_item-is c.args.measured.now.word.now c.args.measured.now.letters_or_digits c.requires

pub returns-clause-stroke : goal.returns-clause-stroke
returns-clause-stroke c h =
    let front = and_parts _ _ (and_parts _ _ (and_parts _ _ (and_parts _ _ (sym c.has_name.ensures ∙ h)).0).0).0 in
    sym (stroke-behind c.args.measured.now.word.now c.args.measured.now.letters_or_digits c.requires (ltb-true _ _ front.0) (eqb-true _ 47 front.1))
