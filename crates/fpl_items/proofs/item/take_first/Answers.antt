use Rattle.fpl_items.proofs.EffectLemmas.{first-found, first-measured}
use Rattle.fpl_items.proofs.item.take_first.Goals as goal

pub returns-clause-items : goal.returns-clause-items
returns-clause-items c = first-found c.args.words.now _ _ c.requires c.next_measured.ensures.next

pub returns-clause-begins : goal.returns-clause-begins
returns-clause-begins c = first-measured c.args.words.now _ _ c.requires c.next_measured.ensures.next c.next_measured.ensures.letters_or_digits
