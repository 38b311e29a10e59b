use Rattle.std.proofs.Common.{◌≡◌, ◌+◌, length}
use Rattle.std.specs.List.{list_all}
use Rattle.fpl_items.specs.Items.{words_before, is_estimate, items_of}
use Rattle.fpl_items.proofs.other.estimates_before_item.Given as goal

abbrev pub invariant-words : goal.invariant-words
invariant-words l = record {
  rest : list_all is_estimate (words_before l.words) ≡ list_all is_estimate (words_before l.fn.words);
  counted : l.count + length (words_before l.words) ≡ length (words_before l.fn.words);
  items : items_of l.words ≡ items_of l.fn.words;
}

abbrev pub decreases-words : goal.decreases-words
decreases-words l = length l.words
