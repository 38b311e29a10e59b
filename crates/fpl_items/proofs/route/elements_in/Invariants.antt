use Rattle.std.proofs.Common.{◌≡◌, ◌+◌, ◌≤◌, length, vec_len, vec_capacity}
use Rattle.fpl_items.specs.Routes.{elements_of, total_len}
use Rattle.fpl_items.proofs.RoutesLemmas.{with_front}
use Rattle.fpl_items.proofs.route.elements_in.Given as goal

abbrev pub invariant-words : goal.invariant-words
invariant-words g l = record {
  told : with_front l.elements.items (elements_of l.from l.words) ≡ elements_of l.fn.start l.fn.words;
  places : vec_len l.elements + length l.words ≤ vec_capacity l.elements;
  room : l.from + total_len l.words ≤ l.fn.start + total_len l.fn.words;
}

abbrev pub decreases-words : goal.decreases-words
decreases-words g l = length l.words
