use Rattle.std.proofs.Common.{◌≡◌, ◌+◌, ◌*◌, ◌≤◌, length}
use Rattle.fpl_text.specs.declared.part.TheConstants.{MOST_PARTS}
use Rattle.fpl_message.specs.Orders.{parts_of}
use Rattle.fpl_message.proofs.OrderLemmas.{with_front}
use Rattle.fpl_message.proofs.sub_periods.parts_of.Given as goal

abbrev pub invariant-loop-moment : goal.invariant-loop-moment
invariant-loop-moment l = record {
  whole : with_front l.parts.items (parts_of l.words) ≡ parts_of l.fn.words;
  count : 2 * length l.parts.items + length l.words ≡ length l.fn.words;
  room : length l.parts.items ≤ MOST_PARTS;
}

abbrev pub decreases-loop-moment : goal.decreases-loop-moment
decreases-loop-moment l = length l.words
