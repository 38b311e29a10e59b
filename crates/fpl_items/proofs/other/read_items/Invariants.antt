use Rattle.std.proofs.Common.{◌≡◌, ◌+◌, length}
use Rattle.fpl_items.specs.Items.{items_of}
use Rattle.fpl_items.specs.Estimates.{estimate_count}
use Rattle.fpl_items.proofs.OtherLemmas.{SaySoFar}
use Rattle.fpl_items.proofs.other.read_items.Given as goal

abbrev pub invariant-items : goal.invariant-items
invariant-items l = record {
  say : SaySoFar l.effects.day l.effects.exempt (items_of l.words) (items_of l.fn.words);
  counted : l.effects.estimates + estimate_count (items_of l.words) ≡ estimate_count (items_of l.fn.words);
}

abbrev pub decreases-items : goal.decreases-items
decreases-items l = length (items_of l.words)
