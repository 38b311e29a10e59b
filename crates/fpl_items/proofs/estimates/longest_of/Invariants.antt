use Rattle.std.proofs.Common.{◌≡◌, drop}
use Rattle.fpl_items.proofs.Longest.{longest_after}
use Rattle.fpl_items.proofs.estimates.longest_of.Given as goal

abbrev pub invariant-loop-note : goal.invariant-loop-note
invariant-loop-note l = longest_after l.longest (drop l.note-index l.notes) ≡ longest_after 0 l.notes
