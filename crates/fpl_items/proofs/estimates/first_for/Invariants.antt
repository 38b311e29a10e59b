use Rattle.std.proofs.Common.{◌≡◌, drop}
use Rattle.fpl_items.specs.Estimates.{first_for}
use Rattle.fpl_items.proofs.estimates.first_for.Given as goal

abbrev pub invariant-loop-note : goal.invariant-loop-note
invariant-loop-note l = first_for l.place (drop l.note-index l.notes) ≡ first_for l.place l.notes
