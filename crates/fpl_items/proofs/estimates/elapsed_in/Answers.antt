use Rattle.std.proofs.Common.{sym}
use Rattle.fpl_items.proofs.Notes.{none-for-long}
use Rattle.fpl_items.proofs.estimates.elapsed_in.Goals as goal

pub returns-then-place-gt11-clause-value : goal.returns-then-place-gt11-clause-value
returns-then-place-gt11-clause-value c = sym (none-for-long c.args.place.now c.args.notes.now c.if-place-gt11.true)
