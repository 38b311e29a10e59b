use Rattle.fpl_items.proofs.OtherLemmas.{field-estimates}
use Rattle.fpl_items.proofs.estimates.Estimates.read.Goals as goal

pub note_items-places-requires-clause-are : goal.note_items-places-requires-clause-are
note_items-places-requires-clause-are g c = rw c.new.ensures (field-estimates c.args.field.now c.requires.faultless)
