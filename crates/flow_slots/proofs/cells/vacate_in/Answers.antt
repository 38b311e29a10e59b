use Rattle.flow_slots.proofs.cells.vacate_in.Goals as goal

pub vacate-requires-clause-entries : goal.vacate-requires-clause-entries
vacate-requires-clause-entries c = rw c.new-row.ensures.cells c.requires.entries
