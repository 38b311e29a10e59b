use Rattle.flow_slots.proofs.UndoneAll.{undoing-may, undoing-back}
use Rattle.flow_slots.proofs.laws.changes_undone.Goals as goal

pub returns-clause-may : goal.returns-clause-may
returns-clause-may c = undoing-may

pub returns-clause-back : goal.returns-clause-back
returns-clause-back c = undoing-back
