use Rattle.std.proofs.Common.{ap, arith}
use Rattle.flow_plans.specs.Settings.{SetupView}
use Rattle.flow_core.proofs.Undoables.{noted}
use Rattle.flow_core.proofs.serving.answer_frames.Goals as goal

pub note-requires : goal.note-requires
note-requires g c = omega (arith, c.core.invariant.room, ap (λ (s : SetupView). s.max_plans) c.answer_taken-answered.ensures.more.setup)

pub invariant_of-core : goal.invariant_of-core
invariant_of-core g c = noted c.core.inside.ledger _ _ _ _ _ c.core.invariant c.answer_taken-answered.ensures.more.setup c.note.ensures.changed c.note.ensures.capacity

pub returns-clause-fault : goal.returns-clause-fault
returns-clause-fault g c = rw (← c.core.view_is) c.answer_taken-answered.ensures.fault

pub returns-clause-answered : goal.returns-clause-answered
returns-clause-answered g c = rw (← c.core.view_is) c.answer_taken-answered.ensures.answered
