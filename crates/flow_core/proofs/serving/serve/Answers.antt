use Rattle.std.proofs.Common.{ap, arith}
use Rattle.flow_plans.specs.Settings.{SetupView}
use Rattle.flow_core.proofs.Undoables.{noted}
use Rattle.flow_core.proofs.serving.serve.Goals as goal

pub note-requires : goal.note-requires
note-requires g c = omega (arith, c.core.invariant.room, ap (λ (s : SetupView). s.max_plans) c.answer_all-served.ensures.more.setup)

pub invariant_of-core : goal.invariant_of-core
invariant_of-core g c = noted c.core.inside.ledger _ _ _ _ _ c.core.invariant c.answer_all-served.ensures.more.setup c.note.ensures.changed c.note.ensures.capacity
