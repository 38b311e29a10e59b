use Rattle.slotdesk.proofs.UnknownFiles.{unknown-store}
use Rattle.slotdesk.proofs.live.answer.Goals as goal

pub run_live-ended-requires-clause-store : goal.run_live-ended-requires-clause-store
run_live-ended-requires-clause-store g c = λ names outlive. unknown-store _ _ _ _ _ c.requires.sound
