use Rattle.flow_slots.proofs.StaysSound.{sound-none, sound-changed_by, sound-filled}
use Rattle.flow_slots.proofs.laws.lineups_stay_sound.Goals as goal

pub returns-clause-none : goal.returns-clause-none
returns-clause-none c = sound-none

pub returns-clause-changed : goal.returns-clause-changed
returns-clause-changed c = sound-changed_by

pub returns-clause-filled : goal.returns-clause-filled
returns-clause-filled c = sound-filled
