use Rattle.flow_input.proofs.Texts.{ended-front, ended-last}
use Rattle.flow_input.proofs.laws.ended_frames_stay.Goals as goal

pub returns-clause-first : goal.returns-clause-first
returns-clause-first c = ended-front

pub returns-clause-all : goal.returns-clause-all
returns-clause-all c = ended-last
