use Rattle.flow_input.proofs.FrameLists.{frames-some}
use Rattle.flow_input.proofs.InTurn.{frames-no, in_turn, in_turn-whole}
use Rattle.flow_input.proofs.laws.frames_come_in_turn.Goals as goal

pub returns-clause-first : goal.returns-clause-first
returns-clause-first c = frames-some

pub returns-clause-none : goal.returns-clause-none
returns-clause-none c = frames-no

pub returns-clause-so_far : goal.returns-clause-so_far
returns-clause-so_far c = in_turn

pub returns-clause-whole : goal.returns-clause-whole
returns-clause-whole c = in_turn-whole
