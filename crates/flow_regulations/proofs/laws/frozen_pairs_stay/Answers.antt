use Rattle.flow_regulations.proofs.Frozen.{settling-keeps, departing-keeps}
use Rattle.flow_regulations.proofs.laws.frozen_pairs_stay.Goals as goal

pub returns-clause-settling : goal.returns-clause-settling
returns-clause-settling c = λ taxi now plans r a t h. settling-keeps taxi now plans r a t h

pub returns-clause-departing : goal.returns-clause-departing
returns-clause-departing c = λ taxi max flight before r a h. departing-keeps taxi max flight before r a h
