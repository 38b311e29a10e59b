use Rattle.flow_runs.proofs.StoredLaws.{all-one, all-many, kept-one, answered-many, kept-many}
use Rattle.flow_runs.proofs.laws.stored_runs_keep_all.Goals as goal

pub returns-clause-one : goal.returns-clause-one
returns-clause-one c = all-one

pub returns-clause-many : goal.returns-clause-many
returns-clause-many c = all-many

pub returns-clause-later_one : goal.returns-clause-later_one
returns-clause-later_one c = kept-one

pub returns-clause-answered : goal.returns-clause-answered
returns-clause-answered c = answered-many

pub returns-clause-later_many : goal.returns-clause-later_many
returns-clause-later_many c = kept-many
