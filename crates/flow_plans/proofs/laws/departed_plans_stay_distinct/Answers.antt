use Rattle.flow_plans.proofs.Distincts.{departed-distinct, departed-keys, departed-count}
use Rattle.flow_plans.proofs.laws.departed_plans_stay_distinct.Goals as goal

pub returns-clause-distinct : goal.returns-clause-distinct
returns-clause-distinct c = departed-distinct

pub returns-clause-keys : goal.returns-clause-keys
returns-clause-keys c = departed-keys

pub returns-clause-count : goal.returns-clause-count
returns-clause-count c = departed-count
