use Rattle.flow_plans.proofs.Distincts.{cancelled-distinct, cancelled-keys, cancelled-count}
use Rattle.flow_plans.proofs.laws.cancelled_plans_stay_distinct.Goals as goal

pub returns-clause-distinct : goal.returns-clause-distinct
returns-clause-distinct c = cancelled-distinct

pub returns-clause-keys : goal.returns-clause-keys
returns-clause-keys c = cancelled-keys

pub returns-clause-count : goal.returns-clause-count
returns-clause-count c = cancelled-count
