use Rattle.flow_plans.proofs.Distincts.{delayed-distinct, delayed-keys, delayed-count}
use Rattle.flow_plans.proofs.laws.delayed_plans_stay_distinct.Goals as goal

pub returns-clause-distinct : goal.returns-clause-distinct
returns-clause-distinct c = delayed-distinct

pub returns-clause-keys : goal.returns-clause-keys
returns-clause-keys c = delayed-keys

pub returns-clause-count : goal.returns-clause-count
returns-clause-count c = delayed-count
