use Rattle.flow_plans.proofs.Distincts.{filed-distinct, filed-keys, filed-count, filed-number}
use Rattle.flow_plans.proofs.laws.filed_plans_stay_distinct.Goals as goal

pub returns-clause-distinct : goal.returns-clause-distinct
returns-clause-distinct c = filed-distinct

pub returns-clause-keys : goal.returns-clause-keys
returns-clause-keys c = filed-keys

pub returns-clause-count : goal.returns-clause-count
returns-clause-count c = filed-count

pub returns-clause-number : goal.returns-clause-number
returns-clause-number c = filed-number
