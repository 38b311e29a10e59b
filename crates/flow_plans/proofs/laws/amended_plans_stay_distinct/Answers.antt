use Rattle.flow_plans.proofs.Distincts.{amended-distinct, amended-keys, amended-count, amended-others}
use Rattle.flow_plans.proofs.laws.amended_plans_stay_distinct.Goals as goal

pub returns-clause-distinct : goal.returns-clause-distinct
returns-clause-distinct c = amended-distinct

pub returns-clause-keys : goal.returns-clause-keys
returns-clause-keys c = amended-keys

pub returns-clause-count : goal.returns-clause-count
returns-clause-count c = amended-count

pub returns-clause-others : goal.returns-clause-others
returns-clause-others c = amended-others
