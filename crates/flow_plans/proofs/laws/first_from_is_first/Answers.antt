use Rattle.flow_plans.proofs.FirstMoments.{first-from, time-of-first, none-before}
use Rattle.flow_plans.proofs.laws.first_from_is_first.Goals as goal

pub returns-clause-from : goal.returns-clause-from
returns-clause-from c = first-from

pub returns-clause-time : goal.returns-clause-time
returns-clause-time c = time-of-first

pub returns-clause-first : goal.returns-clause-first
returns-clause-first c = none-before
