use Rattle.flow_plans.proofs.RunLemmas.{back-at-once, turns-are-changes}
use Rattle.flow_plans.proofs.laws.what_is_taken_back_is_gone.Goals as goal

pub returns-clause-at_once : goal.returns-clause-at_once
returns-clause-at_once c = back-at-once

pub returns-clause-all : goal.returns-clause-all
returns-clause-all c = turns-are-changes
