use Rattle.flow_plans.proofs.RunLemmas.{turns-distinct}
use Rattle.flow_plans.proofs.laws.held_keys_always_differ.Goals as goal

pub returns : goal.returns
returns c = turns-distinct
