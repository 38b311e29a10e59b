use Rattle.flow_plans.proofs.Distincts.{same-key-equal}
use Rattle.flow_plans.proofs.laws.same_keys_are_equal.Goals as goal

pub returns : goal.returns
returns c = same-key-equal
