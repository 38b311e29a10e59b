use Rattle.flow_plans.proofs.Walks.{held-searched}
use Rattle.flow_plans.proofs.matching.holds_key.Goals as goal

pub returns : goal.returns
returns g c = held-searched c.args.key.now c.args.plans.now c.is_held_in.result c.is_held_in.ensures.found c.is_held_in.ensures.none
