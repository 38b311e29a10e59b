use Rattle.indexmap.specs.IndexMap.{spare}
use Rattle.flow_plans.proofs.Keepings.{nothing-chained}
use Rattle.flow_plans.proofs.chains.Chains.new.Goals as goal

pub returns : goal.returns
returns g c = nothing-chained (record { heads = c.new.result.entries; older = c.new-2.result.items; room = spare c.new.result }) c.new.ensures.empty c.new-2.ensures.items
