use Rattle.flow_plans.proofs.ChainWalks.{chain-held}
use Rattle.flow_plans.proofs.laws.chains_have_held_plans_alone.Goals as goal

pub returns : goal.returns
returns c = chain-held
