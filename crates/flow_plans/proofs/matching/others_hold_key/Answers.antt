use Rattle.flow_plans.proofs.Walks.{others-searched}
use Rattle.flow_plans.proofs.matching.others_hold_key.Goals as goal

pub returns : goal.returns
returns g c =
    others-searched c.args.key.now c.args.number c.args.plans.now c.is_held_in.result c.requires.number.0 c.requires.number.1
    c.is_held_in.ensures.found c.is_held_in.ensures.none
