use Rattle.flow_regulations.proofs.Stays.{keeps-refl, keeps-trans, keeps-join}
use Rattle.flow_regulations.proofs.laws.slots_are_kept.Goals as goal

pub returns-clause-same : goal.returns-clause-same
returns-clause-same c = λ number regulations. keeps-refl number regulations

pub returns-clause-in_turn : goal.returns-clause-in_turn
returns-clause-in_turn c = λ number first middle last k l. keeps-trans number first middle last k l

pub returns-clause-joined : goal.returns-clause-joined
returns-clause-joined c = λ number before after others others_after k l. keeps-join number before after others others_after k l
