use Rattle.flow_slots.proofs.Sound.{rise, in_order}
use Rattle.flow_slots.proofs.laws.slots_rise.Goals as goal

pub returns-clause-rise : goal.returns-clause-rise
returns-clause-rise c = λ l s. rise l s.lined

pub returns-clause-order : goal.returns-clause-order
returns-clause-order c = λ l v w j k s. in_order l v w j k s.lined
