use Rattle.flow_slots.proofs.Sound.{none_twice, one_each, all_held, fixed_held}
use Rattle.flow_slots.proofs.laws.one_slot_each.Goals as goal

pub returns-clause-pairs : goal.returns-clause-pairs
returns-clause-pairs c = λ l s. none_twice l s.lined

pub returns-clause-inverse : goal.returns-clause-inverse
returns-clause-inverse c = λ l flight k s. one_each l s.lined flight k

pub returns-clause-all : goal.returns-clause-all
returns-clause-all c = all_held

pub returns-clause-kept : goal.returns-clause-kept
returns-clause-kept c = fixed_held
