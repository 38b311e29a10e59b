use Rattle.flow_slots.proofs.Sound.{held_within, held_number}
use Rattle.flow_slots.proofs.laws.slots_are_of_the_list.Goals as goal

pub returns-clause-slot : goal.returns-clause-slot
returns-clause-slot c = held_within

pub returns-clause-number : goal.returns-clause-number
returns-clause-number c = held_number
