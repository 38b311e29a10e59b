use Rattle.flow_slots.proofs.Optimal.{first_served, least_delay}
use Rattle.flow_slots.proofs.Sound.{next_free}
use Rattle.flow_slots.proofs.laws.delays_are_least.Goals as goal

pub returns-clause-next_free : goal.returns-clause-next_free
returns-clause-next_free c = next_free

pub returns-clause-first_served : goal.returns-clause-first_served
returns-clause-first_served c = λ l s. first_served l s.regular s.entries

pub returns-clause-least : goal.returns-clause-least
returns-clause-least c = λ l s. least_delay l s.regular s.entries
