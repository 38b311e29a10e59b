use Rattle.flow_plans.proofs.RunLemmas.{all-flights, all-later}
use Rattle.flow_plans.proofs.laws.numbers_are_given_once.Goals as goal

pub returns-clause-flights : goal.returns-clause-flights
returns-clause-flights c = all-flights

pub returns-clause-greater : goal.returns-clause-greater
returns-clause-greater c = all-later
