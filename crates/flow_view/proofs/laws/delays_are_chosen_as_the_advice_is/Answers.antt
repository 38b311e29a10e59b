use Rattle.flow_view.proofs.Advised.{advised}
use Rattle.flow_view.proofs.AdvisedAt.{advised-at}
use Rattle.flow_view.proofs.laws.delays_are_chosen_as_the_advice_is.Goals as goal

pub returns-clause-chosen : goal.returns-clause-chosen
returns-clause-chosen c = advised

pub returns-clause-frozen : goal.returns-clause-frozen
returns-clause-frozen c = advised-at
