use Rattle.flow_regulations.proofs.Stays.{advice-other}
use Rattle.flow_regulations.proofs.laws.other_regulation.Goals as goal

pub returns : goal.returns
returns c = advice-other
