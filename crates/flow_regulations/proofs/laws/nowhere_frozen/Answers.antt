use Rattle.flow_regulations.proofs.Stays.{advice-nowhere}
use Rattle.flow_regulations.proofs.laws.nowhere_frozen.Goals as goal

pub returns : goal.returns
returns c = λ taxi number p regulations h. advice-nowhere taxi number p regulations h
