use Rattle.flow_slots.proofs.Unmoved.{fixing-moves_nobody}
use Rattle.flow_slots.proofs.laws.fixing_moves_nobody.Goals as goal

pub returns : goal.returns
returns c = fixing-moves_nobody
