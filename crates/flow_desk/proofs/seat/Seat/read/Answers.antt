use Rattle.flow_desk.proofs.Keeping.{reads}
use Rattle.flow_desk.proofs.seat.Seat.read.Goals as goal

pub enter_as-requires : goal.enter_as-requires
enter_as-requires g c x = reads _ _ x
