use Rattle.flow_desk.proofs.Journals.{after-append}
use Rattle.flow_desk.proofs.laws.resumed_desks_go_on.Goals as goal

pub returns : goal.returns
returns c = after-append
