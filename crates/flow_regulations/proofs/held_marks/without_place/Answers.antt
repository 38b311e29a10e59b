use Rattle.flow_regulations.proofs.MarkBits.{moved-up}
use Rattle.flow_regulations.proofs.held_marks.without_place.Goals as goal

pub returns : goal.returns
returns c = moved-up c.args.word c.args.index c.with_mark.result c.requires c.with_mark.ensures.kept c.with_mark.ensures.marked
