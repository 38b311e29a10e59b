use Rattle.std.proofs.Common.{refl, ◌∙◌}
use Rattle.flow_regulations.proofs.Marking.{marked-word}
use Rattle.flow_regulations.proofs.held_marks.HeldMarks.of.Goals as goal

pub returns : goal.returns
returns g c = λ ls marked. marked-word c.args.flight c.word_of.result _ c.args.self.now ls ls (c.deref.ensures.value ∙ c.self.view_is) refl c.word_of.ensures marked
