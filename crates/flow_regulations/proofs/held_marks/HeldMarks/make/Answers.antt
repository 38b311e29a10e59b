use Rattle.std.proofs.Common.{◌≡◌, ◌∙◌, ℕ, List, ap}
use Rattle.flow_regulations.specs.Marks.{mask_of}
use Rattle.flow_regulations.proofs.Marking.{marked-as}
use Rattle.flow_regulations.proofs.held_marks.HeldMarks.make.Goals as goal

pub returns : goal.returns
returns g c = λ ls. marked-as c.args.self.now c.make_room.new.words.items ls (λ f. c.make_room.ensures f ∙ ap (λ (ws : List ℕ). mask_of ws f) c.self.view_is)
