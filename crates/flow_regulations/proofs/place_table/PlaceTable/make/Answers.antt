use Rattle.std.proofs.Common.{◌≡◌, ◌∙◌, ℕ, List, ap}
use Rattle.flow_regulations.specs.Marks.{mask_of}
use Rattle.flow_regulations.proofs.Rows.{rows-as}
use Rattle.flow_regulations.proofs.place_table.PlaceTable.make.Goals as goal

pub returns : goal.returns
returns g c = λ ls. rows-as c.args.self.now c.make_room.new.words.items 0 ls (λ r. c.make_room.ensures r ∙ ap (λ (ws : List ℕ). mask_of ws r) c.self.view_is)
