use Rattle.std.proofs.Common.{sym, ◌∙◌}
use Rattle.std.proofs.lemmas.Bool.{true≢false}
use Rattle.flow_regulations.specs.Marks.{mask_of}
use Rattle.flow_regulations.proofs.MarkBits.{stands-late}
use Rattle.flow_regulations.proofs.held_marks.open_place.Goals as goal

pub returns-then-index-ge64 : goal.returns-then-index-ge64
returns-then-index-ge64 g c = λ f. (λ i below stood. stood, λ unset. absurd (true≢false (sym (stands-late (mask_of c.args.words.now f) c.args.index c.if-index-ge64.true) ∙ unset)))

pub returns : goal.returns
returns g c = λ f. (λ i below stood. c.mark_held.ensures.kept f i (c.clear_from.ensures f i below stood), c.mark_held.ensures.marked f)
