use Rattle.std.proofs.Common.{◌≡◌, ◌∙◌, ℕ, List, length, subst, arith}
use Rattle.flow_regulations.specs.Marks.{mask_of, MaskMovesUp}
use Rattle.flow_regulations.proofs.Marking.{marked-removed, written-words}
use Rattle.flow_regulations.proofs.held_marks.HeldMarks.close.Goals as goal

pub returns : goal.returns
returns g c = λ ls marked.
    (let s = c.self.inside in
    let ws : List ℕ = c.close_place.new.words in
    let len : s.words.len ≡ length ws = omega (arith, c.close_place.auto.words, c.deref_mut.ensures.len) in
    let O : List ℕ → Type 0 = λ vs. (f : ℕ) → MaskMovesUp c.args.index (mask_of vs f) (mask_of ws f) in
    written-words s.words.len ws _ _ len
    (marked-removed c.args.self.now ws c.args.index ls (subst O (c.deref_mut.ensures.value ∙ c.self.view_is) c.close_place.ensures) marked))
