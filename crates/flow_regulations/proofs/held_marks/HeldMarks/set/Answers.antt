use Rattle.std.proofs.Common.{◌≡◌, ◌∙◌, ℕ, List, length, subst, arith}
use Rattle.flow_regulations.specs.Marks.{mask_of}
use Rattle.flow_regulations.proofs.Marking.{marked-one, written-words}
use Rattle.flow_regulations.proofs.held_marks.HeldMarks.set.Goals as goal

pub returns : goal.returns
returns g c = λ before ls alone marked all.
    (let s = c.self.inside in
    let ws : List ℕ = c.set_word.new.words in
    let len : s.words.len ≡ length ws = omega (arith, c.set_word.auto.words, c.deref_mut.ensures.len) in
    let O : List ℕ → Type 0 = λ vs. (f : ℕ) → (f ≡ c.args.flight → ⊥) → mask_of ws f ≡ mask_of vs f in
    written-words s.words.len ws _ ls len
    (marked-one c.args.flight c.args.word c.args.self.now ws before ls (subst O (c.deref_mut.ensures.value ∙ c.self.view_is) c.set_word.ensures.others) c.set_word.ensures.one alone marked all))
