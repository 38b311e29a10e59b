use Rattle.std.proofs.Common.{◌≡◌, ◌∙◌, ℕ, List, length, refl, subst, arith}
use Rattle.flow_regulations.specs.Listing.{RegulationView}
use Rattle.flow_regulations.specs.Marks.{mask_of, IsOpenedTo}
use Rattle.flow_regulations.proofs.Marking.{marked-last, written-words}
use Rattle.flow_regulations.proofs.held_marks.HeldMarks.open.Goals as goal

pub returns : goal.returns
returns g c = λ marked.
    (let s = c.self.inside in
    let ws : List ℕ = c.open_place.new.words in
    let ls : List RegulationView = c.args.regulations.now in
    let x : RegulationView = c.args.opened.now in
    let len : s.words.len ≡ length ws = omega (arith, c.open_place.auto.words, c.deref_mut.ensures.len) in
    let O : List ℕ → Type 0 = λ vs. (f : ℕ) → IsOpenedTo (length ls) x f (mask_of vs f) (mask_of ws f) in
    written-words s.words.len ws _ _ len
    (marked-last c.args.self.now ws (length ls) ls x refl (subst O (c.deref_mut.ensures.value ∙ c.self.view_is) c.open_place.ensures) marked))
