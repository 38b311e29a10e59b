use Rattle.std.proofs.Common.{◌≡◌, ◌∙◌, ℕ, List, length, subst, arith}
use Rattle.flow_regulations.specs.Marks.{mask_of, MaskMovesUp}
use Rattle.flow_regulations.proofs.Rows.{rows-removed, written-rows}
use Rattle.flow_regulations.proofs.place_table.PlaceTable.close.Goals as goal

pub returns : goal.returns
returns g c = λ ls rows.
    (let s = c.self.inside in
    let ws : List ℕ = c.close_place.new.words in
    let len : s.rows.len ≡ length ws = omega (arith, c.close_place.auto.words, c.deref_mut.ensures.len) in
    let O : List ℕ → Type 0 = λ vs. (r : ℕ) → MaskMovesUp c.args.index (mask_of vs r) (mask_of ws r) in
    written-rows s.rows.len ws _ _ len
    (rows-removed c.args.self.now ws c.args.index ls (subst O (c.deref_mut.ensures.value ∙ c.self.view_is) c.close_place.ensures) rows))
