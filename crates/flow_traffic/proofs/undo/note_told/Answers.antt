use Rattle.std.proofs.Common.{◌≡◌, ℕ, ◌+◌, ◌-◌, ◌<◌, List, [], ◌∷◌, ◌++◌, length, take, get_or, sym, ap, subst, ◌∙◌, arith, Option, Some, slice_get}
use Rattle.std.proofs.lemmas.List.{take_more}
use Rattle.std.proofs.lemmas.Option.{slice_get-get_or}
use Rattle.flow_regulations.specs.declared.notice.Told.{Told}
use Rattle.flow_traffic.specs.Telling.{AreTold}
use Rattle.flow_traffic.proofs.ToldAgain.{told-more}
use Rattle.flow_traffic.proofs.undo.note_told.Goals as goal

pub loop-number-preserved : goal.loop-number-preserved
loop-number-preserved g c =
    let s = c.loop-number in
    let j : ℕ = s.number-index in
    let ns : List ℕ = c.args.changed.now in
    let ts : List (Option Told) = c.args.told.now in
    let n : ℕ = get_or ns j 0 in
    let o : Option Told = c.index-told-number.result in
    let within : j < length ns = c.loop-number-test.true in
    let number = c.requires.numbers j 0 within in
    let here : n - 1 < length ts = omega (arith, number.0, number.1) in
    let at : slice_get ts (n - 1) ≡ Some o = slice_get-get_or ts (n - 1) o here ∙ ap Some (sym c.index-told-number.is) in
    let A : List (Option Told) → Type 0 = λ os. AreTold (take (j + 1) ns) ts os in
    let B : List ℕ → Type 0 = λ ms. AreTold ms ts (s.noted.items ++ o ∷ []) in
    record {
      told = subst A (sym c.push_reserved.ensures.items) (subst B (sym (take_more ns j 0 within)) (told-more (take j ns) ts s.noted.items n o s.invariant.told at));
      count = omega (arith, c.push_reserved.ensures.len, s.invariant.count);
      capacity = c.push_reserved.ensures.capacity ∙ s.invariant.capacity;
    }
