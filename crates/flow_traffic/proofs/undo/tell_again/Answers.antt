use Rattle.std.proofs.Common.{◌≡◌, ℕ, ◌+◌, ◌-◌, ◌<◌, List, [], ◌∷◌, ◌++◌, length, take, get_or, slice_set, sym, ap, ◌∙◌, arith, Option}
use Rattle.std.proofs.lemmas.List.{take_more, length-set, length-take-le}
use Rattle.flow_regulations.specs.declared.notice.Told.{Told}
use Rattle.flow_traffic.specs.Telling.{told_again}
use Rattle.flow_traffic.proofs.ToldAgain.{again-more}
use Rattle.flow_traffic.proofs.undo.tell_again.Goals as goal

pub loop-index-preserved : goal.loop-index-preserved
loop-index-preserved g c =
    let s = c.loop-index in
    let j : ℕ = s.index in
    let ns : List ℕ = c.args.changed.now in
    let os : List (Option Told) = c.args.noted.now in
    let ts : List (Option Told) = c.args.told.now.items in
    let n : ℕ = get_or ns j 0 in
    let o : Option Told = c.index-noted-index.result in
    let within : j < length ns = c.loop-index-test.true in
    let inside : j < length os = omega (arith, within, c.requires.each) in
    let is : get_or os j o ≡ o = sym c.index-noted-index.is in
    record {
      told = ap (λ (us : List (Option Told)). slice_set us (n - 1) o) s.invariant.told
          ∙ sym (again-more (take j ns) (take j os) ts n o (length-take-le j os (omega (arith, inside)) ∙ sym (length-take-le j ns (omega (arith, within)))))
          ∙ ap (λ (ms : List ℕ). told_again ms (take j os ++ o ∷ []) ts) (sym (take_more ns j 0 within))
          ∙ ap (λ (ps : List (Option Told)). told_again (take (j + 1) ns) ps ts) (ap (λ (x : Option Told). take j os ++ x ∷ []) (sym is) ∙ sym (take_more os j o inside));
      length = length-set s.told.items (n - 1) o ∙ s.invariant.length;
    }
