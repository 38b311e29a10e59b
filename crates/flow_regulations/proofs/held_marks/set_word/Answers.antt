use Rattle.std.proofs.Common.{◌≡◌, ℕ, true, sym, subst}
use Rattle.std.proofs.lemmas.List.{get_or_past}
use Rattle.flow_regulations.specs.Marks.{may_stand}
use Rattle.flow_regulations.proofs.MarkBits.{ones-stand}
use Rattle.flow_regulations.proofs.held_marks.set_word.Goals as goal

pub returns-else-place-words-clause-one : goal.returns-else-place-words-clause-one
returns-else-place-words-clause-one c = λ i s.
    (let S : ℕ → Type 0 = λ w. may_stand w i ≡ true in
    subst S (sym (get_or_past c.args.words.now c.args.flight 18_446_744_073_709_551_615 c.if-place-words.false)) (ones-stand i))
