use Rattle.std.proofs.Common.{sym, arith, ◌∙◌}
use Rattle.fpl_items.proofs.KindsLemmas.{kind-point}
use Rattle.fpl_items.proofs.route.kind_of_three.Goals as goal

pub returns-else-eq-5 : goal.returns-else-eq-5
returns-else-eq-5 c =
    kind-point c.args.word.now c.requires.letters
    (record {
      dct = sym (rw c.as_slice.ensures at c.eq.ensures) ∙ c.if-eq.false;
      vfr = sym (rw c.as_slice-else-eq.ensures at c.eq-else-eq.ensures) ∙ c.if-eq-2.false;
      ifr = sym (rw c.as_slice-else-eq-2.ensures at c.eq-else-eq-2.ensures) ∙ c.if-eq-3.false;
      oat = sym (rw c.as_slice-else-eq-3.ensures at c.eq-else-eq-3.ensures) ∙ c.if-eq-4.false;
      gat = sym (rw c.as_slice-else-eq-4.ensures at c.eq-else-eq-4.ensures) ∙ c.if-eq-5.false;
    })
    (omega (arith, c.requires.three)) (omega (arith, c.requires.three))
