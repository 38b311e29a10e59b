use Rattle.std.proofs.Common.{eqb, arith}
use Rattle.fpl_text.proofs.WordsLemmas.{count-more}
use Rattle.fpl_text.proofs.words.space_count.Goals as goal

pub lanes-preserved : goal.lanes-preserved
lanes-preserved c =
    let lanes = rw c.load.ensures.chunk at c.count_in-count.ensures.value in
    record {
      counted = omega (arith, c.lanes.invariant.counted, lanes, count-more (λ b. eqb b 32) c.args.text.now c.lanes.place 16 (omega arith));
      within = omega arith;
      few = omega (arith, c.lanes.invariant.few, c.count_in-count.ensures.bound);
    }
