use Rattle.std.proofs.Common.{◌-◌}
use Rattle.flow_plans.proofs.NearLemmas.{AreTaken}
use Rattle.flow_plans.proofs.texts.words_on_way.Given as goal

abbrev pub invariant-loop-bit : goal.invariant-loop-bit
invariant-loop-bit l = AreTaken l.table l.places l.bit l.words

abbrev pub decreases-loop-bit : goal.decreases-loop-bit
decreases-loop-bit l = 64 - l.bit
