use Rattle.std.proofs.Common.{ℕ, ◌+◌, arith}
use Rattle.flow_plans.proofs.NearLemmas.{taken-past, taken-one}
use Rattle.flow_plans.proofs.texts.words_on_way.Goals as goal

pub loop-bit-init : goal.loop-bit-init
loop-bit-init c = taken-past c.args.table.now c.args.places 0 c.next_bit-bit.result 0 c.next_bit-bit.ensures.passed (λ b l. absurd (omega (arith, l)))

pub loop-bit-preserved : goal.loop-bit-preserved
loop-bit-preserved c =
    let j : ℕ = c.loop-bit.bit in
    taken-past c.args.table.now c.args.places (j + 1) c.next_bit-bit-in-loop-bit.result _ c.next_bit-bit-in-loop-bit.ensures.passed (taken-one c.args.table.now c.args.places j c.loop-bit.words c.word_at-words.result c.word_at-words.ensures c.loop-bit.invariant)

pub returns : goal.returns
returns c = λ b h s. c.loop-bit.invariant b (omega (arith, h, c.loop-bit-test.false)) h s
