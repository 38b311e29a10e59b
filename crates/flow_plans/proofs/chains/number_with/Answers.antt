use Rattle.std.proofs.Common.{◌≡◌, ◌<◌, ◌≤◌, ◌*◌, ◌+◌, ◌^◌, ℕ, take, get_or, refl, subst, ◌∙◌, arith}
use Rattle.std.specs.List.{fold}
use Rattle.flow_plans.proofs.FlightNumbers.{number-more, bound-more, power-within}
use Rattle.flow_plans.proofs.chains.number_with.Goals as goal

pub loop-byte-init : goal.loop-byte-init
loop-byte-init c = (refl, c.requires.front)

pub overflow_mul-number : goal.overflow_mul-number
overflow_mul-number c =
    let six : 256 ^ (4 + c.loop-byte.byte-index) ≤ 256 ^ 6 = power-within (4 + c.loop-byte.byte-index) 6 (omega (arith, c.loop-byte-test.true, c.requires.short)) in
    omega (arith, six, c.loop-byte.invariant.1)

pub loop-byte-preserved : goal.loop-byte-preserved
loop-byte-preserved c =
    let byte : c.from.result < 256 = rw c.from.ensures (omega (arith, c.type_inv.bytes c.loop-byte.byte-index)) in
    let on : 4 + c.loop-byte.byte-index + 1 ≡ 4 + (c.loop-byte.byte-index + 1) = omega arith in
    let value : 256 * c.loop-byte.number + c.from.result ≡ 256 * fold (λ number byte. 256 * number + byte) c.args.front (take c.loop-byte.byte-index c.args.bytes.now) + get_or c.args.bytes.now c.loop-byte.byte-index 0 =
    rw (c.from.ensures, c.loop-byte.invariant.0) refl in (
      value ∙ number-more c.args.front c.args.bytes.now c.loop-byte.byte-index c.loop-byte-test.true,
      subst (λ (n : ℕ). 256 * c.loop-byte.number + c.from.result < 256 ^ n) on
          (bound-more c.loop-byte.number c.from.result (4 + c.loop-byte.byte-index) c.loop-byte.invariant.1 byte),
    )
