use Rattle.std.proofs.Common.{refl, arith}
use Rattle.flow_plans.specs.Plans.{with_off_block}
use Rattle.flow_plans.proofs.Keepings.{any-stays, chained-unchanged}
use Rattle.flow_plans.proofs.store.PlanStore.delay.Goals as goal

pub invariant_of-self-2 : goal.invariant_of-self-2
invariant_of-self-2 g c =
    let n = c.in_ok-number.number in
    let f = with_off_block c.in_ok-number.off_block in (
      omega (arith, c.self.invariant.0, c.in_ok-number.ensures.count),
      c.self.invariant.1,
      c.self.invariant.2,
      c.in_ok-number.ensures.within,
      chained-unchanged c.self.inside.chains f n c.delay_plan.new.plans (any-stays f n c.delay_plan.new.plans (λ p. (refl, refl)))
          (rw c.in_ok-number.ensures.back c.self.invariant.4),
      tt,
    )
