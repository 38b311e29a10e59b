use Rattle.std.proofs.Common.{◌<◌, ◌-◌, length, arith}
use Rattle.flow_plans.proofs.Backs.{delayed-back}
use Rattle.flow_plans.proofs.store.delay_plan.Goals as goal

pub returns-clause-back : goal.returns-clause-back
returns-clause-back g c =
    let h : c.in_ok-number.number - 1 < length c.args.plans.now = omega (arith, rw c.as_slice.ensures at c.in_ok-number.ensures.within) in
    rw c.set_off_block.ensures
    (delayed-back c.in_ok-moment.moment c.off_block-held.result c.in_ok-number.number c.args.plans.now c.index-as_slice-number.result
    h (rw c.as_slice-2.ensures at c.index-as_slice-number.is) c.off_block-held.ensures.value)
