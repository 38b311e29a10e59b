use Rattle.std.proofs.Common.{ℕ, ◌+◌, ◌≤◌, None, refl, arith}
use Rattle.flow_plans.specs.Plans.{plan_at}
use Rattle.flow_regulations.proofs.Advised.{advice-none, advice-some, ctot-fits, worst-kept, worst-start, within-kept}
use Rattle.flow_regulations.proofs.Outs.{no-delay}
use Rattle.flow_regulations.proofs.Passing.{worst-past}
use Rattle.flow_regulations.proofs.telling.advice_of.Goals as goal

pub loop-index-init : goal.loop-index-init
loop-index-init g c =
    let o = plan_at c.args.plans.now.plans c.args.number in
    record {
      value = worst-past c.args.plans.now.taxi c.args.number c.args.word 0 c.next_marked-index.result o c.args.regulations.now None c.requires.covers c.next_marked-index.ensures.from c.next_marked-index.ensures.passed (worst-start c.args.plans.now.taxi c.args.number o c.args.regulations.now);
      bound = no-delay c.args.plans.now.taxi 100_000_000 o None refl;
    }

pub returns-in_err-delay : goal.returns-in_err-delay
returns-in_err-delay g c =
    advice-none c.args.plans.now.taxi c.args.number c.loop-index.index (plan_at c.args.plans.now.plans c.args.number) c.args.regulations.now c.loop-index.worst c.from_residual.result
    (omega arith) c.loop-index.invariant.value c.in_err-delay.was c.from_residual.ensures

pub from_minutes-requires : goal.from_minutes-requires
from_minutes-requires g c =
    rw c.minutes-take_off.ensures.value
    (ctot-fits c.args.plans.now.taxi c.args.number 100_000_000 c.take_off.result c.args.plans.now.plans c.loop-index.worst c.in_ok-delay.delay
    c.requires.some c.requires.within c.loop-index.invariant.bound c.in_ok-delay.was c.take_off.ensures)

pub overflow_add-take_off : goal.overflow_add-take_off
overflow_add-take_off g c =
    let h = ctot-fits c.args.plans.now.taxi c.args.number 100_000_000 c.take_off.result c.args.plans.now.plans c.loop-index.worst c.in_ok-delay.delay
    c.requires.some c.requires.within c.loop-index.invariant.bound c.in_ok-delay.was c.take_off.ensures in
    omega (arith, h, c.minutes-take_off.ensures.value)

pub returns : goal.returns
returns g c =
    advice-some c.args.plans.now.taxi c.args.number c.loop-index.index c.from_minutes.result c.minutes-take_off.result (plan_at c.args.plans.now.plans c.args.number) c.args.regulations.now c.loop-index.worst c.in_ok-delay.delay
    (omega arith) c.loop-index.invariant.value c.in_ok-delay.was (rw c.minutes-take_off.ensures.value c.take_off.ensures) c.from_minutes.ensures

pub loop-index-preserved : goal.loop-index-preserved
loop-index-preserved g c =
    let o = plan_at c.args.plans.now.plans c.args.number in
    let i : ℕ = c.loop-index.index in
    let next : i + 1 ≤ c.next_marked-index-in-loop-index.result = omega (arith, c.next_marked-index-in-loop-index.ensures.from) in
    record {
      value = worst-past c.args.plans.now.taxi c.args.number c.args.word (i + 1) c.next_marked-index-in-loop-index.result o c.args.regulations.now c.worse-worst.result c.requires.covers next c.next_marked-index-in-loop-index.ensures.passed
          (worst-kept c.args.plans.now.taxi c.args.number i o c.args.regulations.now c.index-regulations-index.result
          c.loop-index.worst c.delay_in.result c.worse-worst.result c.loop-index-test.true c.index-regulations-index.is c.loop-index.invariant.value c.delay_in.ensures.value c.worse-worst.ensures);
      bound = within-kept c.args.plans.now.taxi 100_000_000 o c.loop-index.worst c.delay_in.result c.worse-worst.result
          c.loop-index.invariant.bound c.delay_in.ensures.bound c.worse-worst.ensures;
    }
