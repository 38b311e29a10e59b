use Rattle.std.proofs.Common.{◌≡◌, ℕ, None, ⊎_elim, sym, subst, arith}
use Rattle.std.specs.Prelude.{IfSome}
use Rattle.std.proofs.lemmas.Bool.{cases_lt}
use Rattle.flow_plans.specs.Plans.{plan_at}
use Rattle.flow_plans.specs.Entries.{subject}
use Rattle.flow_plans.proofs.plan_list.PlanList.next_coming.Goals as goal

pub loop-number-preserved : goal.loop-number-preserved
loop-number-preserved g c = record {
  from = omega (arith, c.loop-number.invariant.from);
  passed = λ n low high.
      let T : ℕ → Type 0 = λ k. IfSome (plan_at c.args.self.now k) (λ plan. subject c.args.taxi c.args.spot.now c.args.start c.args.end plan ≡ None) in
      ⊎_elim
      (λ below. c.loop-number.invariant.passed n low below)
      (λ above. let same : n ≡ c.loop-number.number = omega (arith, high, above) in
      subst T (sym same) (c.may_come.ensures c.if-may_come.false))
      (cases_lt n c.loop-number.number);
  most = omega (arith, c.loop-number.invariant.most, c.loop-number-test.true);
}
