use Rattle.std.proofs.Common.{◌≡◌, List, ℕ, Some, sym, ap, ◌∙◌, arith}
use Rattle.fpl_message.specs.declared.order.Spot.TheVariants.{Dep}
use Rattle.flow_plans.specs.Plans.{plan_at}
use Rattle.flow_plans.specs.Letters.{IsTold}
use Rattle.flow_plans.proofs.OutlineLemmas.{plan-read}
use Rattle.flow_plans.proofs.plan_list.PlanList.subject.Goals as goal

pub returns-then-letters-ne0 : goal.returns-then-letters-ne0
returns-then-letters-ne0 g c =
    let place : List ℕ = c.as_bytes.result.now in
    let told : IsTold place = record {
      most = c.as_bytes.ensures.fits;
      bytes = c.letters_of-letters.ensures.bytes;
      some = omega (arith, c.if-letters-ne0.true, c.letters_of-letters.ensures.letters);
    } in
    let at : c.args.spot.now ≡ Dep place = c.in-Dep.is ∙ ap Dep (sym c.as_bytes.ensures.value) in
    rw at (c.departure.ensures (Dep place) (told, c.letters_of-letters.ensures.letters))

pub returns : goal.returns
returns g c =
    let s = c.self.inside in
    let p = c.index.result.now in
    let at : plan_at c.args.self.now c.args.number ≡ Some p = plan-read c.args.number s.plans.items c.args.self.now p c.self.view_is c.requires.number.0 c.requires.number.1 c.index.ensures in
    rw at c.subject.ensures
