use Rattle.std.proofs.Common.{◌≡◌, List, ◌∷◌, ◌++◌, [], length, Some, refl, ap, arith}
use Rattle.flow_plans.specs.Plans.{PlanView}
use Rattle.flow_plans.specs.Stores.{PlanStoreView}
use Rattle.flow_plans.specs.Changes.{plan_of}
use Rattle.flow_plans.proofs.Keepings.{returns-stay, pushed-back}
use Rattle.flow_plans.proofs.store.PlanStore.file.Goals as goal

pub append-requires-clause-held : goal.append-requires-clause-held
unfolding plan_of
append-requires-clause-held g c = rw c.in-Ok-new.ensures refl

pub invariant_of-self : goal.invariant_of-self
invariant_of-self g c =
    let same : c.append.new.self ≡ c.self.inside.plans = c.in_default-append.ensures.err in (
      omega (arith, c.self.invariant.0, ap length same),
      c.self.invariant.1,
      c.self.invariant.2,
      rw same c.self.invariant.3,
      c.in_default-append.ensures.chained,
      rw same (returns-stay c.self.inside.chains c.append.new.chains c.self.inside.last c.self.inside.plans c.in_default-append.ensures.kept c.self.invariant.5),
    )

pub returns-clause-before : goal.returns-clause-before
returns-clause-before g c =
    let now : c.append.new.self ≡ c.self.inside.plans ++ c.in-Ok-new.plan ∷ [] = c.in-Ok-append.ensures.ok in
    let old : c.self.inside.plans ≡ c.args.self.now.plans = ap (λ (s : PlanStoreView). s.plans) c.self.view_is in
    rw (now, pushed-back c.self.inside.plans c.in-Ok-new.plan) (ap (λ (ps : List PlanView). Some ps) old)
