use Rattle.std.proofs.Common.{◌≡◌, ◌-◌, List, length, take, ℕ, sym, ap, ◌∙◌, arith}
use Rattle.indexmap.specs.IndexMap.{spare}
use Rattle.flow_plans.specs.declared.chains.FlightName.{FlightName}
use Rattle.flow_plans.specs.Changes.{others}
use Rattle.flow_plans.specs.Chains.{ChainsView, newest, flight_of_key, AreChained}
use Rattle.flow_plans.proofs.Keepings.{plan-stood}
use Rattle.flow_plans.proofs.ChainMoves.{head-within, down-take, others-length, popped}
use Rattle.flow_plans.proofs.chains.Chains.pop.Goals as goal

pub withdraw-requires-clause-within : goal.withdraw-requires-clause-within
withdraw-requires-clause-within g c =
    omega (arith, head-within c.args.self.now c.args.plans.now c.of_key-name.result c.requires.chained, c.requires.chained.count)

pub invariant_of-self : goal.invariant_of-self
invariant_of-self g c = rw c.pop.ensures.rest (down-take c.self.inside.older.items _ c.self.invariant)

pub returns : goal.returns
returns g c =
    let plans = c.args.plans.now in
    let p = c.index-plans-plans.result in
    let left : ChainsView = c.withdraw.new.self in
    let name : c.of_key-name.result ≡ flight_of_key p.key = c.of_key-name.ensures ∙ ap (λ k. flight_of_key k) c.key.ensures in
    let are : AreChained left (others (length plans) plans) =
    c.withdraw.ensures.out plans c.requires.chained (rw (plan-stood plans (length plans) p c.requires.some (omega arith) c.index-plans-plans.is) (sym name)) in
    let older : c.self.inside.older.items ≡ left.older = ap (λ (v : ChainsView). v.older) c.self.view_is in
    let heads : c.self.inside.heads.entries ≡ left.heads = ap (λ (v : ChainsView). v.heads) c.self.view_is in
    let long : length left.older ≡ length plans = are.count ∙ others-length plans (length plans) p c.requires.some (omega arith) c.index-plans-plans.is in
    let items : c.pop.new.self.items ≡ take (length plans - 1) left.older =
    c.pop.ensures.rest ∙ ap (λ (n : ℕ). take (n - 1) c.self.inside.older.items) (c.self.inside.older.ok.0 ∙ ap (λ (xs : List ℕ). length xs) older ∙ long)
    ∙ ap (λ (xs : List ℕ). take (length plans - 1) xs) older in
    let stay : (q : FlightName) → newest c.self.inside.heads.entries q ≡ newest left.heads q = λ q. ap (λ es. newest es q) heads in
    let made = popped left plans p c.requires.some c.index-plans-plans.is are c.self.inside.heads.entries (spare c.self.inside.heads) stay in
    record { chained = rw (← items) at made }
