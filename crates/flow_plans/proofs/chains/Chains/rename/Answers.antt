use Rattle.std.proofs.Common.{◌≡◌, ◌-◌, true, false, Some, refl, sym, ap, ◌∙◌, arith}
use Rattle.flow_plans.specs.Plans.{is_held, plan_at, with_plan}
use Rattle.flow_plans.specs.Changes.{others}
use Rattle.flow_plans.specs.Chains.{flight_of_key, same_flight, AreChained}
use Rattle.flow_plans.proofs.ChainLemmas.{same_flight-same, same_flight-flip}
use Rattle.flow_plans.proofs.ChainMoves.{head-within}
use Rattle.flow_plans.proofs.Keepings.{plan-stood, chained-set}
use Rattle.flow_plans.proofs.ChainChanges.{exchanged-out, exchanged-in}
use Rattle.flow_plans.proofs.chains.Chains.rename.Goals as goal

pub returns-then-eq-clause-chained : goal.returns-then-eq-clause-chained
returns-then-eq-clause-chained g c = λ q own named.
    (let p = c.index-plans-number.result in
    let there : plan_at c.args.plans.now c.args.number ≡ Some p = plan-stood c.args.plans.now c.args.number p c.requires.number.0 c.requires.number.1 c.index-plans-number.is in
    let held : is_held p.state ≡ true = rw there at c.requires.held in
    let before : c.of_key-before.result ≡ flight_of_key p.key = c.of_key-before.ensures ∙ ap (λ k. flight_of_key k) c.key.ensures in
    let equal : same_flight c.args.name c.of_key-before.result ≡ true = sym c.eq.ensures ∙ c.if-eq.true in
    chained-set c.args.self.now c.args.plans.now (c.args.number - 1) p q there (own ∙ sym held)
    (named ∙ same_flight-same c.args.name c.of_key-before.result equal ∙ before) c.requires.chained)

pub withdraw-requires-clause-within : goal.withdraw-requires-clause-within
withdraw-requires-clause-within g c =
    omega (arith, head-within c.args.self.now c.args.plans.now c.of_key-before.result c.requires.chained, c.requires.chained.count)

pub join-requires-clause-apart : goal.join-requires-clause-apart
join-requires-clause-apart g c =
    let p = c.index-plans-number.result in
    let there : plan_at c.args.plans.now c.args.number ≡ Some p = plan-stood c.args.plans.now c.args.number p c.requires.number.0 c.requires.number.1 c.index-plans-number.is in
    let before : c.of_key-before.result ≡ flight_of_key p.key = c.of_key-before.ensures ∙ ap (λ k. flight_of_key k) c.key.ensures in
    record {
      plans = c.args.plans.now;
      within = c.requires.number;
      chained = c.withdraw.ensures.out c.args.plans.now c.requires.chained (rw there (sym before));
    }

pub join-requires-clause-room : goal.join-requires-clause-room
join-requires-clause-room g c = λ none.
    (let apart : same_flight c.of_key-before.result c.args.name ≡ false = same_flight-flip c.args.name c.of_key-before.result false (sym c.eq.ensures ∙ c.if-eq.false) in
    omega (arith, c.withdraw.ensures.room, c.requires.room (c.withdraw.ensures.others c.args.name apart none)))

pub returns-clause-chained : goal.returns-clause-chained
returns-clause-chained g c = λ q own named.
    (let p = c.index-plans-number.result in
    let ps = c.args.plans.now in
    let n = c.args.number in
    let before : c.of_key-before.result ≡ flight_of_key p.key = c.of_key-before.ensures ∙ ap (λ k. flight_of_key k) c.key.ensures in
    let left : AreChained c.withdraw.new.self (others n (with_plan ps n q)) =
    exchanged-out ps (with_plan ps n q) n q c.requires.number.0 c.requires.number.1 refl
    c.args.self.now c.withdraw.new.self p c.of_key-before.result c.index-plans-number.is before c.requires.chained c.withdraw.ensures.out in
    exchanged-in ps (with_plan ps n q) n q c.requires.number.0 c.requires.number.1 refl
    c.withdraw.new.self c.join.new.self c.args.name own (sym named) left c.join.ensures.taken)
