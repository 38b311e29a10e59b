use Rattle.std.proofs.Common.{ℕ, Option, refl, sym, subst}
use Rattle.std.specs.Option.{IsSome}
use Rattle.flow_plans.proofs.ChainLemmas.{updated-same}
use Rattle.flow_plans.proofs.chains.lower_newest.Goals as goal

pub returns-else-before-number-clause-kept : goal.returns-else-before-number-clause-kept
returns-else-before-number-clause-kept g c = λ other.
    updated-same c.args.heads.now.entries (c.get_mut.follows.lender c.in-Some.newest.now).entries c.args.name.now c.in-Some.newest.now
    (sym c.in-Some.ensures.value)
    ((c.get_mut.follows.holds c.in-Some.newest.now).3 (subst (λ (o : Option ℕ). IsSome o) c.in-Some.ensures.value refl)).0
