-- What a walk over a chain meets.
use Rattle.std.proofs.Common.{◌≡◌, ℕ, zero, suc, ◌+◌, ◌-◌, ◌≤◌, ◌==◌, Bool, true, false, if◌then◌else◌, List, [], ◌∷◌, length, slice_index, refl, sym, ap, ◌∙◌, arith}
use Rattle.std.proofs.lemmas.Bool.Decides.{nat_tests}
use Rattle.flow_plans.specs.declared.chains.FlightName.{FlightName}
use Rattle.flow_plans.specs.Plans.{PlanView}
use Rattle.flow_plans.specs.Chains.{ChainsView, newest, is_held_there, newest_held, last_number, AreLinks, AreChained, chain_from, held_numbers}

walk-none : (m : ℕ) (older : List ℕ) → chain_from m older 0 ≡ []
unfolding chain_from
walk-none zero older = refl
walk-none (suc m) older = refl

walk-on : (m : ℕ) (older : List ℕ) (n : ℕ) → chain_from (suc m) older (n + 1) ≡ (n + 1) ∷ chain_from m older (slice_index older n)
unfolding chain_from
walk-on m older n =
    let some : (n + 1 == 0) ≡ false = grind (arith, nat_tests) in
    let back : n + 1 - 1 ≡ n = omega arith in
    rw (some, back) refl

held-more : (name : FlightName) (ps : List PlanView) (n : ℕ) (b : Bool) → is_held_there name ps n ≡ b
    → held_numbers name ps (suc n) ≡ (if b then (n + 1) ∷ held_numbers name ps n else held_numbers name ps n)
unfolding held_numbers
held-more name ps n b e = rw e refl

last-next : (name : FlightName) (ps : List PlanView) (n : ℕ) (b : Bool) → is_held_there name ps n ≡ b
    → newest_held name ps (suc n) ≡ (if b then n + 1 else newest_held name ps n)
unfolding last_number
last-next name ps n b e = rw e refl

held-none : (name : FlightName) (ps : List PlanView) → held_numbers name ps zero ≡ []
unfolding held_numbers
held-none name ps = refl

last-none-first : (name : FlightName) (ps : List PlanView) → newest_held name ps zero ≡ 0
unfolding last_number
last-none-first name ps = refl

module _ (name : FlightName) (ps : List PlanView) (older : List ℕ) (links : AreLinks (is_held_there name ps) older) where
  walk-all : (n m : ℕ) → n ≤ m → chain_from m older (newest_held name ps n) ≡ held_numbers name ps n
  walk-all zero m a = rw (last-none-first name ps) (walk-none m older ∙ sym (held-none name ps))
  walk-all (suc n) zero a = absurd (omega (arith, a))
  walk-all (suc n) (suc m) a = split (is_held_there name ps n) refl (walk-all n (suc m) (omega (arith, a))) (walk-all n m (omega (arith, a))) where
    split : (b : Bool) → is_held_there name ps n ≡ b → chain_from (suc m) older (newest_held name ps n) ≡ held_numbers name ps n
        → chain_from m older (newest_held name ps n) ≡ held_numbers name ps n
        → chain_from (suc m) older (newest_held name ps (suc n)) ≡ held_numbers name ps (suc n)
    split true e same fewer =
        rw (last-next name ps n true e, held-more name ps n true e)
        (walk-on m older n ∙ ap (λ (xs : List ℕ). (n + 1) ∷ xs) (ap (λ k. chain_from m older k) (links n e) ∙ fewer))
    split false e same fewer = rw (last-next name ps n false e, held-more name ps n false e) same

pub chain-held : (chains : ChainsView) (ps : List PlanView) (name : FlightName) → AreChained chains ps
    → chain_from (length ps) chains.older (newest chains.heads name) ≡ held_numbers name ps (length ps)
chain-held chains ps name are =
    ap (λ k. chain_from (length ps) chains.older k) (are.heads name) ∙ walk-all name ps chains.older (are.links name) (length ps) (length ps) (omega arith)
