use Rattle.std.proofs.Common.{◌≡◌, ◌+◌, ◌<◌, ◌++◌, ◌∷◌, [], List, length, ℕ, ap, ◌∙◌, arith}
use Rattle.std.specs.Prelude.{max}
use Rattle.indexmap.specs.IndexMap.{spare}
use Rattle.flow_plans.specs.Chains.{ChainsView, newest, flight_of_key, IsUpdated, AreChained}
use Rattle.flow_plans.proofs.ChainMoves.{head-within, down-push, append-chained}
use Rattle.flow_plans.proofs.chains.Chains.append.Goals as goal

pub invariant_of-self-2 : goal.invariant_of-self-2
invariant_of-self-2 g c =
    let chains : ChainsView = record { heads = c.self.inside.heads.entries; older = c.self.inside.older.items; room = spare c.self.inside.heads } in
    let are : AreChained chains c.args.plans.now = rw (← c.self.view_is) at c.requires.chained in
    let first : c.raise_newest-older.result ≡ newest chains.heads c.of_key-name.result =
    c.raise_newest-older.ensures.before ∙ ap (λ es. newest es c.of_key-name.result) c.in_ok-reserve-2.ensures.entries in
    let items : c.push_reserved.new.self.items ≡ chains.older ++ c.raise_newest-older.result ∷ [] =
    c.push_reserved.ensures.items ∙ ap (λ (xs : List ℕ). xs ++ c.raise_newest-older.result ∷ []) c.in_ok-reserve.ensures.items in
    rw items (down-push chains.older c.raise_newest-older.result (omega (arith, first, head-within chains c.args.plans.now c.of_key-name.result are, are.count)) c.self.invariant)

pub returns-clause-ok : goal.returns-clause-ok
returns-clause-ok g c =
    let chains : ChainsView = record { heads = c.self.inside.heads.entries; older = c.self.inside.older.items; room = spare c.self.inside.heads } in
    let are : AreChained chains c.args.plans.now = rw (← c.self.view_is) at c.requires.chained in
    let name : c.of_key-name.result ≡ flight_of_key c.args.plan.now.key = c.of_key-name.ensures ∙ ap (λ k. flight_of_key k) c.key.ensures in
    let all : c.raise_newest-older.result ≡ newest chains.heads c.of_key-name.result =
    c.raise_newest-older.ensures.before ∙ ap (λ es. newest es c.of_key-name.result) c.in_ok-reserve-2.ensures.entries in
    let few : c.raise_newest-older.result < length c.args.plans.now + 1 =
    omega (arith, all, head-within chains c.args.plans.now c.of_key-name.result are) in
    let most : max c.raise_newest-older.result (length c.args.plans.now + 1) ≡ length c.args.plans.now + 1 = omega (arith, few) in
    let first : c.raise_newest-older.result ≡ newest chains.heads (flight_of_key c.args.plan.now.key) = all ∙ ap (λ n. newest chains.heads n) name in
    let items : c.push_reserved.new.self.items ≡ chains.older ++ newest chains.heads (flight_of_key c.args.plan.now.key) ∷ [] =
    c.push_reserved.ensures.items ∙ ap (λ (xs : List ℕ). xs ++ c.raise_newest-older.result ∷ []) c.in_ok-reserve.ensures.items
    ∙ ap (λ (n : ℕ). chains.older ++ n ∷ []) first in
    let updates : IsUpdated chains.heads c.raise_newest-older.new.heads.entries (flight_of_key c.args.plan.now.key) (length c.args.plans.now + 1) =
    rw (name, c.in_ok-reserve-2.ensures.entries, most) at c.raise_newest-older.ensures.raised in
    rw items
    (append-chained chains c.args.plans.now c.args.plan.now c.requires.held are c.raise_newest-older.new.heads.entries (spare c.raise_newest-older.new.heads) updates)
