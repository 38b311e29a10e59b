use Rattle.std.proofs.Common.{ℕ, ◌≡◌, ◌≤◌, ◌<◌, ◌-◌, length, slice_set, slice_index, length-set, sym, subst, ◌∙◌, arith}
use Rattle.std.specs.Prelude.{max}
use Rattle.std.proofs.lemmas.Grind.{get_or_default_zero}
use Rattle.indexmap.specs.IndexMap.{spare}
use Rattle.flow_plans.specs.Chains.{ChainsView, newest, IsUpdated, IsApart}
use Rattle.flow_plans.proofs.ChainLemmas.{updated-stays}
use Rattle.flow_plans.proofs.ChainMoves.{down-set}
use Rattle.flow_plans.proofs.ChainChanges.{IsReached, apart-within, apart-newest-within, apart-newest, apart-below, into-newest, into-later}
use Rattle.flow_plans.proofs.chains.Chains.join.Goals as goal

pub index_mut-requires : goal.index_mut-requires
index_mut-requires g c =
    let inside : c.args.number - 1 < length c.self.inside.older.items = rw (← c.self.view_is) at (apart-within c.args.self.now c.args.number c.requires.apart) in
    omega (arith, c.self.inside.older.ok.0, inside)

pub raise_newest-newest-requires-clause-some : goal.raise_newest-newest-requires-clause-some
raise_newest-newest-requires-clause-some g c = c.requires.apart.within.0

pub raise_newest-newest-requires-clause-room : goal.raise_newest-newest-requires-clause-room
raise_newest-newest-requires-clause-room g c = rw (← c.self.view_is) at c.requires.room

pub invariant_of-self : goal.invariant_of-self
invariant_of-self g c =
    let inside : c.args.number - 1 < length c.self.inside.older.items = rw (← c.self.view_is) at (apart-within c.args.self.now c.args.number c.requires.apart) in
    down-set c.self.inside.older.items (c.args.number - 1) c.raise_newest-newest.result inside (omega (arith, c.if-newest-number.true)) c.self.invariant

pub returns-then-newest-number-clause-taken : goal.returns-then-newest-number-clause-taken
returns-then-newest-number-clause-taken g c =
    let chains : ChainsView = record { heads = c.self.inside.heads.entries; older = c.self.inside.older.items; room = spare c.self.inside.heads } in
    let apart : IsApart chains c.args.number = rw (← c.self.view_is) at c.requires.apart in
    let first : c.raise_newest-newest.result ≡ newest chains.heads c.args.name = c.raise_newest-newest.ensures.before in
    let most : max c.raise_newest-newest.result c.args.number ≡ c.args.number = omega (arith, c.if-newest-number.true) in
    rw (← c.self.view_is, first)
    (into-newest chains c.args.number apart c.args.name c.raise_newest-newest.new.heads.entries (spare c.raise_newest-newest.new.heads)
    (omega (arith, first, c.if-newest-number.true))
    (subst (λ (m : ℕ). IsUpdated chains.heads c.raise_newest-newest.new.heads.entries c.args.name m) most c.raise_newest-newest.ensures.raised))

pub later_than-later-requires-clause-down : goal.later_than-later-requires-clause-down
later_than-later-requires-clause-down g c = rw c.deref.ensures.value c.self.invariant

pub later_than-later-requires-clause-within : goal.later_than-later-requires-clause-within
later_than-later-requires-clause-within g c =
    let chains : ChainsView = record { heads = c.self.inside.heads.entries; older = c.self.inside.older.items; room = spare c.self.inside.heads } in
    let apart : IsApart chains c.args.number = rw (← c.self.view_is) at c.requires.apart in
    rw c.deref.ensures.value (omega (arith, c.raise_newest-newest.ensures.before, apart-newest-within chains c.args.number apart c.args.name))

pub later_than-later-requires-clause-later : goal.later_than-later-requires-clause-later
later_than-later-requires-clause-later g c =
    let chains : ChainsView = record { heads = c.self.inside.heads.entries; older = c.self.inside.older.items; room = spare c.self.inside.heads } in
    let apart : IsApart chains c.args.number = rw (← c.self.view_is) at c.requires.apart in
    let other : newest chains.heads c.args.name ≡ c.args.number → ⊥ = apart-newest chains c.args.number apart c.args.name in
    omega (arith, other, c.raise_newest-newest.ensures.before, c.if-newest-number.false)

pub invariant_of-self-2 : goal.invariant_of-self-2
invariant_of-self-2 g c =
    let chains : ChainsView = record { heads = c.self.inside.heads.entries; older = c.self.inside.older.items; room = spare c.self.inside.heads } in
    let older = c.self.inside.older.items in
    let i : ℕ = c.args.number - 1 in
    let l : ℕ = c.later_than-later.result in
    let apart : IsApart chains c.args.number = rw (← c.self.view_is) at c.requires.apart in
    let within : i < length older = apart-within chains c.args.number apart in
    let inside : l < length older = rw c.deref.ensures.value at c.later_than-later.ensures.within in
    let next : slice_index older l ≤ c.args.number = rw c.deref.ensures.value at c.later_than-later.ensures.next in
    let reached : IsReached chains c.args.name l = rw (c.deref.ensures.value, c.raise_newest-newest.ensures.before) at c.later_than-later.ensures.held in
    let below : slice_index older l ≡ c.args.number → ⊥ = apart-below chains c.args.number apart c.args.name l reached in
    let value : c.index.result.now ≡ slice_index older l = c.index.ensures ∙ get_or_default_zero older l c.index.result.now inside in
    down-set (slice_set older i c.index.result.now) l c.args.number (omega (arith, inside, length-set older i c.index.result.now)) c.later_than-later.ensures.later
    (down-set older i c.index.result.now within (omega (arith, value, next, below)) c.self.invariant)

pub returns-clause-taken : goal.returns-clause-taken
returns-clause-taken g c =
    let chains : ChainsView = record { heads = c.self.inside.heads.entries; older = c.self.inside.older.items; room = spare c.self.inside.heads } in
    let l : ℕ = c.later_than-later.result in
    let apart : IsApart chains c.args.number = rw (← c.self.view_is) at c.requires.apart in
    let inside : l < length chains.older = rw c.deref.ensures.value at c.later_than-later.ensures.within in
    let next : slice_index chains.older l ≤ c.args.number = rw c.deref.ensures.value at c.later_than-later.ensures.next in
    let reached : IsReached chains c.args.name l = rw (c.deref.ensures.value, c.raise_newest-newest.ensures.before) at c.later_than-later.ensures.held in
    let value : c.index.result.now ≡ slice_index chains.older l = c.index.ensures ∙ get_or_default_zero chains.older l c.index.result.now inside in
    let most : c.raise_newest-newest.result ≡ max c.raise_newest-newest.result c.args.number = omega (arith, c.if-newest-number.false) in
    rw (← c.self.view_is, value)
    (into-later chains c.args.number apart c.args.name c.raise_newest-newest.new.heads.entries l (spare c.raise_newest-newest.new.heads)
    (updated-stays chains.heads c.raise_newest-newest.new.heads.entries c.args.name (max c.raise_newest-newest.result c.args.number)
    (sym c.raise_newest-newest.ensures.before ∙ most) c.raise_newest-newest.ensures.raised)
    c.later_than-later.ensures.later reached next)
