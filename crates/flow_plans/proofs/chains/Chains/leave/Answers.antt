use Rattle.std.proofs.Common.{ℕ, ◌≡◌, ⊎_elim, None, List, ◌≤◌, ◌<◌, ◌-◌, length, slice_set, slice_index, refl, sym, ◌∙◌, arith}
use Rattle.std.specs.Map.{lookup}
use Rattle.std.proofs.lemmas.Bool.{cases_lt}
use Rattle.std.proofs.lemmas.Grind.{get_or_default_zero}
use Rattle.flow_plans.specs.declared.chains.FlightName.{FlightName}
use Rattle.indexmap.specs.IndexMap.{spare}
use Rattle.flow_plans.specs.Chains.{ChainsView, newest, same_flight, IsUpdated, LeaveOut}
use Rattle.flow_plans.proofs.ChainLemmas.{updated-names}
use Rattle.flow_plans.proofs.ChainChanges.{IsReached, out-absent, out-newest, out-later, out-past, out-stay}
use Rattle.flow_plans.proofs.chains.Chains.leave.Goals as goal

pub returns-then-newest-number-clause-out : goal.returns-then-newest-number-clause-out
returns-then-newest-number-clause-out g c =
    let chains : ChainsView = record { heads = c.self.inside.heads.entries; older = c.self.inside.older.items; room = spare c.self.inside.heads } in
    let later : ChainsView = record { heads = c.lower_newest-newest.new.heads.entries; older = chains.older; room = spare c.lower_newest-newest.new.heads } in
    let inside : c.args.number ≤ length chains.older = rw (← c.self.view_is) at c.requires.number.1 in
    let value : c.index-next.result.now ≡ slice_index chains.older (c.args.number - 1) =
    c.index-next.ensures ∙ get_or_default_zero chains.older (c.args.number - 1) c.index-next.result.now (omega (arith, inside, c.requires.number.0)) in
    let left : LeaveOut chains later c.args.name.now c.args.number =
    ⊎_elim
    (λ (below : c.lower_newest-newest.result < c.args.number).
    out-stay chains chains later c.args.name.now c.args.number
    (c.lower_newest-newest.ensures.kept (λ (e : c.lower_newest-newest.result ≡ c.args.number). omega (arith, e, below))) refl
    (out-absent chains c.args.name.now c.args.number c.requires.number.0 inside (omega (arith, c.lower_newest-newest.ensures.before, below))))
    (λ (above : c.args.number ≤ c.lower_newest-newest.result).
    let own : c.lower_newest-newest.result ≡ c.args.number = omega (arith, above, c.if-newest-number.true) in
    let updates : IsUpdated chains.heads c.lower_newest-newest.new.heads.entries c.args.name.now (slice_index chains.older (c.args.number - 1)) =
    rw value at (c.lower_newest-newest.ensures.lowered own) in
    out-newest chains c.args.name.now c.args.number c.requires.number.0 inside c.lower_newest-newest.new.heads.entries (spare c.lower_newest-newest.new.heads)
    (sym c.lower_newest-newest.ensures.before ∙ own) updates)
    (cases_lt c.lower_newest-newest.result c.args.number) in
    rw (← c.self.view_is) left

pub returns-then-newest-number-clause-kept : goal.returns-then-newest-number-clause-kept
returns-then-newest-number-clause-kept g c =
    let heads : List (FlightName × ℕ) = c.self.inside.heads.entries in
    let later : List (FlightName × ℕ) = c.lower_newest-newest.new.heads.entries in
    let names : (q : FlightName) → lookup (same_flight q) later ≡ None → lookup (same_flight q) heads ≡ None =
    ⊎_elim
    (λ (below : c.lower_newest-newest.result < c.args.number).
    λ q none. sym (c.lower_newest-newest.ensures.kept (λ (e : c.lower_newest-newest.result ≡ c.args.number). omega (arith, e, below)) q) ∙ none)
    (λ (above : c.args.number ≤ c.lower_newest-newest.result).
    updated-names heads later c.args.name.now c.index-next.result.now (c.lower_newest-newest.ensures.lowered (omega (arith, above, c.if-newest-number.true))))
    (cases_lt c.lower_newest-newest.result c.args.number) in
    rw (← c.self.view_is) (names, omega (arith, c.lower_newest-newest.ensures.room))

pub later_than-later-requires-clause-down : goal.later_than-later-requires-clause-down
later_than-later-requires-clause-down g c = rw c.deref.ensures.value c.self.invariant

pub later_than-later-requires-clause-within : goal.later_than-later-requires-clause-within
later_than-later-requires-clause-within g c =
    let most : newest c.self.inside.heads.entries c.args.name.now ≤ length c.self.inside.older.items = rw (← c.self.view_is) at c.requires.within in
    rw c.deref.ensures.value (omega (arith, c.lower_newest-newest.ensures.before, most))

pub returns-then-index-number-clause-out : goal.returns-then-index-number-clause-out
returns-then-index-number-clause-out g c =
    let chains : ChainsView = record { heads = c.self.inside.heads.entries; older = c.self.inside.older.items; room = spare c.self.inside.heads } in
    let n : ℕ = c.args.number in
    let l : ℕ = c.later_than-later.result in
    let inside : n ≤ length chains.older = rw (← c.self.view_is) at c.requires.number.1 in
    let within : l < length chains.older = rw c.deref.ensures.value at c.later_than-later.ensures.within in
    let reached : IsReached chains c.args.name.now l = rw (c.deref.ensures.value, c.lower_newest-newest.ensures.before) at c.later_than-later.ensures.held in
    let value : c.index-next.result.now ≡ slice_index chains.older (n - 1) =
    c.index-next.ensures ∙ get_or_default_zero chains.older (n - 1) c.index-next.result.now (omega (arith, inside, c.requires.number.0)) in
    let next : slice_index chains.older l ≡ n =
    sym (get_or_default_zero chains.older l c.index.result.now within) ∙ sym c.index.ensures ∙ c.if-index-number.true in
    rw (← c.self.view_is, value)
    (out-stay chains (record { heads = chains.heads; older = slice_set chains.older l (slice_index chains.older (n - 1)); room = chains.room })
    (record { heads = c.lower_newest-newest.new.heads.entries; older = slice_set chains.older l (slice_index chains.older (n - 1)); room = spare c.lower_newest-newest.new.heads }) c.args.name.now n
    (c.lower_newest-newest.ensures.kept (λ (e : c.lower_newest-newest.result ≡ c.args.number). omega (arith, e, c.if-newest-number.false))) refl
    (out-later chains c.args.name.now n c.requires.number.0 inside l chains.room c.later_than-later.ensures.later reached next))

pub returns-else-index-number-clause-out : goal.returns-else-index-number-clause-out
returns-else-index-number-clause-out g c =
    let chains : ChainsView = record { heads = c.self.inside.heads.entries; older = c.self.inside.older.items; room = spare c.self.inside.heads } in
    let n : ℕ = c.args.number in
    let l : ℕ = c.later_than-later.result in
    let inside : n ≤ length chains.older = rw (← c.self.view_is) at c.requires.number.1 in
    let within : l < length chains.older = rw c.deref.ensures.value at c.later_than-later.ensures.within in
    let reached : IsReached chains c.args.name.now l = rw (c.deref.ensures.value, c.lower_newest-newest.ensures.before) at c.later_than-later.ensures.held in
    let most : slice_index chains.older l ≤ n = rw c.deref.ensures.value at c.later_than-later.ensures.next in
    rw (← c.self.view_is)
    (out-stay chains chains (record { heads = c.lower_newest-newest.new.heads.entries; older = chains.older; room = spare c.lower_newest-newest.new.heads }) c.args.name.now n
    (c.lower_newest-newest.ensures.kept (λ (e : c.lower_newest-newest.result ≡ c.args.number). omega (arith, e, c.if-newest-number.false))) refl
    (out-past chains c.args.name.now n c.requires.number.0 inside l c.later_than-later.ensures.later reached most
    (λ (e : slice_index chains.older l ≡ n). c.if-index-number.false (c.index.ensures ∙ get_or_default_zero chains.older l c.index.result.now within ∙ e))))
