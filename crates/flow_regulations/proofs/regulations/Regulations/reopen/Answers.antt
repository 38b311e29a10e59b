use Rattle.std.proofs.Common.{◌≡◌, ℕ, ◌<◌, false, List, length, sym, ap, subst, ◌∙◌, arith}
use Rattle.std.specs.List.{list_any}
use Rattle.flow_regulations.specs.Listing.{RegulationView, RegulationsView, HaveCapacity, AreApart, names_in, is_named}
use Rattle.flow_regulations.proofs.Names.{apart-insert, capacity-insert}
use Rattle.flow_regulations.proofs.regulations.Regulations.reopen.Goals as goal

pub unwrap-requires : goal.unwrap-requires
unwrap-requires g c =
    let R : RegulationsView → Type 0 = λ v. length v.lists < v.room in
    let room = subst R (sym c.self.view_is) c.requires.room in
    c.insert.ensures.succeeds (omega (arith, room))

pub invariant_of-self : goal.invariant_of-self
invariant_of-self g c =
    let s = c.self.inside in
    let k = c.closed.inside in
    let x : RegulationView = k.regulation in
    let made = rw c.unwrap.ensures at c.insert.ensures.items in
    let H : List RegulationView → Type 0 = HaveCapacity s.max_plans in
    let A : List RegulationView → Type 0 = λ ls. AreApart (names_in ls) in
    let capacity : x.lineup.capacity ≡ s.max_plans = ap (λ v. v.listed.lineup.capacity) c.closed.view_is ∙ (c.requires.capacity ∙ ap (λ v. v.max_plans) (sym c.self.view_is)) in
    let name : list_any (is_named x.id) s.regulations.items ≡ false = ap (λ v. list_any (is_named v.listed.id) s.regulations.items) c.closed.view_is ∙ (ap (λ v. list_any (is_named c.args.closed.listed.id) v.lists) c.self.view_is ∙ c.requires.name) in
    (c.self.invariant.0, c.self.invariant.1, subst H (sym made) (capacity-insert s.max_plans x s.regulations.items k.index c.self.invariant.2 capacity), subst A (sym made) (apart-insert x s.regulations.items k.index c.self.invariant.3 name), c.clear.ensures _, c.clear-2.ensures _)
