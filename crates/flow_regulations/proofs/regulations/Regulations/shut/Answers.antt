use Rattle.std.proofs.Common.{◌≡◌, ℕ, true, false, List, length, get_or, sym, ap, subst, ◌∙◌, arith}
use Rattle.std.specs.List.{list_any, insert}
use Rattle.flow_regulations.specs.Listing.{RegulationView, HaveCapacity, AreApart, names_in, is_named, without_named, IsNamedAt}
use Rattle.flow_regulations.specs.Marks.{AreInRows, AreMarked}
use Rattle.flow_regulations.proofs.Closings.{all-named}
use Rattle.flow_regulations.proofs.Names.{none-without, removed-named, put-back-in-place, apart-without, gone-without}
use Rattle.flow_regulations.proofs.Walks.{all-at}
use Rattle.flow_regulations.proofs.regulations.Regulations.shut.Goals as goal

pub returns-in_err-index-clause-lists : goal.returns-in_err-index-clause-lists
returns-in_err-index-clause-lists g c =
    let N : List RegulationView → Type 0 = λ ls. list_any (is_named c.args.id.now) ls ≡ false in
    sym (none-without c.args.id.now c.args.self.now.lists (subst N (c.deref.ensures.value ∙ ap (λ v. v.lists) c.self.view_is) c.in_err-index.ensures.none))

pub invariant_of-self : goal.invariant_of-self
invariant_of-self g c =
    let s = c.self.inside in
    let id = c.args.id.now in
    let i : ℕ = c.in_ok-index.index in
    let x : RegulationView = c.remove-regulation.result in
    let F : List RegulationView → Type 0 = IsNamedAt id i in
    let found = subst F c.deref.ensures.value c.in_ok-index.ensures.found in
    let is : c.remove-regulation.new.self.items ≡ without_named id s.regulations.items = c.remove-regulation.ensures.items ∙ removed-named id s.regulations.items i x c.self.invariant.3 found.0 (found.1 x) in
    let H : List RegulationView → Type 0 = HaveCapacity s.max_plans in
    let A : List RegulationView → Type 0 = λ ls. AreApart (names_in ls) in
    let M : List RegulationView → Type 0 = λ ls. AreMarked c.close.new.self ls in
    let Z : List RegulationView → Type 0 = λ ls. AreInRows c.close-2.new.self 0 ls in
    let removed = sym c.remove-regulation.ensures.items in (
      c.self.invariant.0,
      c.self.invariant.1,
      subst H (sym is) (all-named (λ l. l.lineup.capacity ≡ s.max_plans) id s.regulations.items c.self.invariant.2),
      subst A (sym is) (apart-without id s.regulations.items c.self.invariant.3),
      subst M removed (c.close.ensures _ c.self.invariant.4),
      subst Z removed (c.close-2.ensures _ c.self.invariant.5),
    )

pub returns-clause-lists : goal.returns-clause-lists
returns-clause-lists g c =
    let s = c.self.inside in
    let id = c.args.id.now in
    let i : ℕ = c.in_ok-index.index in
    let x : RegulationView = c.remove-regulation.result in
    let F : List RegulationView → Type 0 = IsNamedAt id i in
    let found = subst F c.deref.ensures.value c.in_ok-index.ensures.found in
    c.remove-regulation.ensures.items ∙ (removed-named id s.regulations.items i x c.self.invariant.3 found.0 (found.1 x) ∙ ap (λ v. without_named id v.lists) c.self.view_is)

pub returns-clause-named : goal.returns-clause-named
returns-clause-named g c =
    let id = c.args.id.now in
    let F : List RegulationView → Type 0 = IsNamedAt id c.in_ok-index.index in
    let found = subst F c.deref.ensures.value c.in_ok-index.ensures.found in
    ap (is_named id) c.remove-regulation.ensures.value ∙ found.1 c.remove-regulation.result

pub returns-clause-closed : goal.returns-clause-closed
returns-clause-closed g c =
    let s = c.self.inside in
    let i : ℕ = c.in_ok-index.index in
    let x : RegulationView = c.remove-regulation.result in
    let F : List RegulationView → Type 0 = IsNamedAt c.args.id.now i in
    let found = subst F c.deref.ensures.value c.in_ok-index.ensures.found in
    ap (λ v. v.lists) (sym c.self.view_is)
    ∙ (sym (put-back-in-place s.regulations.items i x found.0)
    ∙ (ap (λ ls. insert ls i (get_or s.regulations.items i x)) (sym c.remove-regulation.ensures.items)
    ∙ ap (insert c.remove-regulation.new.self.items i) (sym c.remove-regulation.ensures.value)))

pub returns-clause-may : goal.returns-clause-may
returns-clause-may g c =
    let s = c.self.inside in
    let id = c.args.id.now in
    let i : ℕ = c.in_ok-index.index in
    let x : RegulationView = c.remove-regulation.result in
    let F : List RegulationView → Type 0 = IsNamedAt id i in
    let found = subst F c.deref.ensures.value c.in_ok-index.ensures.found in
    let is : c.remove-regulation.new.self.items ≡ without_named id s.regulations.items = c.remove-regulation.ensures.items ∙ removed-named id s.regulations.items i x c.self.invariant.3 found.0 (found.1 x) in
    let named : is_named id x ≡ true = ap (is_named id) c.remove-regulation.ensures.value ∙ found.1 x in
    let P : RegulationView → Type 0 = λ l. l.lineup.capacity ≡ s.max_plans in
    record {
      index = omega (arith, found.0, c.remove-regulation.ensures.len);
      capacity = subst P (sym c.remove-regulation.ensures.value) (all-at P i s.regulations.items x found.0 c.self.invariant.2);
      name = ap (list_any (is_named x.id)) is ∙ gone-without id s.regulations.items x.id named;
      room = omega (arith, c.remove-regulation.ensures.len, c.remove-regulation.ensures.capacity);
    }
