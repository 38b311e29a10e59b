use Rattle.std.proofs.Common.{◌≡◌, List, length, sym, ap, subst, ◌∙◌, arith}
use Rattle.flow_regulations.specs.Listing.{RegulationView, HaveCapacity, AreApart, names_in}
use Rattle.flow_regulations.specs.Marks.{AreInRows, AreMarked}
use Rattle.flow_regulations.proofs.Names.{apart-as}
use Rattle.flow_regulations.proofs.Walks.{written-back}
use Rattle.flow_regulations.proofs.regulations.Regulations.release_all.Goals as goal

pub invariant_of-self : goal.invariant_of-self
invariant_of-self g c =
    let s = c.self.inside in
    let ns : List RegulationView = c.release_all_in.new.regulations in
    let len : s.regulations.len ≡ length ns = omega (arith, c.release_all_in.auto.regulations, c.deref_mut.ensures.len) in
    let H : List RegulationView → Type 0 = HaveCapacity s.max_plans in
    let A : List RegulationView → Type 0 = λ ls. AreApart (names_in ls) in
    let Z : List RegulationView → Type 0 = λ ls. AreInRows s.table 0 ls in
    let M : List RegulationView → Type 0 = λ ls. AreMarked s.marks ls in (
      c.self.invariant.0,
      c.self.invariant.1,
      subst H (sym (written-back s.regulations.len ns _ len)) (c.release_all_in.ensures.capacity s.max_plans (subst H (sym c.deref_mut.ensures.value) c.self.invariant.2)),
      subst A (sym (written-back s.regulations.len ns _ len)) (apart-as s.regulations.items ns (c.release_all_in.ensures.names ∙ ap names_in c.deref_mut.ensures.value) c.self.invariant.3),
      subst M (sym (written-back s.regulations.len ns _ len)) (c.release_all_in.ensures.marked s.marks (subst M (sym c.deref_mut.ensures.value) c.self.invariant.4)),
      subst Z (sym (written-back s.regulations.len ns _ len)) (c.release_all_in.ensures.rows s.table (subst Z (sym c.deref_mut.ensures.value) c.self.invariant.5)),
    )

pub returns-clause-lists : goal.returns-clause-lists
returns-clause-lists g c = λ max earlier now before h e.
    (let s = c.self.inside in
    let ns : List RegulationView = c.release_all_in.new.regulations in
    let len : s.regulations.len ≡ length ns = omega (arith, c.release_all_in.auto.regulations, c.deref_mut.ensures.len) in
    written-back s.regulations.len ns _ len ∙ c.release_all_in.ensures.lists max earlier now before h (c.deref_mut.ensures.value ∙ (ap (λ v. v.lists) c.self.view_is ∙ e)))
