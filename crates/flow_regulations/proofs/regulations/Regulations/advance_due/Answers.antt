use Rattle.std.proofs.Common.{◌≡◌, ℕ, List, length, map, sym, refl, ap, subst, ◌∙◌, arith}
use Rattle.flow_regulations.specs.Listing.{RegulationView, Walked, IsAdvancing, AreRenewed, HaveCapacity, AreApart, names_in, is_among, with_fixed_waiting, pairs_in}
use Rattle.flow_regulations.specs.Marks.{AreInRows, AreMarked}
use Rattle.flow_regulations.proofs.Advances.{capacity-advanced, all-advanced, others-advanced}
use Rattle.flow_regulations.proofs.Names.{apart-as, names-advanced}
use Rattle.flow_regulations.proofs.Walks.{written-back}
use Rattle.flow_regulations.proofs.Rows.{rows-there, spots_in, spots-advanced}
use Rattle.flow_regulations.proofs.regulations.Regulations.advance_due.Goals as goal

pub invariant_of-self : goal.invariant_of-self
invariant_of-self g c =
    let s = c.self.inside in
    let ns : List RegulationView = c.advance_in.new.regulations in
    let len : s.regulations.len ≡ length ns = omega (arith, c.advance_in.auto.regulations, c.deref_mut.ensures.len) in
    let H : List RegulationView → Type 0 = HaveCapacity s.max_plans in
    let is : ns ≡ map (with_fixed_waiting c.args.due.now) s.regulations.items = c.advance_in.ensures.lists ∙ ap (map (with_fixed_waiting c.args.due.now)) c.deref_mut.ensures.value in
    let A : List RegulationView → Type 0 = λ ls. AreApart (names_in ls) in
    let M : List RegulationView → Type 0 = λ ls. AreMarked s.marks ls in
    let Z : List RegulationView → Type 0 = λ ls. AreInRows s.table 0 ls in (
      c.self.invariant.0,
      c.self.invariant.1,
      subst H (sym (written-back s.regulations.len ns _ len ∙ is)) (capacity-advanced s.max_plans c.args.due.now s.regulations.items c.self.invariant.2),
      subst A (sym (written-back s.regulations.len ns _ len ∙ is)) (apart-as s.regulations.items (map (with_fixed_waiting c.args.due.now) s.regulations.items) (names-advanced c.args.due.now s.regulations.items) c.self.invariant.3),
      subst M (sym (written-back s.regulations.len ns _ len)) c.advance_in.ensures.marked,
      subst Z (sym (written-back s.regulations.len ns _ len)) (rows-there s.table 0 s.regulations.items ns (ap spots_in is ∙ spots-advanced c.args.due.now s.regulations.items) c.self.invariant.5),
    )

pub returns-clause-lists : goal.returns-clause-lists
returns-clause-lists g c =
    let s = c.self.inside in
    let ns : List RegulationView = c.advance_in.new.regulations in
    let len : s.regulations.len ≡ length ns = omega (arith, c.advance_in.auto.regulations, c.deref_mut.ensures.len) in
    written-back s.regulations.len ns _ len ∙ (c.advance_in.ensures.lists ∙ ap (map (with_fixed_waiting c.args.due.now)) (c.deref_mut.ensures.value ∙ ap (λ v. v.lists) c.self.view_is))

pub returns-clause-others : goal.returns-clause-others
returns-clause-others g c = λ f out.
    (let s = c.self.inside in
    let ns : List RegulationView = c.advance_in.new.regulations in
    let len : s.regulations.len ≡ length ns = omega (arith, c.advance_in.auto.regulations, c.deref_mut.ensures.len) in
    ap (pairs_in f) (written-back s.regulations.len ns _ len ∙ (c.advance_in.ensures.lists ∙ ap (map (with_fixed_waiting c.args.due.now)) (c.deref_mut.ensures.value ∙ ap (λ v. v.lists) c.self.view_is)))
    ∙ others-advanced f c.args.due.now c.args.self.now.lists out)

pub returns-clause-renewed : goal.returns-clause-renewed
returns-clause-renewed g c = λ taxi earlier now plans late due holds listed settled_then.
    (let s = c.self.inside in
    let ns : List RegulationView = c.advance_in.new.regulations in
    let len : s.regulations.len ≡ length ns = omega (arith, c.advance_in.auto.regulations, c.deref_mut.ensures.len) in
    let max = c.args.self.now.max_plans in
    let R : List RegulationView → Type 0 = λ ns. AreRenewed taxi max now plans c.args.self.now.lists ns in
    let W : List RegulationView → Type 0 = λ os. Walked (IsAdvancing (is_among c.args.due.now) taxi now plans) (length ns) os ns in
    subst R (sym (written-back s.regulations.len ns _ len))
    (all-advanced c.args.due.now taxi now max earlier (length ns) plans c.args.self.now.lists ns holds late refl (subst W (c.deref_mut.ensures.value ∙ ap (λ v. v.lists) c.self.view_is) (c.advance_in.ensures.walked taxi now plans due)) listed settled_then))

pub advance_in-requires : goal.advance_in-requires
advance_in-requires g c =
    let M : List RegulationView → Type 0 = λ ls. AreMarked c.self.inside.marks ls in
    subst M (sym c.deref_mut.ensures.value) c.self.invariant.4
