use Rattle.std.proofs.Common.{◌≡◌, ◌≤◌, ℕ, List, length, map, sym, refl, ap, subst, ◌∙◌, arith}
use Rattle.std.specs.Prelude.{Some}
use Rattle.std.specs.List.{AllByRecursion}
use Rattle.flow_plans.specs.Plans.{PlanView, plan_at}
use Rattle.flow_regulations.specs.Listing.{RegulationView, Walked, IsLookedAgain, AreRenewed, HaveCapacity, AreApart, names_in, without_in, pairs_in}
use Rattle.flow_regulations.specs.Marks.{MarksNear, AreInRows, AreMarked, IsMarked}
use Rattle.flow_regulations.proofs.Alls.{room-at, capacity-looked, all-looked, others-looked, alone-looked, names-looked}
use Rattle.flow_regulations.proofs.Names.{apart-as}
use Rattle.flow_regulations.proofs.Walks.{written-back}
use Rattle.flow_regulations.proofs.Rows.{rows-there, spots-alone}
use Rattle.flow_regulations.proofs.regulations.Regulations.reallocate.Goals as goal

pub invariant_of-self : goal.invariant_of-self
invariant_of-self g c =
    let s = c.self.inside in
    let ns : List RegulationView = c.reallocate_in-word.new.regulations in
    let len : s.regulations.len ≡ length ns = omega (arith, c.reallocate_in-word.auto.regulations, c.deref_mut.ensures.len) in
    let H : List RegulationView → Type 0 = HaveCapacity s.max_plans in
    let W : List RegulationView → Type 0 = λ os. Walked (IsLookedAgain c.args.number c.args.plans.now.taxi c.args.now c.args.plans.now.plans) (length ns) os ns in
    let A : List RegulationView → Type 0 = λ ls. AreApart (names_in ls) in
    let n : ℕ = c.args.number in
    let alone = alone-looked n c.args.plans.now.taxi c.args.now (length ns) c.args.plans.now.plans s.regulations.items ns refl (subst W c.deref_mut.ensures.value c.reallocate_in-word.ensures.walked) in
    let M : List RegulationView → Type 0 = λ ls. AreMarked c.set.new.self ls in
    let Z : List RegulationView → Type 0 = λ ls. AreInRows s.table 0 ls in (
      c.self.invariant.0,
      c.self.invariant.1,
      subst H (sym (written-back s.regulations.len ns _ len)) (capacity-looked c.args.number c.args.plans.now.taxi c.args.now s.max_plans (length ns) c.args.plans.now.plans s.regulations.items ns refl (subst W c.deref_mut.ensures.value c.reallocate_in-word.ensures.walked) c.self.invariant.2),
      subst A (sym (written-back s.regulations.len ns _ len)) (apart-as s.regulations.items ns (names-looked c.args.number c.args.plans.now.taxi c.args.now (length ns) c.args.plans.now.plans s.regulations.items ns refl (subst W c.deref_mut.ensures.value c.reallocate_in-word.ensures.walked)) c.self.invariant.3),
      subst M (sym (written-back s.regulations.len ns _ len)) (c.set.ensures s.regulations.items ns alone c.reallocate_in-word.ensures.covers c.self.invariant.4),
      subst Z (sym (written-back s.regulations.len ns _ len)) (rows-there s.table 0 s.regulations.items ns (spots-alone n s.regulations.items ns alone) c.self.invariant.5),
    )

pub returns-clause-renewed : goal.returns-clause-renewed
returns-clause-renewed g c = λ before listed settled_but same.
    (let s = c.self.inside in
    let ns : List RegulationView = c.reallocate_in-word.new.regulations in
    let len : s.regulations.len ≡ length ns = omega (arith, c.reallocate_in-word.auto.regulations, c.deref_mut.ensures.len) in
    let max = c.args.self.now.max_plans in
    let taxi = c.args.plans.now.taxi in
    let R : List RegulationView → Type 0 = λ ns. AreRenewed taxi max c.args.now c.args.plans.now.plans c.args.self.now.lists ns in
    let W : List RegulationView → Type 0 = λ os. Walked (IsLookedAgain c.args.number taxi c.args.now c.args.plans.now.plans) (length ns) os ns in
    subst R (sym (written-back s.regulations.len ns _ len))
    (all-looked c.args.number taxi c.args.now max (length ns) c.args.plans.now.plans before c.args.self.now.lists ns refl (subst W (c.deref_mut.ensures.value ∙ ap (λ v. v.lists) c.self.view_is) c.reallocate_in-word.ensures.walked) listed settled_but same))

pub returns-clause-others : goal.returns-clause-others
returns-clause-others g c = λ f ne.
    (let s = c.self.inside in
    let ns : List RegulationView = c.reallocate_in-word.new.regulations in
    let len : s.regulations.len ≡ length ns = omega (arith, c.reallocate_in-word.auto.regulations, c.deref_mut.ensures.len) in
    let W : List RegulationView → Type 0 = λ os. Walked (IsLookedAgain c.args.number c.args.plans.now.taxi c.args.now c.args.plans.now.plans) (length ns) os ns in
    ap (pairs_in f) (written-back s.regulations.len ns _ len)
    ∙ others-looked c.args.number c.args.plans.now.taxi c.args.now (length ns) f c.args.plans.now.plans c.args.self.now.lists ns ne refl (subst W (c.deref_mut.ensures.value ∙ ap (λ v. v.lists) c.self.view_is) c.reallocate_in-word.ensures.walked))

pub returns-clause-alone : goal.returns-clause-alone
returns-clause-alone g c =
    let s = c.self.inside in
    let ns : List RegulationView = c.reallocate_in-word.new.regulations in
    let len : s.regulations.len ≡ length ns = omega (arith, c.reallocate_in-word.auto.regulations, c.deref_mut.ensures.len) in
    let W : List RegulationView → Type 0 = λ os. Walked (IsLookedAgain c.args.number c.args.plans.now.taxi c.args.now c.args.plans.now.plans) (length ns) os ns in
    ap (map (without_in c.args.number)) (written-back s.regulations.len ns _ len)
    ∙ alone-looked c.args.number c.args.plans.now.taxi c.args.now (length ns) c.args.plans.now.plans c.args.self.now.lists ns refl (subst W (c.deref_mut.ensures.value ∙ ap (λ v. v.lists) c.self.view_is) c.reallocate_in-word.ensures.walked)

pub reallocate_in-word-requires-clause-covers : goal.reallocate_in-word-requires-clause-covers
reallocate_in-word-requires-clause-covers g c =
    let M : List RegulationView → Type 0 = λ ls. IsMarked c.of-word.result c.args.number 0 ls in
    subst M (sym c.deref_mut.ensures.value) (c.of-word.ensures c.self.inside.regulations.items c.self.invariant.4)

pub reallocate_in-word-requires-clause-room : goal.reallocate_in-word-requires-clause-room
reallocate_in-word-requires-clause-room g c =
    let R : List RegulationView → Type 0 = λ ls. AllByRecursion (λ l. c.args.number ≤ l.lineup.capacity) ls in
    let most : c.args.number ≤ c.self.inside.max_plans = omega (arith, c.requires.room, ap (λ v. v.max_plans) c.self.view_is) in
    subst R (sym c.deref_mut.ensures.value) (room-at c.args.number c.self.inside.max_plans c.self.inside.regulations.items most c.self.invariant.2)

pub reallocate_in-word-requires-clause-near : goal.reallocate_in-word-requires-clause-near
reallocate_in-word-requires-clause-near g c =
    let s = c.self.inside in
    let n : ℕ = c.args.number in
    let taxi = c.args.plans.now.taxi in
    let plans = c.args.plans.now.plans in
    let M : List RegulationView → Type 0 = λ ls. (p : PlanView) → plan_at plans n ≡ Some p → MarksNear c.near-near.result taxi p ls in
    subst M (sym c.deref_mut.ensures.value) (c.near-near.ensures s.regulations.items c.self.invariant.5)
