use Rattle.std.proofs.Common.{◌≡◌, ℕ, false, List, ◌++◌, ◌∷◌, [], length, refl, sym, ap, subst, ◌∙◌, arith}
use Rattle.std.specs.List.{list_any}
use Rattle.flow_regulations.specs.Listing.{RegulationView, opened, with_no_flights, HaveCapacity, AreApart, names_in, is_named}
use Rattle.flow_regulations.specs.Marks.{AreInRows, AreMarked}
use Rattle.flow_regulations.proofs.ForTheDesk.{all-last}
use Rattle.flow_regulations.proofs.Names.{apart-last, settled-name}
use Rattle.flow_regulations.proofs.Openings.{opened-settled}
use Rattle.flow_regulations.proofs.regulations.Regulations.open.Goals as goal

pub returns-clause-opened : goal.returns-clause-opened
returns-clause-opened g c =
    let taxi = c.args.plans.now.taxi in
    let plans = c.args.plans.now.plans in
    let max = ap (λ v. v.max_plans) c.self.view_is in
    let x : RegulationView = c.settle.new.regulation in
    let o : RegulationView = c.let_all_in.new.regulation in
    let empty : o ≡ opened taxi plans (with_no_flights c.args.id c.args.spot c.args.shape c.args.self.now.max_plans) =
    c.in_ok-due.ensures.opened ∙ (ap (λ v. opened taxi plans v) c.in_ok-regulation.ensures.empty ∙ ap (λ m. opened taxi plans (with_no_flights c.args.id c.args.spot c.args.shape m)) max) in
    let all = opened-settled taxi c.args.self.now.max_plans c.args.now plans c.args.id c.args.spot c.args.shape o x empty (record { capacity = c.settle.ensures.capacity; advanced = c.settle.ensures.advanced }) in
    (x, c.push_reserved.ensures.items ∙ ap (λ xs. xs ++ x ∷ []) (c.in_ok-reserve.ensures.items ∙ ap (λ v. v.lists) c.self.view_is), all.0, all.1, all.2)

pub invariant_of-self : goal.invariant_of-self
invariant_of-self g c =
    let s = c.self.inside in
    let H : List RegulationView → Type 0 = HaveCapacity s.max_plans in
    let A : List RegulationView → Type 0 = λ ls. AreApart (names_in ls) in
    let M : List RegulationView → Type 0 = λ ls. AreMarked s.marks ls in
    let Z : List RegulationView → Type 0 = λ ls. AreInRows s.table 0 ls in
    let is = c.in_err-reserve.ensures.items in
    (c.self.invariant.0, c.self.invariant.1, subst H (sym is) c.self.invariant.2, subst A (sym is) c.self.invariant.3, subst M (sym is) c.self.invariant.4, subst Z (sym is) c.self.invariant.5)

pub invariant_of-self-in_err-make : goal.invariant_of-self-in_err-make
invariant_of-self-in_err-make g c =
    let s = c.self.inside in
    let H : List RegulationView → Type 0 = HaveCapacity s.max_plans in
    let A : List RegulationView → Type 0 = λ ls. AreApart (names_in ls) in
    let is = c.in_ok-reserve.ensures.items in
    let M : List RegulationView → Type 0 = λ ls. AreMarked c.make.new.self ls in
    let Z : List RegulationView → Type 0 = λ ls. AreInRows s.table 0 ls in
    (c.self.invariant.0, c.self.invariant.1, subst H (sym is) c.self.invariant.2, subst A (sym is) c.self.invariant.3, subst M (sym is) (c.make.ensures _ c.self.invariant.4), subst Z (sym is) c.self.invariant.5)

pub invariant_of-self-2 : goal.invariant_of-self-2
invariant_of-self-2 g c =
    let s = c.self.inside in
    let taxi = c.args.plans.now.taxi in
    let plans = c.args.plans.now.plans in
    let x : RegulationView = c.settle.new.regulation in
    let o : RegulationView = c.let_all_in.new.regulation in
    let empty : o ≡ opened taxi plans (with_no_flights c.args.id c.args.spot c.args.shape s.max_plans) = c.in_ok-due.ensures.opened ∙ ap (λ v. opened taxi plans v) c.in_ok-regulation.ensures.empty in
    let all = opened-settled taxi s.max_plans c.args.now plans c.args.id c.args.spot c.args.shape o x empty (record { capacity = c.settle.ensures.capacity; advanced = c.settle.ensures.advanced }) in
    let name : x.id ≡ c.args.id = ap (λ r. r.id) all.0 ∙ settled-name taxi c.args.now plans (record { id = c.args.id; spot = c.args.spot; period = c.args.shape; fixed = [] }) in
    let capacity : x.lineup.capacity ≡ s.max_plans = c.settle.ensures.capacity ∙ ap (λ v. v.lineup.capacity) empty in
    let is = c.push_reserved.ensures.items ∙ ap (λ xs. xs ++ x ∷ []) c.in_ok-reserve.ensures.items in
    let H : List RegulationView → Type 0 = HaveCapacity s.max_plans in
    let A : List RegulationView → Type 0 = λ ls. AreApart (names_in ls) in
    let new_name : list_any (is_named x.id) s.regulations.items ≡ false = ap (λ id. list_any (is_named id) s.regulations.items) name ∙ (ap (λ v. list_any (is_named c.args.id) v.lists) c.self.view_is ∙ c.requires.name) in
    let same = c.in_ok-reserve.ensures.items in
    let M : List RegulationView → Type 0 = λ ls. AreMarked c.open.new.self ls in
    let Z : List RegulationView → Type 0 = λ ls. AreInRows c.open-2.new.self 0 ls in
    let B : List RegulationView → Type 0 = λ ls. AreMarked c.make.new.self ls → AreMarked c.open.new.self (ls ++ x ∷ []) in
    let C : List RegulationView → Type 0 = λ ls. AreInRows c.make-2.new.self 0 ls → AreInRows c.open-2.new.self 0 (ls ++ x ∷ []) in
    let marked = subst B (c.deref.ensures.value ∙ same) c.open.ensures (c.make.ensures _ c.self.invariant.4) in
    let there = subst C (c.deref-2.ensures.value ∙ same) c.open-2.ensures (c.make-2.ensures _ c.self.invariant.5) in (
      c.self.invariant.0,
      c.self.invariant.1,
      subst H (sym is) (all-last (λ l. l.lineup.capacity ≡ s.max_plans) s.regulations.items x c.self.invariant.2 capacity),
      subst A (sym is) (apart-last x s.regulations.items c.self.invariant.3 new_name),
      subst M (sym is) marked,
      subst Z (sym is) there,
    )

pub invariant_of-self-in_err-make-2 : goal.invariant_of-self-in_err-make-2
invariant_of-self-in_err-make-2 g c =
    let s = c.self.inside in
    let H : List RegulationView → Type 0 = HaveCapacity s.max_plans in
    let A : List RegulationView → Type 0 = λ ls. AreApart (names_in ls) in
    let is = c.in_ok-reserve.ensures.items in
    let M : List RegulationView → Type 0 = λ ls. AreMarked c.make.new.self ls in
    let Z : List RegulationView → Type 0 = λ ls. AreInRows c.make-2.new.self 0 ls in
    (c.self.invariant.0, c.self.invariant.1, subst H (sym is) c.self.invariant.2, subst A (sym is) c.self.invariant.3, subst M (sym is) (c.make.ensures _ c.self.invariant.4), subst Z (sym is) (c.make-2.ensures _ c.self.invariant.5))

pub invariant_of-self-in_err-due : goal.invariant_of-self-in_err-due
invariant_of-self-in_err-due g c =
    let s = c.self.inside in
    let H : List RegulationView → Type 0 = HaveCapacity s.max_plans in
    let A : List RegulationView → Type 0 = λ ls. AreApart (names_in ls) in
    let is = c.in_ok-reserve.ensures.items in
    let M : List RegulationView → Type 0 = λ ls. AreMarked c.make.new.self ls in
    let Z : List RegulationView → Type 0 = λ ls. AreInRows c.make-2.new.self 0 ls in
    (c.self.invariant.0, c.self.invariant.1, subst H (sym is) c.self.invariant.2, subst A (sym is) c.self.invariant.3, subst M (sym is) (c.make.ensures _ c.self.invariant.4), subst Z (sym is) (c.make-2.ensures _ c.self.invariant.5))

pub push_reserved-requires : goal.push_reserved-requires
push_reserved-requires g c = omega (arith, c.in_ok-reserve.ensures.ok)
