use Rattle.std.proofs.Common.{◌≡◌, List, length, map, sym, refl, ap, subst, ◌∙◌, arith}
use Rattle.flow_regulations.specs.Listing.{RegulationView, Walked, IsFixedWaiting, AreFrozen, HaveCapacity, AreApart, names_in, without_in, pairs_in}
use Rattle.flow_regulations.specs.Marks.{AreInRows, AreMarked, IsMarked}
use Rattle.flow_regulations.proofs.Marking.{marked-walked}
use Rattle.flow_regulations.proofs.Outs.{out-fixed}
use Rattle.flow_regulations.proofs.Alls.{capacity-fixed, all-frozen, others-fixed, alone-fixed, names-fixed}
use Rattle.flow_regulations.proofs.Names.{apart-as}
use Rattle.flow_regulations.proofs.Walks.{written-back}
use Rattle.flow_regulations.proofs.Rows.{rows-there, spots-alone}
use Rattle.flow_regulations.proofs.regulations.Regulations.freeze_departing.Goals as goal

pub invariant_of-self : goal.invariant_of-self
invariant_of-self g c =
    let s = c.self.inside in
    let ns : List RegulationView = c.fix_waiting_in.new.regulations in
    let len : s.regulations.len ≡ length ns = omega (arith, c.fix_waiting_in.auto.regulations, c.deref_mut.ensures.len) in
    let H : List RegulationView → Type 0 = HaveCapacity s.max_plans in
    let W : List RegulationView → Type 0 = λ os. Walked (IsFixedWaiting c.args.number) (length ns) os ns in
    let A : List RegulationView → Type 0 = λ ls. AreApart (names_in ls) in
    let Z : List RegulationView → Type 0 = λ ls. AreInRows s.table 0 ls in
    let alone = alone-fixed c.args.number (length ns) s.regulations.items ns refl (subst W c.deref_mut.ensures.value c.fix_waiting_in.ensures) in
    let M : List RegulationView → Type 0 = λ ls. AreMarked s.marks ls in (
      c.self.invariant.0,
      c.self.invariant.1,
      subst H (sym (written-back s.regulations.len ns _ len)) (capacity-fixed c.args.number s.max_plans (length ns) s.regulations.items ns refl (subst W c.deref_mut.ensures.value c.fix_waiting_in.ensures) c.self.invariant.2),
      subst A (sym (written-back s.regulations.len ns _ len)) (apart-as s.regulations.items ns (names-fixed c.args.number (length ns) s.regulations.items ns refl (subst W c.deref_mut.ensures.value c.fix_waiting_in.ensures)) c.self.invariant.3),
      subst M (sym (written-back s.regulations.len ns _ len)) (marked-walked (IsFixedWaiting c.args.number) s.marks (length ns) s.regulations.items ns (λ f l m r h. out-fixed c.args.number f l m r h) refl (subst W c.deref_mut.ensures.value c.fix_waiting_in.ensures) c.self.invariant.4),
      subst Z (sym (written-back s.regulations.len ns _ len)) (rows-there s.table 0 s.regulations.items ns (spots-alone c.args.number s.regulations.items ns alone) c.self.invariant.5),
    )

pub returns-clause-frozen : goal.returns-clause-frozen
returns-clause-frozen g c = λ taxi before listed.
    (let s = c.self.inside in
    let ns : List RegulationView = c.fix_waiting_in.new.regulations in
    let len : s.regulations.len ≡ length ns = omega (arith, c.fix_waiting_in.auto.regulations, c.deref_mut.ensures.len) in
    let max = c.args.self.now.max_plans in
    let R : List RegulationView → Type 0 = λ ns. AreFrozen taxi max c.args.number before c.args.self.now.lists ns in
    let W : List RegulationView → Type 0 = λ os. Walked (IsFixedWaiting c.args.number) (length ns) os ns in
    subst R (sym (written-back s.regulations.len ns _ len))
    (all-frozen c.args.number taxi max (length ns) before c.args.self.now.lists ns c.requires refl (subst W (c.deref_mut.ensures.value ∙ ap (λ v. v.lists) c.self.view_is) c.fix_waiting_in.ensures) listed))

pub returns-clause-others : goal.returns-clause-others
returns-clause-others g c = λ f ne.
    (let s = c.self.inside in
    let ns : List RegulationView = c.fix_waiting_in.new.regulations in
    let len : s.regulations.len ≡ length ns = omega (arith, c.fix_waiting_in.auto.regulations, c.deref_mut.ensures.len) in
    let W : List RegulationView → Type 0 = λ os. Walked (IsFixedWaiting c.args.number) (length ns) os ns in
    ap (pairs_in f) (written-back s.regulations.len ns _ len)
    ∙ others-fixed c.args.number (length ns) f c.args.self.now.lists ns ne refl (subst W (c.deref_mut.ensures.value ∙ ap (λ v. v.lists) c.self.view_is) c.fix_waiting_in.ensures))

pub returns-clause-alone : goal.returns-clause-alone
returns-clause-alone g c =
    let s = c.self.inside in
    let ns : List RegulationView = c.fix_waiting_in.new.regulations in
    let len : s.regulations.len ≡ length ns = omega (arith, c.fix_waiting_in.auto.regulations, c.deref_mut.ensures.len) in
    let W : List RegulationView → Type 0 = λ os. Walked (IsFixedWaiting c.args.number) (length ns) os ns in
    ap (map (without_in c.args.number)) (written-back s.regulations.len ns _ len)
    ∙ alone-fixed c.args.number (length ns) c.args.self.now.lists ns refl (subst W (c.deref_mut.ensures.value ∙ ap (λ v. v.lists) c.self.view_is) c.fix_waiting_in.ensures)

pub fix_waiting_in-requires : goal.fix_waiting_in-requires
fix_waiting_in-requires g c =
    let M : List RegulationView → Type 0 = λ ls. IsMarked c.of-word.result c.args.number 0 ls in
    subst M (sym c.deref_mut.ensures.value) (c.of-word.ensures c.self.inside.regulations.items c.self.invariant.4)
