use Rattle.std.proofs.Common.{◌≡◌, ◌≤◌, ℕ, List, length, map, sym, ap, subst, ◌∙◌, arith}
use Rattle.std.specs.List.{AllByRecursion}
use Rattle.flow_regulations.specs.Listing.{RegulationView, HaveCapacity, AreApart, names_in, without_in}
use Rattle.flow_regulations.specs.Marks.{AreInRows, AreMarked}
use Rattle.flow_regulations.proofs.Marking.{covers-ones}
use Rattle.flow_regulations.proofs.Alls.{room-at}
use Rattle.flow_regulations.proofs.PutBack.{capacity-back}
use Rattle.flow_regulations.proofs.Names.{apart-as, names-back}
use Rattle.flow_regulations.proofs.Walks.{written-back}
use Rattle.flow_regulations.proofs.Rows.{rows-there, spots-alone}
use Rattle.flow_regulations.proofs.regulations.Regulations.put_back.Goals as goal

pub invariant_of-self : goal.invariant_of-self
invariant_of-self g c =
    let s = c.self.inside in
    let b = c.requires.before in
    let n = c.args.number in
    let ns : List RegulationView = c.put_back_in.new.regulations in
    let len : s.regulations.len ≡ length ns = omega (arith, c.put_back_in.auto.regulations, c.deref_mut.ensures.len) in
    let H : List RegulationView → Type 0 = HaveCapacity s.max_plans in
    let M : List RegulationView → Type 0 = λ ls. map (without_in n) ls ≡ map (without_in n) b.0 in
    let lists = ap (λ v. v.lists) c.self.view_is in
    let back : ns ≡ b.0 = c.put_back_in.ensures b.0 b.1 (subst M (sym (c.deref_mut.ensures.value ∙ lists)) b.2) in
    let A : List RegulationView → Type 0 = λ ls. AreApart (names_in ls) in
    let alone : map (without_in n) ns ≡ map (without_in n) s.regulations.items = ap (map (without_in n)) back ∙ sym (subst M (sym lists) b.2) in
    let M' : List RegulationView → Type 0 = λ ls. AreMarked c.set.new.self ls in
    let Z : List RegulationView → Type 0 = λ ls. AreInRows s.table 0 ls in (
      c.self.invariant.0,
      c.self.invariant.1,
      subst H (sym (written-back s.regulations.len ns _ len ∙ back)) (capacity-back n s.max_plans s.regulations.items b.0 (subst M (sym lists) b.2) c.self.invariant.2),
      subst A (sym (written-back s.regulations.len ns _ len ∙ back)) (apart-as s.regulations.items b.0 (names-back n s.regulations.items b.0 (subst M (sym lists) b.2)) c.self.invariant.3),
      subst M' (sym (written-back s.regulations.len ns _ len)) (c.set.ensures s.regulations.items ns alone (covers-ones n 0 ns) c.self.invariant.4),
      subst Z (sym (written-back s.regulations.len ns _ len)) (rows-there s.table 0 s.regulations.items ns (spots-alone n s.regulations.items ns alone) c.self.invariant.5),
    )

pub returns-clause-lists : goal.returns-clause-lists
returns-clause-lists g c = λ before are same.
    (let s = c.self.inside in
    let n = c.args.number in
    let ns : List RegulationView = c.put_back_in.new.regulations in
    let len : s.regulations.len ≡ length ns = omega (arith, c.put_back_in.auto.regulations, c.deref_mut.ensures.len) in
    let M : List RegulationView → Type 0 = λ ls. map (without_in n) ls ≡ map (without_in n) before in
    written-back s.regulations.len ns _ len ∙ c.put_back_in.ensures before are (subst M (sym (c.deref_mut.ensures.value ∙ ap (λ v. v.lists) c.self.view_is)) same))

pub put_back_in-requires-clause-room : goal.put_back_in-requires-clause-room
put_back_in-requires-clause-room g c =
    let R : List RegulationView → Type 0 = λ ls. AllByRecursion (λ l. c.args.number ≤ l.lineup.capacity) ls in
    let most : c.args.number ≤ c.self.inside.max_plans = omega (arith, c.requires.room, ap (λ v. v.max_plans) c.self.view_is) in
    subst R (sym c.deref_mut.ensures.value) (room-at c.args.number c.self.inside.max_plans c.self.inside.regulations.items most c.self.invariant.2)

pub put_back_in-requires-clause-before : goal.put_back_in-requires-clause-before
put_back_in-requires-clause-before g c =
    let b = c.requires.before in
    let M : List RegulationView → Type 0 = λ ls. map (without_in c.args.number) ls ≡ map (without_in c.args.number) b.0 in
    (b.0, b.1, subst M (sym (c.deref_mut.ensures.value ∙ ap (λ v. v.lists) c.self.view_is)) b.2)
