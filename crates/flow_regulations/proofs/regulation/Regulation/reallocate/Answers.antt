use Rattle.std.proofs.Common.{None, Some, refl, sym, ap, ◌∙◌}
use Rattle.flow_slots.specs.Lineup.{without_flight}
use Rattle.flow_regulations.specs.Settling.{is_due, pairs_of}
use Rattle.flow_regulations.specs.Listing.{with_lineup, without_in}
use Rattle.flow_regulations.proofs.Looked.{plan-there, kept-renewed, placed-renewed, out-within}
use Rattle.flow_regulations.proofs.Others.{pairs-placed, pairs-without}
use Rattle.flow_regulations.proofs.Standing.{alone-placed, alone-twice}
use Rattle.flow_regulations.proofs.regulation.Regulation.reallocate.Goals as goal

pub returns-then-keeps-clause-renewed : goal.returns-then-keeps-clause-renewed
returns-then-keeps-clause-renewed g c =
    let p = plan-there c.args.plans.now.plans c.args.number c.requires.some c.requires.within in
    kept-renewed c.args.plans.now.taxi c.args.now c.args.number c.args.plans.now.plans c.args.self.now p.0 p.1 c.requires.some c.keeps.ensures.order.lined c.keeps.ensures.order.regular (sym (c.keeps.ensures.kept p.0 p.1) ∙ c.if-keeps.true)

pub stand-requires-clause-entry : goal.stand-requires-clause-entry
stand-requires-clause-entry g c =
    let p = plan-there c.args.plans.now.plans c.args.number c.requires.some c.requires.within in
    out-within c.args.plans.now.taxi c.args.number c.in-Some.entry c.args.self.now c.args.self.now p.0 c.args.entry.now (c.requires.entry p.0 p.1) c.in-Some.is

pub returns-in-Some-clause-renewed : goal.returns-in-Some-clause-renewed
returns-in-Some-clause-renewed g c =
    let p = plan-there c.args.plans.now.plans c.args.number c.requires.some c.requires.within in
    placed-renewed c.args.plans.now.taxi c.args.now c.args.number c.args.plans.now.plans c.args.self.now p.0 p.1 c.requires.some c.keeps.ensures.order.lined c.keeps.ensures.order.regular (sym (c.keeps.ensures.kept p.0 p.1) ∙ c.if-keeps.false)
    (Some c.in-Some.entry) c.is_due.result c.stand.new.self.lineup
    (sym c.in-Some.is ∙ c.requires.entry p.0 p.1)
    (c.is_due.ensures p.0 p.1)
    (ap (λ v. v.lineup) c.stand.ensures)

pub returns-in-None-clause-renewed : goal.returns-in-None-clause-renewed
returns-in-None-clause-renewed g c =
    let p = plan-there c.args.plans.now.plans c.args.number c.requires.some c.requires.within in
    placed-renewed c.args.plans.now.taxi c.args.now c.args.number c.args.plans.now.plans c.args.self.now p.0 p.1 c.requires.some c.keeps.ensures.order.lined c.keeps.ensures.order.regular (sym (c.keeps.ensures.kept p.0 p.1) ∙ c.if-keeps.false)
    None (is_due c.args.now p.0) c.take_out.new.self.lineup
    (sym c.in-None.is ∙ c.requires.entry p.0 p.1)
    refl
    (ap (λ v. v.lineup) c.take_out.ensures)

pub returns-in-Some-clause-others : goal.returns-in-Some-clause-others
returns-in-Some-clause-others g c = λ f ne.
    (let n = c.args.number in
    ap (λ v. pairs_of f v.lineup.fixed) c.stand.ensures ∙ (pairs-placed f n (Some c.in-Some.entry) c.is_due.result (without_flight n c.args.self.now.lineup) ne ∙ pairs-without f n c.args.self.now.lineup.fixed ne))

pub returns-in-None-clause-others : goal.returns-in-None-clause-others
returns-in-None-clause-others g c = λ f ne. ap (λ v. pairs_of f v.lineup.fixed) c.take_out.ensures ∙ pairs-without f c.args.number c.args.self.now.lineup.fixed ne

pub returns-in-Some-clause-alone : goal.returns-in-Some-clause-alone
returns-in-Some-clause-alone g c =
    let n = c.args.number in
    let l = c.args.self.now in
    ap (without_in n) c.stand.ensures ∙ ap (λ v. with_lineup v l) (alone-placed (Some c.in-Some.entry) c.is_due.result n (without_flight n l.lineup) ∙ alone-twice n l.lineup)

pub returns-in-None-clause-alone : goal.returns-in-None-clause-alone
returns-in-None-clause-alone g c =
    let n = c.args.number in
    let l = c.args.self.now in
    ap (without_in n) c.take_out.ensures ∙ ap (λ v. with_lineup v l) (alone-twice n l.lineup)
