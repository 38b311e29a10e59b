use Rattle.flow_regulations.proofs.Outs.{out-looks, is-none}
use Rattle.flow_regulations.proofs.regulation.Regulation.look_where.Goals as goal

pub reallocate-requires-clause-entry : goal.reallocate-requires-clause-entry
reallocate-requires-clause-entry g c = c.subject-entry.ensures

pub reallocate-requires-2-clause-entry : goal.reallocate-requires-2-clause-entry
reallocate-requires-2-clause-entry g c = c.subject-entry.ensures

pub returns-then-may_stand-clause-looked : goal.returns-then-may_stand-clause-looked
returns-then-may_stand-clause-looked g c =
    let e = c.reallocate.ensures in
    record { same = e.same; capacity = e.capacity; others = e.others; alone = e.alone; renewed = e.renewed }

pub returns-then-is_none-clause-looked : goal.returns-then-is_none-clause-looked
returns-then-is_none-clause-looked g c =
    out-looks c.args.number c.args.plans.now.taxi c.args.now c.args.plans.now.plans c.args.self.now c.subject-entry.result c.requires.some c.requires.within (c.requires.out c.if-may_stand.false)
    c.subject-entry.ensures (is-none c.subject-entry.result c.is_none.result c.is_none.ensures c.if-is_none.true)

pub returns-then-is_none-clause-out : goal.returns-then-is_none-clause-out
returns-then-is_none-clause-out g c = λ _. c.requires.out c.if-may_stand.false

pub returns-clause-looked : goal.returns-clause-looked
returns-clause-looked g c =
    let e = c.reallocate-2.ensures in
    record { same = e.same; capacity = e.capacity; others = e.others; alone = e.alone; renewed = e.renewed }
