use Rattle.std.proofs.Common.{refl, arith, map, ◌∙◌, get_or}
use Rattle.flow_regulations.specs.Listing.{regulation_of}
use Rattle.flow_regulations.proofs.Turns.{telling-turn, telling-ends, telling-told, telling-said}
use Rattle.flow_regulations.proofs.telling.tell.Goals as goal

pub loop-number-preserved : goal.loop-number-preserved
loop-number-preserved g c =
    let j = c.loop-number.number-index in
    let m = get_or c.args.changed.now j 0 in
    let number = c.requires.numbers j 0 c.loop-number-test.true in
    record {
      telling = telling-turn c.args.plans.now.taxi j m (map regulation_of c.args.regulations.now) c.args.plans.now.plans c.args.told.now.items c.args.notices.now.items c.loop-number.told.items c.loop-number.notices.items c.args.changed.now
          c.index_mut.result.now c.tell_number.new.told c.tell_number.new.notices.items
          c.loop-number.invariant.telling c.requires.rising c.loop-number-test.true refl number.0 number.1 c.index_mut.ensures.value c.tell_number.ensures.told c.tell_number.ensures.notices;
      few = omega arith;
      capacity = c.tell_number.ensures.capacity ∙ c.loop-number.invariant.capacity;
    }

pub returns-clause-told : goal.returns-clause-told
returns-clause-told g c =
    telling-told c.args.plans.now.taxi (map regulation_of c.args.regulations.now) c.args.plans.now.plans c.args.told.now.items c.args.notices.now.items c.loop-number.told.items c.loop-number.notices.items
    c.loop-number.number-index c.args.changed.now (omega arith) c.loop-number.invariant.telling

pub returns-clause-notices : goal.returns-clause-notices
returns-clause-notices g c =
    telling-said c.args.plans.now.taxi (map regulation_of c.args.regulations.now) c.args.plans.now.plans c.args.told.now.items c.args.notices.now.items c.loop-number.told.items c.loop-number.notices.items
    c.loop-number.number-index c.args.changed.now (omega arith) c.loop-number.invariant.telling

pub returns-clause-quiet : goal.returns-clause-quiet
returns-clause-quiet g c =
    telling-ends c.args.plans.now.taxi (map regulation_of c.args.regulations.now) c.args.plans.now.plans c.args.told.now.items c.args.notices.now.items c.loop-number.told.items c.loop-number.notices.items
    c.loop-number.number-index c.args.changed.now (omega arith) c.loop-number.invariant.telling
