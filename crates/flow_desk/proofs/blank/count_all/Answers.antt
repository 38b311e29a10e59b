use Rattle.std.proofs.Common.{◌<◌, length, refl, arith}
use Rattle.flow_core.specs.History.{state_of}
use Rattle.flow_desk.proofs.Resuming.{feeder-within, counted-next, count_below}
use Rattle.flow_desk.proofs.blank.count_all.Goals as goal

pub count_one-requires-clause-below : goal.count_one-requires-clause-below
count_one-requires-clause-below g c =
    let e = c.feeder_at.ensures in
    rw (c.loop-index.invariant.wide, e.2) (feeder-within _ (state_of c.args.core.now).journal c.loop-index.index e.0 e.1 c.requires.within)

pub count_one-requires-clause-room : goal.count_one-requires-clause-room
count_one-requires-clause-room g c =
    let e = c.feeder_at.ensures in
    let journal = (state_of c.args.core.now).journal in
    let in_es : c.loop-index.index < length journal = rw (← c.entries-index-end.ensures.count) c.loop-index-test.true in
    let small = count_below _ journal c.loop-index.index c.loop-index.counts.items e.0.input.feeder in_es c.loop-index.invariant (feeder-within _ journal c.loop-index.index e.0 e.1 c.requires.within) in
    rw e.2 (omega (arith, small, c.loop-index-test.true, c.entries-index-end.type_inv))

pub loop-index-preserved : goal.loop-index-preserved
loop-index-preserved g c =
    let e = c.feeder_at.ensures in
    rw (c.count_one.ensures, e.2) (counted-next _ (state_of c.args.core.now).journal c.loop-index.index c.loop-index.counts.items e.0 _ e.1 c.requires.within c.loop-index.invariant refl)
