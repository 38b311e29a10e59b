use Rattle.std.proofs.Common.{sym, ◌∙◌}
use Rattle.flow_core.specs.History.{state_of}
use Rattle.flow_desk.proofs.Resuming.{beyond-next, beyond-here}
use Rattle.flow_desk.proofs.blank.first_feeder_beyond.Goals as goal

pub returns-then-from-feeders : goal.returns-then-from-feeders
returns-then-from-feeders g c =
    let e = c.feeder_at.ensures in
    sym (beyond-here c.args.feeders (state_of c.args.core.now).journal c.loop-index.index e.0 e.1 (rw (c.from.ensures, e.2) at c.if-from-feeders.true)) ∙ c.loop-index.invariant

pub loop-index-preserved : goal.loop-index-preserved
loop-index-preserved g c =
    let e = c.feeder_at.ensures in
    beyond-next c.args.feeders (state_of c.args.core.now).journal c.loop-index.index e.0 e.1 (rw (c.from.ensures, e.2) at c.if-from-feeders.false) ∙ c.loop-index.invariant
