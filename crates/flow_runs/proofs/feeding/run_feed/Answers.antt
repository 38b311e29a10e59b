use Rattle.std.proofs.Common.{refl, []}
use Rattle.flow_desk.proofs.Running.{ran-none}
use Rattle.flow_runs.proofs.feeding.run_feed.Goals as goal

pub loop-alloc-init : goal.loop-alloc-init
loop-alloc-init g c = record { receipts = []; ran = ran-none c.args.feed.now.pass c.args.feed.now.left }

pub returns : goal.returns
returns g c = record {
  filed = c.file_next.ensures.ran c.args.feed.now.pass c.args.feed.now.left c.loop-alloc.invariant;
  ends = c.loop-alloc-test.ensures.ends refl;
}
