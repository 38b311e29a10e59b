use Rattle.std.proofs.Common.{ℕ, heap_items, arith}
use Rattle.flow_regulations.proofs.Queues.{held-more}
use Rattle.flow_regulations.proofs.due_queue.put_all.Goals as goal

pub loop-number-preserved : goal.loop-number-preserved
loop-number-preserved g c =
    let i = c.loop-number.invariant in
    let e = c.put_plan.ensures in
    let j : ℕ = c.loop-number.number-index in
    record {
      order = e.order;
      numbers = e.numbers;
      held = held-more c.args.plans.now.plans j c.args.due.now (heap_items c.loop-number.heap) (heap_items c.put_plan.new.heap) i.held e.kept e.held;
      kept = λ x h. e.kept x (i.kept x h);
      room = omega arith;
      capacity = omega arith;
    }
