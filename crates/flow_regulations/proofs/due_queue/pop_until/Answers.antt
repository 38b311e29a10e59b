use Rattle.std.proofs.Common.{heap_items}
use Rattle.flow_regulations.proofs.Queues.{later-all}
use Rattle.flow_regulations.proofs.due_queue.pop_until.Goals as goal

pub returns-then-first-limit-clause-later : goal.returns-then-first-limit-clause-later
returns-then-first-limit-clause-later g c = later-all c.args.limit c.in_ok-first.field-0.now (heap_items c.args.heap.now) c.if-first-limit.true (c.in_ok-first.ensures.greatest c.requires)
