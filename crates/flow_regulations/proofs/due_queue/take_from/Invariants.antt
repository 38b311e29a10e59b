use Rattle.std.proofs.Common.{◌≡◌, ◌+◌, ◌<◌, ◌≤◌, length, vec_capacity, heap_items, heap_len}
use Rattle.std.specs.List.{All}
use Rattle.std.specs.BinaryHeap.{IsHeap, heap_capacity}
use Rattle.flow_regulations.specs.Awaiting.{BecameDue, earlier_first}
use Rattle.flow_regulations.proofs.Queues.{TakenSoFar}
use Rattle.flow_regulations.proofs.due_queue.take_from.Given as goal

abbrev pub invariant-loop-flight : goal.invariant-loop-flight
invariant-loop-flight g l = record {
  order : IsHeap earlier_first (heap_items l.heap);
  numbers : All (λ x. 0 < x.0.number) (heap_items l.heap);
  became : All (BecameDue l.earlier l.fn.now l.plans.plans) l.due.items;
  taken : TakenSoFar l.limit l.earlier l.plans.plans (heap_items l.initial.heap) (heap_items l.heap) l.due.items;
  fewer : heap_len l.heap + length l.due.items ≤ heap_len l.initial.heap;
  room : heap_capacity l.heap ≡ heap_capacity l.initial.heap;
  capacity : vec_capacity l.due ≡ vec_capacity l.initial.due;
}

abbrev pub decreases-loop-flight : goal.decreases-loop-flight
decreases-loop-flight g l = heap_len l.heap
