use Rattle.std.proofs.Common.{◌+◌, ◌<◌, ◌≤◌, heap_items, heap_len}
use Rattle.std.specs.List.{All, Contains}
use Rattle.std.specs.BinaryHeap.{IsHeap, heap_capacity}
use Rattle.std.specs.declared.cmp.Reverse.{Reverse}
use Rattle.flow_regulations.specs.declared.due_queue.PendingFlight.{PendingFlight}
use Rattle.flow_regulations.specs.Awaiting.{AreHeld, earlier_first}
use Rattle.flow_regulations.proofs.due_queue.put_all.Given as goal

abbrev pub invariant-loop-number : goal.invariant-loop-number
invariant-loop-number g l = record {
  order : IsHeap earlier_first (heap_items l.heap);
  numbers : All (λ x. 0 < x.0.number) (heap_items l.heap);
  held : AreHeld l.plans.plans l.number-index l.due (heap_items l.heap);
  kept : (x : Reverse PendingFlight) → Contains (heap_items l.initial.heap) x → Contains (heap_items l.heap) x;
  room : heap_len l.heap ≤ heap_len l.initial.heap + l.number-index;
  capacity : heap_capacity l.initial.heap ≤ heap_capacity l.heap;
}
