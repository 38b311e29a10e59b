use Rattle.std.proofs.Common.{◌≡◌, ℕ, ◌<◌, ◌≤◌, ◌-◌, None, length, get_or}
use Rattle.flow_slots.proofs.row.first_held.Given as goal

abbrev pub invariant-loop-chunk : goal.invariant-loop-chunk
invariant-loop-chunk l = record {
  from : l.from ≤ l.chunk;
  within : l.chunk ≤ length l.slots;
  passed : (k : ℕ) → l.from ≤ k → k < l.chunk → get_or l.slots k None ≡ None;
}

abbrev pub decreases-loop-chunk : goal.decreases-loop-chunk
decreases-loop-chunk l = length l.slots - l.chunk

abbrev pub invariant-loop-next : goal.invariant-loop-next
invariant-loop-next l = record {
  from : l.from ≤ l.next;
  within : l.next ≤ length l.slots;
  passed : (k : ℕ) → l.from ≤ k → k < l.next → get_or l.slots k None ≡ None;
}

abbrev pub decreases-loop-next : goal.decreases-loop-next
decreases-loop-next l = length l.slots - l.next
