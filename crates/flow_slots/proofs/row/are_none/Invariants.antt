use Rattle.std.proofs.Common.{◌≡◌, ℕ, ◌<◌, None, get_or}
use Rattle.flow_slots.proofs.row.are_none.Given as goal

abbrev pub invariant-loop-slot : goal.invariant-loop-slot
invariant-loop-slot l = record {
  none : l.bits ≡ 0 → (k : ℕ) → k < l.slot-index → get_or l.slots k None ≡ None;
  all : ((k : ℕ) → k < l.slot-index → get_or l.slots k None ≡ None) → l.bits ≡ 0;
}
