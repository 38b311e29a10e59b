use Rattle.std.proofs.Common.{◌≡◌, ℕ, ◌<◌, ◌+◌, ◌-◌, false}
use Rattle.flow_regulations.specs.Marks.{may_stand, mask_of, KeepsMask, IsOut}
use Rattle.flow_regulations.proofs.held_marks.mark_held.Given as goal

abbrev pub invariant-loop-number : goal.invariant-loop-number
invariant-loop-number g l = record {
  kept : (f : ℕ) → KeepsMask (mask_of l.initial.words f) (mask_of l.words f);
  marked : (f : ℕ) → f < l.number → may_stand (mask_of l.words f) l.index ≡ false → IsOut f l.regulation;
}

abbrev pub decreases-loop-number : goal.decreases-loop-number
decreases-loop-number g l = l.last + 1 - l.number
