use Rattle.std.proofs.Common.{◌≡◌, drop}
use Rattle.flow_slots.specs.Limits.{rises}
use Rattle.flow_slots.proofs.shape.rises.Given as goal

abbrev pub invariant-loop-part : goal.invariant-loop-part
invariant-loop-part l = rises l.fn.end l.last (drop l.part-index l.parts) ≡ rises l.fn.end l.fn.start l.parts
