use Rattle.std.proofs.Common.{◌≡◌, ◌≤◌, ◌-◌, length, take}
use Rattle.std.specs.Io.KnownBytes.{Appends}
use Rattle.flow_input.proofs.counted.write_bytes.Given as goal

abbrev pub invariant-turns : goal.invariant-turns
invariant-turns g l =
    (l.written ≤ length l.bytes)
    × Appends (g.W.Write.contents l.fn.writer.device) (g.W.Write.contents l.writer.device) (take l.written l.bytes)
    × (l.writer.failures ≡ l.fn.writer.failures)

abbrev pub decreases-turns : goal.decreases-turns
decreases-turns g l = length l.bytes - l.written
