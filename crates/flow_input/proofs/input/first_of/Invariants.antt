use Rattle.std.proofs.Common.{◌≤◌, ◌-◌, length}
use Rattle.memchr.specs.Find.{is_byte2}
use Rattle.flow_input.proofs.FirstBytes.{NoneBefore}
use Rattle.flow_input.proofs.input.first_of.Given as goal

abbrev pub invariant-looks : goal.invariant-looks
invariant-looks l = record {
  within : l.at ≤ length l.bytes;
  none : NoneBefore (is_byte2 l.byte l.other) l.bytes l.at;
}

abbrev pub decreases-looks : goal.decreases-looks
decreases-looks l = length l.bytes - l.at
