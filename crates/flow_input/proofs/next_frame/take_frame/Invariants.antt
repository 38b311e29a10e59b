use Rattle.std.proofs.Common.{◌≡◌, ◌-◌, ◌≤◌, ◌+◌, length, false}
use Rattle.flow_input.proofs.NextFrames.{Sought}
use Rattle.flow_input.proofs.next_frame.take_frame.Given as goal

abbrev pub invariant-reads : goal.invariant-reads
invariant-reads g l = record {
  sought : Sought l.fn.input l.input (g.R.Read.remaining l.fn.reader.device) (g.R.Read.remaining l.reader.device);
  going : l.input.ended ≡ false;
  no_failure : l.reader.failures ≡ l.fn.reader.failures;
  nearer : l.fn.input.taken ≤ l.input.taken;
}

abbrev pub decreases-reads : goal.decreases-reads
decreases-reads g l = 4000000000 - (l.input.taken + length l.input.unread)
