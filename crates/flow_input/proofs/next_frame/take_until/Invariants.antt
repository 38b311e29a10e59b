use Rattle.std.proofs.Common.{◌≡◌, ◌-◌}
use Rattle.flow_input.specs.Reader.{Agrees, Took}
use Rattle.flow_input.specs.Until.{stops_at}
use Rattle.flow_input.proofs.next_frame.take_until.Given as goal

abbrev pub invariant-pieces : goal.invariant-pieces
invariant-pieces g l = record {
  agrees : Agrees l.input (g.R.Read.remaining l.reader.device);
  took : Took (stops_at l.until) l.fn.input l.input (g.R.Read.remaining l.fn.reader.device) (g.R.Read.remaining l.reader.device);
  no_failure : l.reader.failures ≡ l.fn.reader.failures;
}

abbrev pub decreases-pieces : goal.decreases-pieces
decreases-pieces g l = 4000000000 - l.input.taken
