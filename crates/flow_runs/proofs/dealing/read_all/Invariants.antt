use Rattle.std.proofs.Common.{◌≡◌, ◌≤◌, ◌-◌, length, map}
use Rattle.flow_input.specs.Reader.{Agrees}
use Rattle.flow_runs.specs.Reading.{Reading}
use Rattle.flow_runs.proofs.dealing.read_all.Given as goal

abbrev pub invariant-frames : goal.invariant-frames
invariant-frames g l = record {
  agrees : Agrees l.input (g.R.Read.remaining l.reader.device);
  reading : Reading l.feeders l.dealt.feeds.items l.dealt.count (g.W.Write.contents l.fn.writer.device) (g.W.Write.contents l.writer.device) l.input (g.R.Read.remaining l.fn.reader.device) (g.R.Read.remaining l.reader.device);
  wide : length l.dealt.feeds.items ≡ l.feeders;
  few : l.dealt.count ≤ l.input.taken;
  within : l.input.taken ≤ 4000000000;
  reader_calm : l.reader.failures ≡ l.fn.reader.failures;
  writer_calm : l.writer.failures ≡ l.fn.writer.failures;
}

abbrev pub decreases-frames : goal.decreases-frames
decreases-frames g l = 4000000000 - l.input.taken
