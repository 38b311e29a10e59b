use Rattle.std.proofs.Common.{◌≡◌, ◌-◌, []}
use Rattle.flow_input.specs.Reader.{Agrees}
use Rattle.flow_desk.specs.Histories.{IsLawful}
use Rattle.flow_live.specs.Feeding.{Feeds}
use Rattle.flow_live.specs.Keeping.{AnswersSeen}
use Rattle.flow_live.proofs.shared.Shared.serve_feed.Given as goal

abbrev pub invariant-pieces : goal.invariant-pieces
invariant-pieces g l = record {
  agrees : Agrees l.input (g.R.Read.remaining l.reader.device);
  none : l.batch.queue ≡ [];
  seen : AnswersSeen g.N.Name.setup l.pass l.batch.seen l.batch.answers.items;
  feeds : IsLawful g.N.Name.setup l.fn.pass.seen → Feeds g.N.Name.setup l.fn.pass l.pass (g.W.Write.contents l.fn.writer.device) (g.W.Write.contents l.writer.device) l.input (g.R.Read.remaining l.fn.reader.device) (g.R.Read.remaining l.reader.device);
  source : l.reader.failures ≡ l.fn.reader.failures;
  sink : l.writer.failures ≡ l.fn.writer.failures;
}

abbrev pub decreases-pieces : goal.decreases-pieces
decreases-pieces g l = 4000000000 - l.input.taken
