use Rattle.std.proofs.Common.{arith}
use Rattle.flow_input.proofs.Ranges.{came-after}
use Rattle.flow_input.proofs.input.read_after.Goals as goal

pub returns-clause-came : goal.returns-clause-came
returns-clause-came g c =
    came-after c.args.buffer.now c.copy_within.new.self c.read.new.buf c.args.at c.args.end c.copy_within.ensures.after c.requires.order c.requires.within
    (omega (arith, c.copy_within.ensures.len, c.requires.fits)) c.read.result (g.R.Read.remaining c.args.reader.now.device) (g.R.Read.remaining c.read.new.self.device) c.read.auto.buf c.read.ensures.bound c.read.ensures.bytes
