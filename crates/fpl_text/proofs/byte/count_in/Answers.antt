use Rattle.std.proofs.Common.{eqb, arith}
use Rattle.std.proofs.lemmas.List.Sums.{count_by-le-length}
use Rattle.fpl_text.proofs.LaneLemmas.{lanes-count}
use Rattle.fpl_text.proofs.byte.count_in.Goals as goal

pub returns-clause-value : goal.returns-clause-value
returns-clause-value c = lanes-count c.args.v c.args.byte c.fits-v.0

pub returns-clause-bound : goal.returns-clause-bound
returns-clause-bound c = omega (arith, lanes-count c.args.v c.args.byte c.fits-v.0, count_by-le-length (λ b. eqb b c.args.byte) c.args.v, c.fits-v.0)
