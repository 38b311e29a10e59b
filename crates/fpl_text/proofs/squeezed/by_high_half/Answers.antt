use Rattle.fpl_text.proofs.LookLemmas.{upper-ok, by-high}
use Rattle.fpl_text.proofs.squeezed.by_high_half.Goals as goal

pub swizzle : goal.swizzle
swizzle c = upper-ok c.args.v c.fits-v.0 c.fits-v.1

pub returns-clause-long : goal.returns-clause-long
returns-clause-long c = (by-high c.args.v c.fits-v.0 c.fits-v.1).long

pub returns-clause-each : goal.returns-clause-each
returns-clause-each c = (by-high c.args.v c.fits-v.0 c.fits-v.1).each
