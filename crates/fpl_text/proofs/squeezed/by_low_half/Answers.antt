use Rattle.fpl_text.proofs.LookLemmas.{lower-ok, by-low}
use Rattle.fpl_text.proofs.squeezed.by_low_half.Goals as goal

pub swizzle : goal.swizzle
swizzle c = lower-ok c.args.v c.fits-v.0

pub returns-clause-long : goal.returns-clause-long
returns-clause-long c = (by-low c.args.v c.fits-v.0).long

pub returns-clause-each : goal.returns-clause-each
returns-clause-each c = (by-low c.args.v c.fits-v.0).each
