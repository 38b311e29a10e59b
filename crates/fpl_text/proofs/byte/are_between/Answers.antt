use Rattle.fpl_text.proofs.LaneLemmas.{four-in}
use Rattle.fpl_text.proofs.byte.are_between.Goals as goal

pub returns : goal.returns
returns c = four-in c.args.text.now c.args.low c.args.high c.requires.four c.type_inv.text c.requires.some c.ranges.high.fits
