use Rattle.fpl_text.proofs.LookLemmas.{classes-are}
use Rattle.fpl_text.proofs.squeezed.classes.Goals as goal

pub returns : goal.returns
returns c =
    classes-are c.args.v c.by_low_half.result c.by_high_half.result c.fits-v.0 c.fits-v.1
    (record { long = c.by_low_half.ensures.long; each = c.by_low_half.ensures.each }) (record { long = c.by_high_half.ensures.long; each = c.by_high_half.ensures.each })
