use Rattle.std.proofs.Common.{subst, sym}
use Rattle.fpl_text.proofs.LaneLemmas.{IsFrontFrom, front-from}
use Rattle.fpl_text.proofs.byte.set_lanes_from.Goals as goal

pub returns-clause-bound : goal.returns-clause-bound
returns-clause-bound c =
    let f = subst (IsFrontFrom c.args.flags c.args.place) (sym c.trailing_ones.ensures) (front-from c.args.flags c.top_bits.result c.args.place c.fits-flags.0 c.requires c.top_bits.ensures.bits c.top_bits.ensures.small) in
    f.bound

pub returns-clause-set : goal.returns-clause-set
returns-clause-set c =
    let f = subst (IsFrontFrom c.args.flags c.args.place) (sym c.trailing_ones.ensures) (front-from c.args.flags c.top_bits.result c.args.place c.fits-flags.0 c.requires c.top_bits.ensures.bits c.top_bits.ensures.small) in
    f.set

pub returns-clause-stops : goal.returns-clause-stops
returns-clause-stops c =
    let f = subst (IsFrontFrom c.args.flags c.args.place) (sym c.trailing_ones.ensures) (front-from c.args.flags c.top_bits.result c.args.place c.fits-flags.0 c.requires c.top_bits.ensures.bits c.top_bits.ensures.small) in
    f.stops
