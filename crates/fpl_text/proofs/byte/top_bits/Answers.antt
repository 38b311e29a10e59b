use Rattle.std.proofs.Common.{subst, sym, arith}
use Rattle.fpl_text.proofs.LaneLemmas.{IsMask, top_bitmask, mask-tops}
use Rattle.fpl_text.proofs.byte.top_bits.Goals as goal

pub returns-clause-bits : goal.returns-clause-bits
returns-clause-bits c k =
    let m = subst (IsMask c.args.v) (sym (top_bitmask c.args.v 16 c.fits-v.0 (omega arith))) (mask-tops c.args.v c.fits-v.0) in
    m.bits k

pub returns-clause-small : goal.returns-clause-small
returns-clause-small c =
    let m = subst (IsMask c.args.v) (sym (top_bitmask c.args.v 16 c.fits-v.0 (omega arith))) (mask-tops c.args.v c.fits-v.0) in
    m.small
