use Rattle.std.proofs.Common.{leb, get_or, sym, subst, arith, ◌<◌}
use Rattle.fpl_text.specs.Looks.{IsBits}
use Rattle.fpl_text.proofs.LaneLemmas.{top_bitmask}
use Rattle.fpl_text.proofs.LookLemmas.{raised, bits-from, bits-small, length-raised}
use Rattle.fpl_text.proofs.squeezed.bits_from.Goals as goal

pub returns-clause-bits : goal.returns-clause-bits
returns-clause-bits c =
    let v = c.args.classes in
    let low = c.args.low in
    subst (λ m. IsBits 32 m (λ k. leb low (get_or v k 0))) (sym (top_bitmask (raised v low) 32 (length-raised v low c.fits-classes.0) (omega arith)))
    (bits-from v low c.fits-classes.0 c.requires.some c.requires.low c.requires.classes)

pub returns-clause-small : goal.returns-clause-small
returns-clause-small c =
    let v = c.args.classes in
    let low = c.args.low in
    subst (λ m. m < 4294967296) (sym (top_bitmask (raised v low) 32 (length-raised v low c.fits-classes.0) (omega arith))) (bits-small v low c.fits-classes.0)
