use Rattle.std.proofs.Common.{leb, get_or, replicate, sym, subst, w8}
use Rattle.std.proofs.lemmas.Simd.{tops_compared}
use Rattle.std.specs.Simd.Lanes.{sel_l}
use Rattle.fpl_text.specs.Lanes.{HasFlags}
use Rattle.fpl_text.proofs.LaneLemmas.{flags-each}
use Rattle.fpl_text.proofs.byte.in_order.Goals as goal

pub returns : goal.returns
returns c =
    let low = c.args.low in
    let high = c.args.high in
    subst (λ ms. HasFlags (sel_l ms (replicate 16 255) (replicate 16 0)) (λ k. leb (get_or low k 0) (get_or high k 0)))
    (sym (tops_compared w8 leb low high)) (flags-each leb low high c.fits-low.0 c.fits-high.0)
