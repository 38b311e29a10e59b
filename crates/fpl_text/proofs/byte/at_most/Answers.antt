use Rattle.std.proofs.Common.{leb, get_or, replicate, sym, subst, w8}
use Rattle.std.proofs.lemmas.Simd.{tops_compared}
use Rattle.std.specs.Simd.Lanes.{sel_l}
use Rattle.fpl_text.specs.Lanes.{HasFlags}
use Rattle.fpl_text.proofs.LaneLemmas.{flags-right}
use Rattle.fpl_text.proofs.byte.at_most.Goals as goal

pub returns : goal.returns
returns c =
    let v = c.args.v in
    let b = c.args.high in
    subst (λ ms. HasFlags (sel_l ms (replicate 16 255) (replicate 16 0)) (λ k. leb (get_or v k 0) b))
    (sym (tops_compared w8 leb v (replicate 16 b))) (flags-right leb v b c.fits-v.0)
