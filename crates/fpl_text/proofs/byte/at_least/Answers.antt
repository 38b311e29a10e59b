use Rattle.std.proofs.Common.{leb, get_or, replicate, sym, subst, w8}
use Rattle.std.proofs.lemmas.Simd.{tops_compared}
use Rattle.std.specs.Simd.Lanes.{sel_l}
use Rattle.fpl_text.specs.Lanes.{HasFlags}
use Rattle.fpl_text.proofs.LaneLemmas.{flags-left}
use Rattle.fpl_text.proofs.byte.at_least.Goals as goal

pub returns : goal.returns
returns c =
    let v = c.args.v in
    let b = c.args.low in
    subst (λ ms. HasFlags (sel_l ms (replicate 16 255) (replicate 16 0)) (λ k. leb b (get_or v k 0)))
    (sym (tops_compared w8 leb (replicate 16 b) v)) (flags-left leb v b c.fits-v.0)
