use Rattle.std.proofs.Common.{not, eqb, get_or, replicate, sym, subst, w8}
use Rattle.std.proofs.lemmas.Simd.{tops_compared}
use Rattle.std.specs.Simd.Lanes.{sel_l}
use Rattle.fpl_text.specs.Lanes.{HasFlags}
use Rattle.fpl_text.proofs.LaneLemmas.{flags-other}
use Rattle.fpl_text.proofs.byte.other_lanes.Goals as goal

pub returns : goal.returns
returns c =
    let v = c.args.v in
    let b = c.args.byte in
    subst (λ ms. HasFlags (sel_l ms (replicate 16 0) (replicate 16 255)) (λ k. not (eqb (get_or v k 0) b)))
    (sym (tops_compared w8 eqb v (replicate 16 b))) (flags-other eqb v b c.fits-v.0)
