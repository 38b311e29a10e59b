use Rattle.std.proofs.Common.{ltb, get_or, replicate, sym, subst, w8}
use Rattle.std.proofs.lemmas.Simd.{tops_compared}
use Rattle.std.specs.Simd.Lanes.{sel_l}
use Rattle.fpl_text.specs.Looks.{HasSpaces}
use Rattle.fpl_text.proofs.LookLemmas.{spaces-are}
use Rattle.fpl_text.proofs.squeezed.spaced.Goals as goal

pub returns : goal.returns
returns c =
    let v = c.args.v in
    subst (λ ms. HasSpaces (sel_l ms (replicate 32 32) v) (λ k. get_or v k 0))
    (sym (tops_compared w8 ltb v (replicate 32 32))) (spaces-are v c.fits-v.0)
