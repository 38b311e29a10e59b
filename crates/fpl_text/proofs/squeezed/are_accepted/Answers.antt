use Rattle.std.proofs.Common.{ℕ, ◌<◌, ◌≤◌, leb, ltb, get_or, sym, subst, w8}
use Rattle.std.proofs.lemmas.Bool.{eqb-true}
use Rattle.std.proofs.lemmas.Simd.{tops_compared}
use Rattle.std.specs.Simd.Lanes.{sel_l}
use Rattle.fpl_text.specs.Looks.{IsBits}
use Rattle.fpl_text.proofs.LookLemmas.{lower-most, lower-accepted}
use Rattle.fpl_text.proofs.squeezed.are_accepted.Goals as goal

pub bits_from-requires-clause-classes : goal.bits_from-requires-clause-classes
bits_from-requires-clause-classes c =
    let v = c.args.first in
    let w = c.args.second in
    subst (λ ms. (k : ℕ) → k < 32 → get_or (sel_l ms v w) k 0 ≤ 128) (sym (tops_compared w8 ltb v w)) (lower-most v w c.fits-first.0 c.fits-second.0 c.requires.first c.requires.second)

pub returns-clause-first : goal.returns-clause-first
returns-clause-first c all k l =
    let v = c.args.first in
    let w = c.args.second in
    let are = subst (λ ms. IsBits 32 c.bits_from.result (λ k. leb 2 (get_or (sel_l ms v w) k 0))) (tops_compared w8 ltb v w) c.bits_from.ensures.bits in
    (lower-accepted v w c.bits_from.result k c.fits-first.0 c.fits-second.0 are (eqb-true _ _ all) l).0

pub returns-clause-second : goal.returns-clause-second
returns-clause-second c all k l =
    let v = c.args.first in
    let w = c.args.second in
    let are = subst (λ ms. IsBits 32 c.bits_from.result (λ k. leb 2 (get_or (sel_l ms v w) k 0))) (tops_compared w8 ltb v w) c.bits_from.ensures.bits in
    (lower-accepted v w c.bits_from.result k c.fits-first.0 c.fits-second.0 are (eqb-true _ _ all) l).1
