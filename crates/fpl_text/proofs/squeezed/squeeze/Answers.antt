use Rattle.std.proofs.Common.{◌≡◌, ◌+◌, ◌-◌, ap, arith, get_or, length, take, ◌∙◌}
use Rattle.fpl_text.proofs.LookLemmas.{same-classes}
use Rattle.fpl_text.proofs.BordersLemmas.{noted-all}
use Rattle.fpl_text.proofs.SqueezingLemmas.{pass-start, pass-empty, pass-ok}
use Rattle.fpl_text.proofs.squeezed.squeeze.Goals as goal

pub wholes-init : goal.wholes-init
wholes-init c = record {
  pass = pass-start c.args.text.now c.args.out.now c.requires.fits;
  noted = c.requires.none c.most_recorded-most.result;
}

pub take-requires-clause-look : goal.take-requires-clause-look
take-requires-clause-look c = c.of-look.ensures.look (λ k. get_or c.args.text.now (c.wholes.pass.place + k) 0) c.put_spaced.ensures.classes

pub take-requires-in-rests-clause-look : goal.take-requires-in-rests-clause-look
take-requires-in-rests-clause-look c =
    let text = c.args.text.now in
    let place = c.rests.pass.place in
    c.of-look-in-rests.ensures.look (λ k. get_or text (place + k) 0)
    (same-classes c.put_spaced-in-rests.result _ (λ k. get_or text (place + k) 0)
    (λ k l.
    let there : place + 32 - length text + k ≡ place + k + 32 - length text = omega (arith, c.rests.invariant.few) in
    ap (λ i. get_or c.last_bytes-last.result i 0) there ∙ c.last_bytes-last.ensures (place + k) (omega (arith, c.rests.invariant.few)))
    c.put_spaced-in-rests.ensures.classes)

pub returns-clause-empty : goal.returns-clause-empty
returns-clause-empty c none = pass-empty c.args.text.now c.rests.out c.rests.pass.place c.rests.pass.made c.rests.pass.border c.rests-test.false c.rests.invariant.pass none

pub returns-clause-some : goal.returns-clause-some
returns-clause-some c some = pass-ok c.args.text.now c.rests.out c.rests.pass.place c.rests.pass.made c.rests.pass.border c.rests-test.false c.rests.invariant.pass some

pub returns-clause-borders : goal.returns-clause-borders
returns-clause-borders c = noted-all (take c.rests.pass.made c.rests.out) c.most_recorded-most.result c.rests.borders c.rests.invariant.noted
