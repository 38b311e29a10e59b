use Rattle.std.proofs.Common.{◌+◌, get_or, ap, arith, ◌∙◌}
use Rattle.std.proofs.lemmas.Simd.{get_or-chunk, get_or-put_chunk_at}
use Rattle.fpl_text.specs.Looks.{as_space}
use Rattle.fpl_text.proofs.LookLemmas.{front-stays, same-classes}
use Rattle.fpl_text.proofs.squeezed.put_spaced.Goals as goal

pub returns-clause-front : goal.returns-clause-front
returns-clause-front c = front-stays c.args.out.now c.spaced.result c.args.made c.requires.room c.spaced.ensures.long

pub returns-clause-spaced : goal.returns-clause-spaced
returns-clause-spaced c k l =
    let held = c.spaced.ensures in
    get_or-put_chunk_at c.args.made c.args.out.now c.spaced.result k 0 (omega (arith, l, held.long)) (omega (arith, held.long, c.requires.room))
    ∙ held.each k l ∙ ap as_space (get_or-chunk c.args.place 32 c.args.text.now k 0 l)

pub returns-clause-classes : goal.returns-clause-classes
returns-clause-classes c =
    same-classes c.classes.result _ (λ k. get_or c.args.text.now (c.args.place + k) 0) (λ k l. get_or-chunk c.args.place 32 c.args.text.now k 0 l) c.classes.ensures
