use Rattle.std.proofs.Common.{◌+◌, ◌≡◌, ap, arith, get_or, subst, sym, ◌∙◌}
use Rattle.fpl_text.specs.Borders.{IsNoted}
use Rattle.fpl_text.proofs.LookLemmas.{same-classes}
use Rattle.fpl_text.proofs.SqueezingLemmas.{pass-stays, two-fronts, two-spaced}
use Rattle.fpl_text.proofs.squeezed.Pass.take_long.Goals as goal

pub returns-in_default-clause-pass : goal.returns-in_default-clause-pass
returns-in_default-clause-pass c =
    pass-stays c.args.text.now c.longs.out c.put_spaced-second.new.out _ _ _ c.longs.invariant.pass (c.put_spaced-second.ensures.long ∙ c.put_spaced-first.ensures.long)
    (two-fronts c.longs.out c.put_spaced-first.new.out c.put_spaced-second.new.out c.longs.pass.made c.put_spaced-first.ensures.front c.put_spaced-second.ensures.front)

pub returns-in_default-clause-noted : goal.returns-in_default-clause-noted
returns-in_default-clause-noted c =
    subst (λ front. IsNoted front c.args.most c.longs.borders)
    (sym (two-fronts c.longs.out c.put_spaced-first.new.out c.put_spaced-second.new.out c.longs.pass.made c.put_spaced-first.ensures.front c.put_spaced-second.ensures.front))
    c.longs.invariant.noted

pub take-requires-clause-pass : goal.take-requires-clause-pass
take-requires-clause-pass c =
    pass-stays c.args.text.now c.longs.out c.put_spaced-second.new.out _ _ _ c.longs.invariant.pass (c.put_spaced-second.ensures.long ∙ c.put_spaced-first.ensures.long)
    (two-fronts c.longs.out c.put_spaced-first.new.out c.put_spaced-second.new.out c.longs.pass.made c.put_spaced-first.ensures.front c.put_spaced-second.ensures.front)

pub take-requires-clause-look : goal.take-requires-clause-look
take-requires-clause-look c =
    c.in-Some.ensures.look (λ k. get_or c.args.text.now (c.longs.pass.place + k) 0) c.put_spaced-first.ensures.classes
    (same-classes c.put_spaced-second.result _ (λ k. get_or c.args.text.now (c.longs.pass.place + (32 + k)) 0)
    (λ k l. let there : c.longs.pass.place + 32 + k ≡ c.longs.pass.place + (32 + k) = omega arith in ap (λ i. get_or c.args.text.now i 0) there)
    c.put_spaced-second.ensures.classes)

pub take-requires-clause-spaced : goal.take-requires-clause-spaced
take-requires-clause-spaced c k l =
    two-spaced c.args.text.now c.put_spaced-first.new.out c.put_spaced-second.new.out c.longs.pass.place c.longs.pass.made c.put_spaced-second.ensures.front
    c.put_spaced-first.ensures.spaced c.put_spaced-second.ensures.spaced k (omega (arith, l, c.in-Some.ensures.len))

pub take-requires-clause-noted : goal.take-requires-clause-noted
take-requires-clause-noted c =
    subst (λ front. IsNoted front c.args.most c.longs.borders)
    (sym (two-fronts c.longs.out c.put_spaced-first.new.out c.put_spaced-second.new.out c.longs.pass.made c.put_spaced-first.ensures.front c.put_spaced-second.ensures.front))
    c.longs.invariant.noted
