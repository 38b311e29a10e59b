use Rattle.fpl_text.proofs.byte.or_equal_to.Goals as goal

pub returns : goal.returns
returns c = λ p h. c.either.ensures _ _ h c.equal_to.ensures
