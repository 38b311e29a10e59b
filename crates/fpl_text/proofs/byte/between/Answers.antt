use Rattle.fpl_text.proofs.byte.between.Goals as goal

pub returns : goal.returns
returns c = c.both.ensures _ _ c.at_least.ensures c.at_most.ensures
