use Rattle.flow_regulations.proofs.telling.tell_number.Goals as goal

pub advice_of-advice-requires-clause-covers : goal.advice_of-advice-requires-clause-covers
advice_of-advice-requires-clause-covers g c =
    c.of.ensures c.args.regulations.now c.requires.marked
