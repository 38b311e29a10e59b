use Rattle.std.proofs.Common.{arith}
use Rattle.fpl_text.proofs.WordsLemmas.{estimate-stands}
use Rattle.fpl_text.proofs.words.is_estimate_at.Goals as goal

pub returns-clause-is : goal.returns-clause-is
returns-clause-is c h =
    let at = c.begins_estimate.ensures in
    (estimate-stands c.args.text.now c.args.from (omega (arith, c.if-text-lt16.false, c.if-from-text.false)) (at.letters h) (at.digits h) (at.tens h) (at.space h)).is

pub returns-clause-split : goal.returns-clause-split
returns-clause-split c h =
    let at = c.begins_estimate.ensures in
    (estimate-stands c.args.text.now c.args.from (omega (arith, c.if-text-lt16.false, c.if-from-text.false)) (at.letters h) (at.digits h) (at.tens h) (at.space h)).split
