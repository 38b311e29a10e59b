use Rattle.std.proofs.Common.{◌∙◌, ◌&&◌}
use Rattle.fpl_text.proofs.DigitLemmas.{both_none}
use Rattle.fpl_text.proofs.day.are_digits.Goals as goal

pub returns : goal.returns
returns c =
    both_none c.other_than_digits.result c.other_than_digits-2.result
    ∙ (λ i. c.other_than_digits.ensures i && c.other_than_digits-2.ensures i)
