use Rattle.std.proofs.Common.{get_or, ap, false, ◌∙◌}
use Rattle.fpl_text.specs.declared.byte.TheConstants.{LETTERS_AND_DIGITS}
use Rattle.fpl_text.proofs.ByteLemmas.{in-table}
use Rattle.fpl_text.proofs.byte.is_letter_or_digit.Goals as goal

pub returns : goal.returns
returns c = ap (λ place. get_or LETTERS_AND_DIGITS place false) c.from.ensures ∙ in-table c.args.byte c.ranges.byte.fits
