use Rattle.std.proofs.Common.{◌∙◌, sym, ap}
use Rattle.fpl_text.specs.Times.{two_digits}
use Rattle.fpl_text.proofs.DigitLemmas.{six-pairs, six-tested}
use Rattle.fpl_text.proofs.MomentsLemmas.{is_date-digits, is_date-other_length, is_date-other_bytes}
use Rattle.fpl_text.proofs.day.read_date.Goals as goal

pub returns-then-text-ne6-clause-value : goal.returns-then-text-ne6-clause-value
returns-then-text-ne6-clause-value c = is_date-other_length c.args.text.now c.if-text-ne6.true

pub returns-then-not-are_digits-clause-value : goal.returns-then-not-are_digits-clause-value
returns-then-not-are_digits-clause-value c =
    let same = c.are_digits.ensures ∙ six-tested c.args.text.now _ _ c.if-text-ne6.false c.parts_of.ensures.front c.parts_of.ensures.back in
    is_date-other_bytes c.args.text.now (sym same ∙ c.if-not-are_digits.true)

pub returns-clause-value : goal.returns-clause-value
returns-clause-value c =
    let same = c.are_digits.ensures ∙ six-tested c.args.text.now _ _ c.if-text-ne6.false c.parts_of.ensures.front c.parts_of.ensures.back in
    let date = is_date-digits c.args.text.now c.if-text-ne6.false (sym same ∙ c.if-not-are_digits.false) in
    let pairs = six-pairs c.args.text.now c.if-text-ne6.false in
    rw (
      date,
      ← (c.pairs_of-year.ensures.first ∙ ap (λ t. two_digits t 0) c.parts_of.ensures.front ∙ pairs.0),
      ← (c.pairs_of-year.ensures.last ∙ ap (λ t. two_digits t 2) c.parts_of.ensures.front ∙ pairs.1),
      ← (c.pairs_of-day.ensures.first ∙ ap (λ t. two_digits t 0) c.parts_of.ensures.back ∙ pairs.2),
    ) c.civil_date.ensures.value
