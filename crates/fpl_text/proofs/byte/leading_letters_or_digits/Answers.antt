use Rattle.std.proofs.Common.{◌≡◌, ◌≤◌, ◌+◌, length, drop, sym, ap, arith, ◌∙◌}
use Rattle.std.specs.List.{prefix_len}
use Rattle.fpl_text.specs.Bytes.{is_letter_or_digit}
use Rattle.fpl_text.proofs.ByteLemmas.{prefix-more, prefix-end, prefix-rest}
use Rattle.fpl_text.proofs.byte.leading_letters_or_digits.Goals as goal

pub returns-then-count-lt16-clause-value : goal.returns-then-count-lt16-clause-value
returns-then-count-lt16-clause-value c =
    let front = c.letters_or_digits_at-count.ensures in
    sym (c.lanes.invariant.so_far ∙ ap (λ n. c.lanes.place + n)
    (prefix-end is_letter_or_digit c.args.text.now c.lanes.place c.letters_or_digits_at-count.result (omega (arith, c.lanes-test.true, c.if-count-lt16.true, c.lanes.invariant.within)) front.are (front.stops c.if-count-lt16.true)))

pub lanes-preserved : goal.lanes-preserved
lanes-preserved c =
    let front = c.letters_or_digits_at-count.ensures in
    let count = c.letters_or_digits_at-count.result in
    let within : c.lanes.place + count ≤ length c.args.text.now = omega (arith, c.lanes-test.true, front.bound, c.lanes.invariant.within) in
    let next : prefix_len is_letter_or_digit c.args.text.now ≡ c.lanes.place + count + prefix_len is_letter_or_digit (drop (c.lanes.place + count) c.args.text.now) =
    omega (arith, c.lanes.invariant.so_far, prefix-more is_letter_or_digit c.args.text.now c.lanes.place count within front.are) in
    record { within = within; so_far = next }

pub returns-clause-value : goal.returns-clause-value
returns-clause-value c =
    ap (λ n. c.lanes.place + n) (c.few_letters_or_digits.ensures.value ∙ prefix-rest is_letter_or_digit c.args.text.now c.lanes.place)
    ∙ sym c.lanes.invariant.so_far
