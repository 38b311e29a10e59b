use Rattle.std.proofs.Common.{◌≡◌, ◌+◌, ap, sym, arith, ◌∙◌}
use Rattle.fpl_text.specs.Bytes.{is_letter_or_digit}
use Rattle.fpl_text.proofs.byte.letters_or_digits_at.Goals as goal

pub returns-clause-are : goal.returns-clause-are
returns-clause-are c k l =
    let none : 0 + k ≡ k = omega arith in
    let few = c.set_lanes_from.ensures.bound in
    ap is_letter_or_digit (sym (c.load-lanes.ensures.lanes.each k (omega (arith, l, few)))) ∙ rw none at (c.set_lanes_from.ensures.set _ c.letter_or_digit_lanes.ensures k l)

pub returns-clause-stops : goal.returns-clause-stops
returns-clause-stops c l =
    let none : 0 + c.set_lanes_from.result ≡ c.set_lanes_from.result = omega arith in
    ap is_letter_or_digit (sym (c.load-lanes.ensures.lanes.each c.set_lanes_from.result l)) ∙ rw none at (c.set_lanes_from.ensures.stops _ c.letter_or_digit_lanes.ensures (omega (arith, l)))
