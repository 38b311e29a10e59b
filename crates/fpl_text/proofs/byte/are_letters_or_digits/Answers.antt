use Rattle.std.proofs.Common.{length, Fits, w8, subst, sym, ap, ◌∙◌}
use Rattle.std.specs.List.{list_all}
use Rattle.std.specs.Simd.Lanes.{Each1}
use Rattle.fpl_text.specs.Bytes.{is_letter_or_digit}
use Rattle.fpl_text.proofs.LaneLemmas.{eight-in, length-ends, ends-all, ends-fit}
use Rattle.fpl_text.proofs.byte.are_letters_or_digits.Goals as goal

pub returns : goal.returns
returns c =
    let text = c.args.text.now in
    let fits = subst (Each1 (Fits w8)) (sym c.both_ends-ends.ensures) (ends-fit text c.type_inv.text) in
    eight-in c.both_ends-ends.result (ap length c.both_ends-ends.ensures ∙ length-ends text c.requires.some) fits
    ∙ ap (list_all is_letter_or_digit) c.both_ends-ends.ensures
    ∙ ends-all is_letter_or_digit text c.requires.some c.requires.few
