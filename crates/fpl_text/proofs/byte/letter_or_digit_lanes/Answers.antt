use Rattle.std.proofs.Common.{◌||◌, ap, get_or}
use Rattle.fpl_text.specs.Bytes.{is_letter}
use Rattle.fpl_text.specs.Lanes.{flag}
use Rattle.fpl_text.proofs.LaneLemmas.{lanes-same, digits_are}
use Rattle.fpl_text.proofs.byte.letter_or_digit_lanes.Goals as goal

pub returns : goal.returns
returns c =
    lanes-same _ _ _ (λ k l. ap (λ d. flag (is_letter (get_or c.args.v k 0) || d)) (digits_are (get_or c.args.v k 0)))
    (c.either.ensures _ _ c.requires c.between.ensures)
