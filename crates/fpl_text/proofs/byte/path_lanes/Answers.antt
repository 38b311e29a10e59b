use Rattle.fpl_text.specs.Bytes.{is_path_byte}
use Rattle.fpl_text.proofs.byte.path_lanes.Goals as goal

pub returns : goal.returns
unfolding is_path_byte
returns c = c.or_equal_to-2.ensures _ (c.or_equal_to.ensures _ c.letter_or_digit_lanes-letters_or_digits.ensures)
