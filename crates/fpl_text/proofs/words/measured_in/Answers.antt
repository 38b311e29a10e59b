use Rattle.fpl_text.specs.Bytes.{is_letter, is_letter_or_digit}
use Rattle.fpl_text.proofs.WordsLemmas.{front-prefix, no_letter, no_letter_or_digit}
use Rattle.fpl_text.proofs.words.measured_in.Goals as goal

pub returns-clause-letters : goal.returns-clause-letters
returns-clause-letters c =
    front-prefix is_letter c.args.lanes c.args.word.now c.args.place c.set_lanes_from.result c.requires no_letter c.set_lanes_from.ensures.bound
    (c.set_lanes_from.ensures.set _ c.letter_lanes-letters.ensures) (c.set_lanes_from.ensures.stops _ c.letter_lanes-letters.ensures)

pub returns-clause-letters_or_digits : goal.returns-clause-letters_or_digits
returns-clause-letters_or_digits c =
    front-prefix is_letter_or_digit c.args.lanes c.args.word.now c.args.place c.set_lanes_from-2.result c.requires no_letter_or_digit c.set_lanes_from-2.ensures.bound
    (c.set_lanes_from-2.ensures.set _ c.letter_or_digit_lanes.ensures) (c.set_lanes_from-2.ensures.stops _ c.letter_or_digit_lanes.ensures)
