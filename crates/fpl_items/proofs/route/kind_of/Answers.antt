use Rattle.std.proofs.Common.{arith}
use Rattle.std.proofs.lemmas.List.Sums.{prefix_len-le-length}
use Rattle.fpl_text.specs.Bytes.{is_letter}
use Rattle.fpl_items.proofs.route.kind_of.Goals as goal

pub kind_with_digit-requires-clause-digit : goal.kind_with_digit-requires-clause-digit
kind_with_digit-requires-clause-digit c = omega (arith, c.requires.letters, prefix_len-le-length is_letter c.args.measured.now.word.now)

pub kind_with_other-requires : goal.kind_with_other-requires
kind_with_other-requires c = omega (arith, c.requires.letters, prefix_len-le-length is_letter c.args.measured.now.word.now)
