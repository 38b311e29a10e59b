use Rattle.std.proofs.Common.{arith, rules}
use Rattle.fpl_text.proofs.DigitLemmas.{digits-tested}
use Rattle.fpl_text.proofs.time.other_than_digits.Goals as goal

pub returns : goal.returns
returns c = digits-tested c.args.bytes c.from_le_bytes-digits.result (search rules) (search rules) (omega (arith, c.from_le_bytes-digits.ensures))
