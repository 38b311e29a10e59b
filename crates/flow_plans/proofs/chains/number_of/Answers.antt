use Rattle.std.proofs.Common.{◌∙◌, arith}
use Rattle.flow_plans.specs.Chains.{base_256}
use Rattle.flow_plans.proofs.FlightNumbers.{number-front}
use Rattle.flow_plans.proofs.chains.number_of.Goals as goal

pub returns-then-bytes-lt4 : goal.returns-then-bytes-lt4
unfolding base_256
returns-then-bytes-lt4 c = c.number_with.ensures

pub returns : goal.returns
returns c = rw (c.from.ensures, c.letters_of.ensures.letters) at c.number_with-2.ensures ∙ number-front c.args.bytes.now (omega (arith, c.if-bytes-lt4.false))
