use Rattle.std.proofs.lemmas.Simd.{length-chunk, get_or-chunk}
use Rattle.fpl_text.proofs.byte.load.Goals as goal

pub returns-clause-lanes : goal.returns-clause-lanes
returns-clause-lanes c = record { long = length-chunk c.args.at 16 c.args.text.now c.requires; each = λ k l. get_or-chunk c.args.at 16 c.args.text.now k 0 l }
