use Rattle.std.proofs.lemmas.Simd.{pick_l_whole}
use Rattle.fpl_text.proofs.LaneLemmas.{ends, length-ends}
use Rattle.fpl_text.proofs.byte.both_ends.Goals as goal

pub returns : goal.returns
returns c = pick_l_whole 0 (ends c.args.text.now) 8 (length-ends c.args.text.now c.requires)
