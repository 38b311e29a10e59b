use Rattle.std.proofs.Common.{◌+◌, ◌-◌, ◌%◌, ◌^◌}
use Rattle.fpl_text.proofs.LaneLemmas.{lanes-zip2}
use Rattle.fpl_text.proofs.byte.above_lanes.Goals as goal

pub returns : goal.returns
returns c = lanes-zip2 (λ a b. (a + (2 ^ 8 - b)) % 2 ^ 8) c.args.v c.args.low c.fits-v.0 c.fits-low.0
