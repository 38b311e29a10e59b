use Rattle.std.proofs.Common.{◌≡◌, ◌<◌, ◌+◌, ◌*◌, ◌^◌, take}
use Rattle.std.specs.List.{fold}
use Rattle.flow_plans.proofs.chains.number_with.Given as goal

abbrev pub invariant-loop-byte : goal.invariant-loop-byte
invariant-loop-byte l = (l.number ≡ fold (λ number byte. 256 * number + byte) l.front (take l.byte-index l.bytes)) × (l.number < 256 ^ (4 + l.byte-index))
