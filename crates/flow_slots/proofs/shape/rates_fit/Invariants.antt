use Rattle.std.proofs.Common.{◌≡◌, drop}
use Rattle.flow_slots.specs.Limits.{rates_fit}
use Rattle.flow_slots.proofs.shape.rates_fit.Given as goal

abbrev pub invariant-loop-part : goal.invariant-loop-part
invariant-loop-part l = rates_fit l.hourly (drop l.part-index l.parts) ≡ rates_fit l.fn.rate l.parts
