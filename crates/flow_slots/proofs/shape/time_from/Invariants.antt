use Rattle.std.proofs.Common.{◌≡◌, ◌≤◌, drop}
use Rattle.flow_slots.specs.Period.{AreSubperiods, time_from}
use Rattle.flow_slots.proofs.shape.time_from.Given as goal

abbrev pub invariant-loop-part : goal.invariant-loop-part
invariant-loop-part l = record {
  subperiods : AreSubperiods l.fn.end l.from l.hourly (drop l.part-index l.parts);
  same : time_from l.from l.hourly (drop l.part-index l.parts) l.left ≡ time_from l.fn.start l.fn.rate l.parts l.fn.k;
  later : l.fn.start ≤ l.from;
  left : l.left ≤ l.fn.k;
}
