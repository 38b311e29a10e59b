use Rattle.std.proofs.Common.{◌≡◌, ◌≤◌, ◌+◌, ◌-◌, ◌*◌, drop}
use Rattle.flow_slots.specs.Period.{AreSubperiods, slot_from}
use Rattle.flow_slots.proofs.shape.slot_from.Given as goal

abbrev pub invariant-loop-part : goal.invariant-loop-part
invariant-loop-part l = record {
  subperiods : AreSubperiods l.fn.end l.from l.hourly (drop l.part-index l.parts);
  same : l.before + slot_from l.from l.hourly (drop l.part-index l.parts) l.fn.moment ≡ slot_from l.fn.start l.fn.rate l.parts l.fn.moment;
  later : l.fn.start ≤ l.from;
  reached : l.from ≤ l.fn.moment;
  few : l.before ≤ 4 * (l.from - l.fn.start);
}
