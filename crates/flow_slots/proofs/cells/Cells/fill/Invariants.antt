use Rattle.std.proofs.Common.{◌≡◌, ◌-◌, length}
use Rattle.flow_slots.proofs.Filling.{Filling}
use Rattle.flow_slots.proofs.cells.Cells.fill.Given as goal

abbrev pub invariant-loop-planned : goal.invariant-loop-planned
invariant-loop-planned g l = record {
  walk : Filling l.shape (length l.fn.places.items - 1) l.flights l.planned-index l.next l.self.row l.places.items;
  start : l.self.start ≡ l.fn.self.start;
  writes : l.self.writes ≡ l.fn.self.writes;
}
