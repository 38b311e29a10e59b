use Rattle.std.proofs.Common.{◌≡◌, length, take, vec_capacity}
use Rattle.flow_traffic.specs.Telling.{AreTold}
use Rattle.flow_traffic.proofs.undo.note_told.Given as goal

abbrev pub invariant-loop-number : goal.invariant-loop-number
invariant-loop-number g l = record {
  told : AreTold (take l.number-index l.changed) l.told l.noted.items;
  count : length l.noted.items ≡ l.number-index;
  capacity : vec_capacity l.noted ≡ vec_capacity l.initial.noted;
}
