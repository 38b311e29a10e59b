use Rattle.std.proofs.Common.{◌≡◌, length, take}
use Rattle.flow_traffic.specs.Telling.{told_again}
use Rattle.flow_traffic.proofs.undo.tell_again.Given as goal

abbrev pub invariant-loop-index : goal.invariant-loop-index
invariant-loop-index g l = record {
  told : l.told.items ≡ told_again (take l.index l.changed) (take l.index l.noted) l.initial.told.items;
  length : length l.told.items ≡ length l.initial.told.items;
}
