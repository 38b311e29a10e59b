use Rattle.std.proofs.Common.{◌≡◌, drop}
use Rattle.flow_slots.specs.ChangeList.{MayAll, changed_by}
use Rattle.flow_slots.proofs.slot_list.SlotList.change_all.Given as goal

abbrev pub invariant-loop-change : goal.invariant-loop-change
invariant-loop-change g l = record {
  may : MayAll (drop l.change-index l.changes) l.self.lineup;
  same : changed_by (drop l.change-index l.changes) l.self.lineup ≡ changed_by l.changes l.fn.self.lineup;
}
