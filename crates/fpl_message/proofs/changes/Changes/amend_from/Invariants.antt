use Rattle.std.proofs.Common.{◌≡◌, drop}
use Rattle.fpl_message.specs.Modifications.{amend_all}
use Rattle.fpl_message.specs.KeptChanges.{kept, StandAmong}
use Rattle.fpl_message.proofs.changes.Changes.amend_from.Given as goal

abbrev pub invariant-loop-place : goal.invariant-loop-place
invariant-loop-place g l = record {
  walk : amend_all (drop l.place l.fields) (kept l.fields l.self) ≡ amend_all (drop l.first l.fields) (kept l.fields l.fn.self);
  stand : StandAmong l.fields l.fn.self → StandAmong l.fields l.self;
}
