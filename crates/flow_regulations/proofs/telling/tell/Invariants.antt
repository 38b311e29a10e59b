use Rattle.std.proofs.Common.{◌≡◌, ◌+◌, ◌≤◌, drop, map, length, vec_capacity}
use Rattle.flow_regulations.specs.Listing.{regulation_of}
use Rattle.flow_regulations.proofs.Turns.{IsTelling}
use Rattle.flow_regulations.proofs.telling.tell.Given as goal

abbrev pub invariant-loop-number : goal.invariant-loop-number
invariant-loop-number g l = record {
  telling : IsTelling l.plans.taxi (map regulation_of l.regulations) l.plans.plans l.fn.told.items l.fn.notices.items l.told.items l.notices.items
      (drop l.number-index l.changed);
  few : length l.notices.items ≤ length l.fn.notices.items + l.number-index;
  capacity : vec_capacity l.notices ≡ vec_capacity l.fn.notices;
}
