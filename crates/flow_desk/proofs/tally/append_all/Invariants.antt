use Rattle.std.proofs.Common.{◌≡◌, ◌≤◌, ◌+◌, ◌-◌, ◌++◌, length, take, vec_len, vec_capacity}
use Rattle.flow_desk.proofs.tally.append_all.Given as goal

abbrev pub invariant-loop-change : goal.invariant-loop-change
invariant-loop-change g l = record {
  appended : l.changes.items ≡ l.initial.changes.items ++ take l.change-index l.more;
  room : vec_len l.changes + (length l.more - l.change-index) ≤ vec_capacity l.changes;
}
