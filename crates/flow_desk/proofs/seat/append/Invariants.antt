use Rattle.std.proofs.Common.{◌≡◌, drop}
use Rattle.flow_desk.proofs.seat.append.Given as goal

abbrev pub invariant-loop : goal.invariant-loop
invariant-loop g l = record {
  desk : l.writer.desk ≡ l.fn.writer.desk;
  pending : drop l.writer.behind l.writer.log.items ≡ drop l.fn.writer.behind l.fn.writer.log.items;
  operation : l.operation ≡ l.fn.operation;
}
