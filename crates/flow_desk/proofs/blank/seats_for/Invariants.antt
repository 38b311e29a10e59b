use Rattle.std.proofs.Common.{◌≡◌, length}
use Rattle.std.specs.List.{All}
use Rattle.flow_desk.specs.Blanks.{IsFree}
use Rattle.flow_desk.proofs.blank.seats_for.Given as goal

abbrev pub invariant-loop : goal.invariant-loop
invariant-loop g l = (l.publisher ≡ l.initial.publisher) × (length l.seats.items ≡ l.counter) × All (IsFree l.initial.publisher.book l.initial.publisher.setup l.initial.publisher.entries) l.seats.items
