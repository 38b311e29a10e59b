use Rattle.std.proofs.Common.{◌≡◌, map}
use Rattle.flow_view.specs.Openings.{shut_one}
use Rattle.flow_view.proofs.opening.with_shut.Given as goal

abbrev pub invariant-loop-opening : goal.invariant-loop-opening
invariant-loop-opening g l = l.made.items ≡ map (shut_one l.before l.number l.id) l.yielded
