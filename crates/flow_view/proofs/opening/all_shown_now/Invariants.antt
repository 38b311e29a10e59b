use Rattle.std.proofs.Common.{◌≡◌, map}
use Rattle.flow_view.specs.Openings.{shown_now}
use Rattle.flow_view.proofs.opening.all_shown_now.Given as goal

abbrev pub invariant-loop-opening : goal.invariant-loop-opening
invariant-loop-opening g l = l.made.items ≡ map (shown_now l.core) l.yielded
