use Rattle.flow_regulations.specs.Listing.{Walked, IsReleased}
use Rattle.flow_regulations.proofs.regulations.release_in.Given as goal

abbrev pub invariant-loop-regulation : goal.invariant-loop-regulation
invariant-loop-regulation g l = Walked (IsReleased l.number l.plans.taxi l.plans.plans) l.regulation-index l.initial.regulations l.regulations
