use Rattle.std.proofs.Common.{◌-◌, ◌≤◌, length}
use Rattle.std.specs.List.{AllByRecursion}
use Rattle.flow_regulations.specs.Listing.{Walked, IsLookedAgain}
use Rattle.flow_regulations.specs.Marks.{IsMarked}
use Rattle.flow_regulations.proofs.regulations.reallocate_in.Given as goal

abbrev pub invariant-loop-index : goal.invariant-loop-index
invariant-loop-index g l = record {
  walked : Walked (IsLookedAgain l.number l.plans.taxi l.now l.plans.plans) l.index l.initial.regulations l.regulations;
  room : AllByRecursion (λ r. l.number ≤ r.lineup.capacity) l.regulations;
  covers : IsMarked l.marked l.number 0 l.regulations;
}

abbrev pub decreases-loop-index : goal.decreases-loop-index
decreases-loop-index g l = length l.regulations - l.index
