use Rattle.std.proofs.Common.{◌≡◌, ℕ, ◌≤◌, List, length, map, take}
use Rattle.flow_regulations.specs.Awaiting.{HaveBecomeDue}
use Rattle.flow_regulations.specs.Listing.{RegulationView, HaveCapacity, names_in, with_fixed_waiting}
use Rattle.flow_regulations.specs.Marks.{AreMarked, AreInRows}
use Rattle.flow_regulations.proofs.regulations.release_all_in.Given as goal

abbrev pub invariant-loop-left : goal.invariant-loop-left
invariant-loop-left g l = record {
  within : l.left ≤ length l.due;
  capacity : (max : ℕ) → HaveCapacity max l.initial.regulations → HaveCapacity max l.regulations;
  names : names_in l.regulations ≡ names_in l.initial.regulations;
  marked : (words : List ℕ) → AreMarked words l.initial.regulations → AreMarked words l.regulations;
  rows : (table : List ℕ) → AreInRows table 0 l.initial.regulations → AreInRows table 0 l.regulations;
  lists : (max earlier now : ℕ) (before : List RegulationView) → HaveBecomeDue l.plans.taxi max earlier now l.plans.plans l.due before
      → l.initial.regulations ≡ map (with_fixed_waiting l.due) before → l.regulations ≡ map (with_fixed_waiting (take l.left l.due)) before;
}

abbrev pub decreases-loop-left : goal.decreases-loop-left
decreases-loop-left g l = l.left
