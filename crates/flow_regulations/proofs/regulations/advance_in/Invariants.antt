use Rattle.std.proofs.Common.{◌≡◌, ℕ, List, length, map, take}
use Rattle.flow_plans.specs.Plans.{PlanView}
use Rattle.flow_regulations.specs.Listing.{Walked, IsAdvancing, is_among, with_fixed_waiting, AreDue}
use Rattle.flow_regulations.specs.Marks.{AreMarked}
use Rattle.flow_regulations.proofs.regulations.advance_in.Given as goal

abbrev pub invariant-loop-number : goal.invariant-loop-number
invariant-loop-number g l = record {
  lists : l.regulations ≡ map (with_fixed_waiting (take l.number-index l.due)) l.initial.regulations;
  walked : (taxi now : ℕ) (plans : List PlanView) → AreDue now plans l.due
      → Walked (IsAdvancing (is_among (take l.number-index l.due)) taxi now plans) (length l.regulations) l.initial.regulations l.regulations;
  marked : AreMarked l.marks l.regulations;
}
