-- The flights that aren't due yet, by off-block time (ATFCM Users Manual, slot issue).
use Rattle.std.specs.Prelude.{◌≡◌, ℕ, ◌+◌, ◌<◌, Bool, true, false, ◌&&◌, ◌==◌, nat_lt, List, Some, slice_index_or as get_or}
use Rattle.std.specs.List.{All, Contains}
use Rattle.std.specs.List.Sorted.{IsStrictlyIncreasing}
use Rattle.std.specs.Option.{option_map_or}
use Rattle.std.specs.Ordering.{nat_cmp, ordering_then}
use Rattle.std.specs.declared.cmp.Ordering.{Ordering}
use Rattle.std.specs.declared.cmp.Reverse.{Reverse}
use Rattle.flow_plans.specs.Plans.{PlanView, plan_at, is_filed}
use Rattle.flow_regulations.specs.declared.due_queue.PendingFlight.{PendingFlight}
use Rattle.flow_regulations.specs.Settling.{is_due_flight}
use Rattle.flow_regulations.specs.Listing.{RegulationView, IsListed, IsSettled}
use Rattle.flow_regulations.specs.declared.due_queue.TheConstants.{ISSUE_LEAD}

-- flights with the off-block times that their plans had when they were put in the queue, in any
-- order, and the capacity
pub record DueQueueView : Type 0 where
  pub flights : List PendingFlight
  pub room : ℕ

-- each filed plan that isn't due is among them
abbrev pub Covers : ℕ → List PlanView → List PendingFlight → Type 0
Covers now plans flights =
    (number : ℕ) (p : PlanView) → 0 < number → plan_at plans number ≡ Some p → is_filed p.state ≡ true → now + ISSUE_LEAD < p.off_block
    → Contains flights (record { off_block = p.off_block; number = number })

-- the plan is filed, still has that off-block time, and wasn't due earlier
abbrev pub awaits : ℕ → List PlanView → PendingFlight → Bool
awaits earlier plans a =
    option_map_or (λ p. is_filed p.state && (p.off_block == a.off_block) && nat_lt (earlier + ISSUE_LEAD) p.off_block) (plan_at plans a.number) false

-- a flight that became due
abbrev pub BecameDue : ℕ → ℕ → List PlanView → ℕ → Type 0
BecameDue earlier now plans number =
    (0 < number) × (is_due_flight now plans number ≡ true) × (is_due_flight earlier plans number ≡ false)

-- the earliest time is the greatest, of equal ones the lowest number
abbrev pub earlier_first : Reverse PendingFlight → Reverse PendingFlight → Ordering
earlier_first x y = ordering_then (nat_cmp y.0.off_block x.0.off_block) (nat_cmp y.0.number x.0.number)

-- the first flights of a list, with the off-block times of their plans
abbrev pub AreHeld : List PlanView → ℕ → List ℕ → List (Reverse PendingFlight) → Type 0
AreHeld plans count numbers heap =
    (k : ℕ) (p : PlanView) → k < count → plan_at plans (get_or numbers k 0) ≡ Some p
    → Contains heap (record { 0 = record { off_block = p.off_block; number = get_or numbers k 0 } })

-- regulations that were settled earlier, in which these flights have become due since then, none
-- twice
pub record HaveBecomeDue (taxi max earlier now : ℕ) (plans : List PlanView) (flights : List ℕ) (lists : List RegulationView) : Type 0 where
  pub rising : IsStrictlyIncreasing flights
  pub became : All (BecameDue earlier now plans) flights
  pub listed : IsListed taxi max plans lists
  pub settled_in : IsSettled taxi earlier plans lists
