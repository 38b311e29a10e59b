-- What is true of the traffic between two readings: the slot lists are those of the plans, all
-- regulations are settled, the queue holds each filed flight that isn't due, and no notice is
-- pending.
use Rattle.std.specs.Prelude.{◌≡◌, ◌≤◌, ◌<◌, ℕ, Bool, true, false, List, [], length, map, Option}
use Rattle.std.specs.List.{All, AllByRecursion}
use Rattle.std.specs.List.Sorted.{IsStrictlyIncreasing}
use Rattle.flow_plans.specs.Settings.{IsDeskTime}
use Rattle.flow_plans.specs.Plans.{PlanView}
use Rattle.flow_regulations.specs.declared.notice.Told.{Told}
use Rattle.flow_regulations.specs.Awaiting.{Covers}
use Rattle.flow_regulations.specs.Settling.{settled, pairs_of}
use Rattle.flow_slots.specs.Assignment.{is_in}
use Rattle.flow_regulations.specs.Listing.{RegulationView, regulation_of, IsListed, IsSettled, is_named}
use Rattle.flow_regulations.specs.Quiet.{AllQuiet, HasSameSlots}
use Rattle.flow_traffic.specs.State.{TrafficState}
use Rattle.flow_traffic.specs.Asked.{departing}
use Rattle.flow_traffic.specs.declared.opening.TheConstants.{MAX_REGULATIONS}
use Rattle.flow_plans.specs.declared.setup.TheConstants.{MAX_PLANS}

pub record IsKeptState (s : TrafficState) (told : List (Option Told)) : Type 0 where
  pub desk_time : IsDeskTime s.time
  pub limit : s.listing.max_plans ≡ s.store.max_plans
  pub few : length s.listing.lists ≤ MAX_REGULATIONS
  pub room : length s.store.plans ≤ s.store.max_plans
  pub most : s.store.max_plans ≤ MAX_PLANS
  pub each : length told ≡ length s.store.plans
  pub listed : IsListed s.store.taxi s.listing.max_plans s.store.plans s.listing.lists
  pub settled_in : IsSettled s.store.taxi s.time s.store.plans s.listing.lists
  pub covers : Covers s.time s.store.plans s.queue.flights
  pub quiet : AllQuiet s.store.taxi (map regulation_of s.listing.lists) s.store.plans told

-- the regulations were settled after a message about one flight, which departs or does not: in that
-- state before, with these plans and slot lists after
pub record IsSettledFor (departs : Bool) (number : ℕ) (s : TrafficState) (plans : List PlanView) (lists : List RegulationView) : Type 0 where
  pub regulations : map regulation_of lists
      ≡ map (settled s.store.taxi s.time plans)
      (departing departs number s.store.taxi s.listing.max_plans s.store.plans (map regulation_of s.listing.lists))
  pub listed : IsListed s.store.taxi s.listing.max_plans plans lists
  pub settled_in : IsSettled s.store.taxi s.time plans lists
  pub others : (f : ℕ) → (f ≡ number → ⊥) → HasSameSlots f (map regulation_of s.listing.lists) (map regulation_of lists)

-- the flights with frozen slots in the open regulation of this name, by number: it makes a
-- difference to the advice of no other
pub record AreFixedIn (id : List ℕ) (lists : List RegulationView) (flights : List ℕ) : Type 0 where
  pub rising : IsStrictlyIncreasing flights
  pub numbers : (taxi now : ℕ) (plans : List PlanView) → IsSettled taxi now plans lists → All (λ n. (0 < n) × (n ≤ length plans)) flights
  pub others : (f : ℕ) → is_in f flights ≡ false → AllByRecursion (λ l. is_named id l ≡ true → pairs_of f l.lineup.fixed ≡ []) lists
