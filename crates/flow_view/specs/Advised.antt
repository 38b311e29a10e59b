-- The delay of a flight beside the advice, by which the desk issues its slot.
use Rattle.std.specs.Prelude.{◌≡◌, ◌⊎◌, ℕ, ◌+◌, List, [], ◌∷◌, Some, None, IsSome}
use Rattle.std.specs.List.{AllZip, AllByRecursion}
use Rattle.std.specs.Option.{option_map}
use Rattle.flow_plans.specs.Plans.{PlanView, plan_at}
use Rattle.flow_plans.specs.Entries.{take_off, entry_at}
use Rattle.flow_slots.specs.Lineup.{Lineup, held_slot, fixed_slot}
use Rattle.flow_regulations.specs.declared.notice.Told.{Told}
use Rattle.flow_regulations.specs.Regulations.{Regulation, lineup_of}
use Rattle.flow_regulations.specs.Advice.{advice}
use Rattle.flow_traffic.specs.Traffic.{regulation_named}
use Rattle.flow_core.specs.History.{History, state_of}
use Rattle.flow_view.specs.declared.delay.FlightDelay.{FlightDelay}
use Rattle.flow_view.specs.Openings.{OpeningView, opening_rows}
use Rattle.flow_view.specs.Delays.{worse_in, delay_of_flight}

-- the slot of a flight with a delay: its CTOT, and the regulation that causes it
abbrev pub slot_with : ℕ → PlanView → FlightDelay → Told
slot_with taxi p d = record { ctot = take_off taxi p + d.minutes; regulation = d.regulation }

-- what is shown of a regulation gives the flight of a plan the slot that the advice gives it in
-- this regulation alone
abbrev pub GivesAdvised : ℕ → ℕ → PlanView → OpeningView → Regulation → Type 0
GivesAdvised taxi number p o r =
    option_map (slot_with taxi p) (worse_in number None o) ≡ advice taxi number p (r ∷ [])

-- If that holds in each regulation, the delay of the flight and its cause are those of the advice.
abbrev pub IsAdvised : Type 0
IsAdvised =
    (taxi number : ℕ) (p : PlanView) (os : List OpeningView) (rs : List Regulation) → AllZip (GivesAdvised taxi number p) os rs
    → option_map (slot_with taxi p) (delay_of_flight os number) ≡ advice taxi number p rs

-- ---- at a desk

-- what is shown of an open regulation
pub record IsShownOf (h : History) (o : OpeningView) (r : Regulation) : Type 0 where
  pub id : o.id ≡ r.id
  pub spot : o.spot ≡ r.spot
  pub named : regulation_named r.id (state_of h).traffic.regulations ≡ Some r
  pub rows : o.rows ≡ opening_rows h o

-- the slot list of a regulation
abbrev pub list_of : History → Regulation → Lineup
list_of h r = let t = (state_of h).traffic in lineup_of t.taxi t.max_plans t.plans r

-- the flight of a plan has a frozen slot in a regulation that it is planned to enter, or none at
-- all
abbrev pub IsFrozenOrOut : History → ℕ → PlanView → Regulation → Type 0
IsFrozenOrOut h number p r =
    (IsSome (fixed_slot (list_of h r) number) × IsSome (entry_at h.setup.taxi r.spot p)) ⊎ (held_slot (list_of h r) number ≡ None)

-- If the flight of a plan is frozen in all regulations of a desk that hold it, its delay in what is
-- shown of them, and the cause of that, are those of the advice.
abbrev pub IsAdvisedAt : Type 0
IsAdvisedAt =
    (h : History) (number : ℕ) (p : PlanView) (os : List OpeningView) → let rs = (state_of h).traffic.regulations in
    plan_at (state_of h).traffic.plans number ≡ Some p → AllZip (IsShownOf h) os rs → AllByRecursion (IsFrozenOrOut h number p) rs
    → option_map (slot_with h.setup.taxi p) (delay_of_flight os number) ≡ advice h.setup.taxi number p rs
