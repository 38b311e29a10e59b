-- Regulations, and the flights with provisional slots in them (ATFCM Users Manual, slot
-- allocation).
use Rattle.std.specs.Prelude.{ℕ, ◌+◌, Bool, ◌==◌, if◌then◌else◌, List, [], ◌∷◌, Option, Some, None}
use Rattle.std.specs.List.{list_any}
use Rattle.fpl_message.specs.declared.order.Spot.{Spot}
use Rattle.flow_plans.specs.Plans.{PlanView}
use Rattle.flow_plans.specs.Entries.{subject, entering_from}
use Rattle.flow_slots.specs.declared.cell.Planned.{Planned}
use Rattle.flow_slots.specs.Period.{Period}
use Rattle.flow_slots.specs.Order.{insert}
use Rattle.flow_slots.specs.Assignment.{Placed}
use Rattle.flow_slots.specs.Lineup.{Lineup}

-- an open regulation, with the flights that have frozen slots in it, by slot
pub record Regulation : Type 0 where
  pub id : List ℕ
  pub spot : Spot
  pub period : Period
  pub fixed : List Placed

-- the entry of a flight to which the regulation applies
abbrev pub subject_to : ℕ → Regulation → PlanView → Option ℕ
subject_to taxi r plan = subject taxi r.spot r.period.start r.period.end plan

abbrev pub has_flight : ℕ → List Placed → Bool
has_flight flight placed = list_any (λ a. a.flight == flight) placed

-- one more flight with a provisional slot, if it enters and has no frozen one
abbrev pub with_entry : Option ℕ → Bool → ℕ → List Planned → List Planned
with_entry None keeps flight others = others
with_entry (Some entry) keeps flight others =
    if keeps then others else insert (record { entry = entry; flight = flight }) others

-- of the plans numbered from n, those to which the regulation applies and that have no frozen slot,
-- in the order
abbrev pub waiting_from : ℕ → ℕ → Regulation → List Placed → List PlanView → List Planned
waiting_from n taxi r fixed [] = []
waiting_from n taxi r fixed (p ∷ ps) =
    with_entry (subject_to taxi r p) (has_flight n fixed) n (waiting_from (n + 1) taxi r fixed ps)

-- of the plans numbered from n, those to which the regulation applies, by number
abbrev pub coming_from : ℕ → ℕ → Regulation → List PlanView → List Planned
coming_from n taxi r plans = entering_from n (subject_to taxi r) plans

-- the slot list of a regulation
abbrev pub lineup_of : ℕ → ℕ → List PlanView → Regulation → Lineup
lineup_of taxi max plans r = record { period = r.period; capacity = max; waiting = waiting_from 1 taxi r r.fixed plans; fixed = r.fixed }
