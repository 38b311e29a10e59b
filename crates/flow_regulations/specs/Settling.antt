-- Freezing: a slot is issued two hours before the off-block time, and kept from then on (ATFCM
-- Users Manual, slot issue).
use Rattle.std.specs.Prelude.{ℕ, ◌+◌, Bool, false, ◌&&◌, ◌||◌, ◌==◌, if◌then◌else◌, nat_le, List, [], ◌∷◌, filter}
use Rattle.std.specs.Option.{option_map_or}
use Rattle.flow_plans.specs.Plans.{PlanView, plan_at, is_filed, is_departed}
use Rattle.flow_slots.specs.Period.{slot_time, first_slot}
use Rattle.flow_slots.specs.Assignment.{Placed, greedy, slots}
use Rattle.flow_slots.specs.Lineup.{insert_fixed, assigned}
use Rattle.flow_regulations.specs.Regulations.{Regulation, subject_to, has_flight, waiting_from, lineup_of}
use Rattle.flow_regulations.specs.declared.due_queue.TheConstants.{ISSUE_LEAD}

-- a filed flight is due from two hours before its off-block time on
abbrev pub is_due : ℕ → PlanView → Bool
is_due now p = is_filed p.state && nat_le p.off_block (now + ISSUE_LEAD)

abbrev pub is_due_flight : ℕ → List PlanView → ℕ → Bool
is_due_flight now plans flight = option_map_or (is_due now) (plan_at plans flight) false

-- a flight keeps its slot when it has departed, or while it is subject and due and its slot is not
-- before its entry
abbrev pub keeps : ℕ → ℕ → Regulation → ℕ → PlanView → Bool
keeps taxi now r slot p =
    is_departed p.state
    || (is_due now p && option_map_or (λ entry. nat_le entry (slot_time r.period slot)) (subject_to taxi r p) false)

abbrev pub keeps_pair : ℕ → ℕ → List PlanView → Regulation → Placed → Bool
keeps_pair taxi now plans r a = option_map_or (keeps taxi now r a.slot) (plan_at plans a.flight) false

abbrev pub kept_pairs : ℕ → ℕ → List PlanView → Regulation → List Placed
kept_pairs taxi now plans r = filter (keeps_pair taxi now plans r) r.fixed

-- more frozen flights, each inserted by its slot
abbrev pub insert_all : List Placed → List Placed → List Placed
insert_all [] fixed = fixed
insert_all (a ∷ others) fixed = insert_all others (insert_fixed a fixed)

-- the slots of the other subject flights, around those that are kept
abbrev pub assigned_around : ℕ → List PlanView → Regulation → List Placed → List Placed
assigned_around taxi plans r fixed = greedy (λ e. first_slot r.period e) (slots fixed) (waiting_from 1 taxi r fixed plans)

-- the regulation after all its flights were reallocated: of those assigned, the due ones are frozen
unfoldable pub settled : ℕ → ℕ → List PlanView → Regulation → Regulation
settled taxi now plans r =
    let fixed = kept_pairs taxi now plans r in
    record r { fixed = insert_all (filter (λ a. is_due_flight now plans a.flight) (assigned_around taxi plans r fixed)) fixed }

-- the pair of a flight among these
abbrev pub pairs_of : ℕ → List Placed → List Placed
pairs_of flight placed = filter (λ a. a.flight == flight) placed

-- the regulation with the slot that a departing flight holds by the plans before, frozen or not
unfoldable pub frozen_at_departure : ℕ → ℕ → List PlanView → ℕ → Regulation → Regulation
frozen_at_departure taxi max before flight r =
    if has_flight flight r.fixed then r
    else record r { fixed = insert_all (pairs_of flight (assigned (lineup_of taxi max before r))) r.fixed }
