-- The rows of a slot list as they are shown: its held slots in order, each with its flight.
use Rattle.std.specs.Prelude.{ℕ, zero, suc, List, [], ◌++◌, map, Option}
use Rattle.std.specs.Option.{option_map, is_some, option_to_list}
use Rattle.fpl_message.specs.declared.order.Spot.{Spot}
use Rattle.flow_plans.specs.Plans.{PlanView, plan_at}
use Rattle.flow_plans.specs.Entries.{entry_at}
use Rattle.flow_slots.specs.Assignment.{Placed}
use Rattle.flow_slots.specs.Period.{slot_time}
use Rattle.flow_slots.specs.Lineup.{Lineup, len_of, held_flight, fixed_slot}
use Rattle.flow_regulations.specs.declared.notice.Told.{Told}
use Rattle.flow_traffic.specs.Traffic.{Traffic, told_of}
use Rattle.flow_core.specs.History.{History, state_of}
use Rattle.flow_view.specs.declared.flight.Flight.{Flight}
use Rattle.flow_view.specs.declared.slot_row.SlotRow.{SlotRow}

-- the flight of a plan with the CTOT last issued to it, as it enters a point
abbrev pub shown_flight : ℕ → Spot → PlanView → Option Told → Flight
shown_flight taxi spot p told =
    record {
      ident = p.key.ident;
      dep = p.key.dep;
      dest = p.key.dest;
      off_block = p.off_block;
      state = p.state;
      entry = entry_at taxi spot p;
      told = told;
    }

-- that of the plan of this number
abbrev pub shown_flight_at : ℕ → Traffic → Spot → ℕ → Option Flight
shown_flight_at taxi t spot number = option_map (λ p. shown_flight taxi spot p (told_of t.told number)) (plan_at t.plans number)

-- the row of a flight in its slot
abbrev pub slot_row_of : ℕ → Traffic → Spot → Lineup → Placed → SlotRow
slot_row_of taxi t spot l a =
    record {
      slot = a.slot;
      time = slot_time l.period a.slot;
      plan = a.flight;
      frozen = is_some (fixed_slot l a.flight);
      flight = shown_flight_at taxi t spot a.flight;
    }

-- the held slots before slot k, in order, each with the flight that the assignment gives it
abbrev pub slot_before : ℕ → Lineup → List Placed
slot_before zero l = []
slot_before (suc k) l = slot_before k l ++ option_to_list (option_map (λ f. record { flight = f; slot = k }) (held_flight l k))

-- all of them
abbrev pub held : Lineup → List Placed
held l = slot_before (len_of l) l

-- the rows of a slot list of a desk, at this point
abbrev pub shown : History → Spot → Lineup → List SlotRow
shown h spot l = map (slot_row_of h.setup.taxi (state_of h).traffic spot l) (held l)
