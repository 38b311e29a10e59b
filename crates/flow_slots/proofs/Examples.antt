-- The worked examples of the definitions.
use Rattle.std.proofs.Common.{◌≡◌, ℕ, [], ◌∷◌, refl}
use Rattle.flow_slots.specs.declared.cell.Planned.{Planned}
use Rattle.flow_slots.specs.Period.{Period, slot_time, first_slot, slots_before_end}
use Rattle.flow_slots.specs.Assignment.{Placed}
use Rattle.flow_slots.specs.Lineup.{Lineup, assigned, with_waiting, with_fixed, without_flight, fixed_at, len_of}

-- 10:00 to 12:00, in minutes of the day, 20 an hour
abbrev ten_to_twelve : Period
ten_to_twelve = record { start = 600; end = 720; rate = 20; parts = [] }

abbrev empty : Lineup
empty = record { period = ten_to_twelve; capacity = 5; waiting = []; fixed = [] }

abbrev planned : ℕ → ℕ → Planned
planned flight entry = record { entry = entry; flight = flight }

abbrev placed : ℕ → ℕ → Placed
placed flight slot = record { flight = flight; slot = slot }

abbrev four : Lineup
four = with_waiting (planned 4 600) (with_waiting (planned 3 601) (with_waiting (planned 2 600) (with_waiting (planned 1 600) empty)))

-- the fourth filing displaces the third flight
displaced : assigned four ≡ placed 1 0 ∷ placed 2 1 ∷ placed 4 2 ∷ placed 3 3 ∷ []
displaced = refl

-- a cancelled flight's slot is filled
pulled_forward : assigned (without_flight 2 four) ≡ placed 1 0 ∷ placed 4 1 ∷ placed 3 2 ∷ []
pulled_forward = refl

abbrev three : Lineup
three = with_waiting (planned 3 601) (with_waiting (planned 2 600) (with_waiting (planned 1 600) empty))

put_in : assigned (with_fixed (placed 4 1) three) ≡ placed 4 1 ∷ placed 1 0 ∷ placed 2 2 ∷ placed 3 3 ∷ []
put_in = refl

released : assigned (with_waiting (planned 2 607) (without_flight 2 (fixed_at (placed 2 1) three))) ≡ placed 1 0 ∷ placed 3 1 ∷ placed 2 3 ∷ []
released = refl

length_five : len_of three ≡ 45
length_five = refl

-- entries at the last minute get slots at and after the end
late : assigned (with_waiting (planned 2 719) (with_waiting (planned 1 719) empty)) ≡ placed 1 40 ∷ placed 2 41 ∷ []
late = refl

odd_rates : (slots_before_end (record { start = 600; end = 720; rate = 28; parts = [] }) ≡ 56) × (slot_time (record { start = 600; end = 720; rate = 7; parts = [] }) 4 ≡ 634) × (first_slot (record { start = 600; end = 720; rate = 7; parts = [] }) 608 ≡ 1) × (first_slot (record { start = 600; end = 720; rate = 7; parts = [] }) 609 ≡ 2) × (slot_time (record { start = 600; end = 720; rate = 240; parts = [] }) 3 ≡ 600)
odd_rates = (refl, refl, refl, refl, refl)

-- 20 an hour from 10:00, none from 10:30, 30 an hour from 11:00
abbrev with_a_closed_half_hour : Period
with_a_closed_half_hour =
    record {
      start = 600;
      end = 720;
      rate = 20;
      parts = record { from = 630; rate = 0 } ∷ record { from = 660; rate = 30 } ∷ [];
    }

times_by_subperiod : (slot_time with_a_closed_half_hour 9 ≡ 627) × (slot_time with_a_closed_half_hour 10 ≡ 660) × (slot_time with_a_closed_half_hour 39 ≡ 718) × (slot_time with_a_closed_half_hour 40 ≡ 720)
times_by_subperiod = (refl, refl, refl, refl)

first_by_subperiod : (first_slot with_a_closed_half_hour 628 ≡ 10) × (first_slot with_a_closed_half_hour 645 ≡ 10) × (first_slot with_a_closed_half_hour 627 ≡ 9) × (slots_before_end with_a_closed_half_hour ≡ 40)
first_by_subperiod = (refl, refl, refl, refl)
