-- The delay of a flight: that of its most penalising regulation, which gives the greatest delay; of
-- equal ones that which was opened first (EUROCONTROL ATFCM Users Manual, slot allocation). Each
-- flight counts once, however many regulations it is in.
use Rattle.std.specs.Prelude.{ℕ, zero, suc, ◌+◌, ◌-◌, ◌*◌, ◌==◌, ◌&&◌, nat_lt, nat_le, if◌then◌else◌, List, [], ◌++◌, map, length, count_by, sum, max, fold, Option, None, Some}
use Rattle.std.specs.Option.{option_to_list}
use Rattle.flow_view.specs.declared.delay.FlightDelay.{FlightDelay}
use Rattle.flow_view.specs.declared.delay.Spread.{Spread}
use Rattle.flow_view.specs.declared.delay.DelayTotals.{DelayTotals}
use Rattle.flow_view.specs.declared.slot_row.SlotRow.{SlotRow}
use Rattle.flow_view.specs.Openings.{OpeningView}
use Rattle.flow_view.specs.Totals.{delay_of}

-- the delay that the slot of a row gives, in this regulation
abbrev pub row_delay : OpeningView → SlotRow → FlightDelay
row_delay o r = record { plan = r.plan; minutes = delay_of r; opened_by = o.opened_by; regulation = o.id }

-- the greater delay, the first of equal ones
abbrev pub worse_flight : Option FlightDelay → FlightDelay → Option FlightDelay
worse_flight None later = Some later
worse_flight (Some d) later = if nat_lt d.minutes later.minutes then Some later else Some d

-- the greatest so far of the flight of this plan, and a further row
abbrev pub worse_by : ℕ → OpeningView → Option FlightDelay → SlotRow → Option FlightDelay
worse_by plan o most r = if r.plan == plan then worse_flight most (row_delay o r) else most

-- and all rows of a further regulation
abbrev pub worse_in : ℕ → Option FlightDelay → OpeningView → Option FlightDelay
worse_in plan most o = fold (worse_by plan o) most o.rows

-- the delay of the flight of a plan: the greatest in all these regulations, and none if it has no
-- slot in them
abbrev pub delay_of_flight : List OpeningView → ℕ → Option FlightDelay
delay_of_flight os plan = fold (worse_in plan) None os

-- those of the first plans, by number
abbrev pub delays : ℕ → List OpeningView → List FlightDelay
delays zero os = []
delays (suc n) os = delays n os ++ option_to_list (delay_of_flight os (n + 1))

-- ---- sums and counts, each flight once

-- how many flights have a delay of `least` to `most` minutes
abbrev pub flights_from_to : ℕ → ℕ → List FlightDelay → ℕ
flights_from_to least most ds = count_by (λ d. nat_le least d.minutes && nat_le d.minutes most) ds

-- and of more than `minutes`
abbrev pub flights_over : ℕ → List FlightDelay → ℕ
flights_over minutes ds = count_by (λ d. nat_lt minutes d.minutes) ds

abbrev pub spread_of : List FlightDelay → Spread
spread_of ds =
    record {
      none = flights_from_to 0 0 ds;
      to_5 = flights_from_to 1 5 ds;
      to_15 = flights_from_to 6 15 ds;
      to_30 = flights_from_to 16 30 ds;
      to_60 = flights_from_to 31 60 ds;
      over_60 = flights_over 60 ds;
    }

abbrev pub delay_in_all : List FlightDelay → ℕ
delay_in_all ds = sum (map (λ d. d.minutes) ds)

abbrev pub greatest_delay : List FlightDelay → ℕ
greatest_delay ds = fold (λ most d. max most d.minutes) 0 ds

abbrev pub delay_totals : List FlightDelay → DelayTotals
delay_totals ds =
    record {
      flights = length ds;
      delayed = flights_over 0 ds;
      over_15 = flights_over 15 ds;
      total = delay_in_all ds;
      greatest = greatest_delay ds;
      spread = spread_of ds;
    }

-- the rank of a flight among the most delayed, as one number: the greater delay comes first, of
-- equal ones that of the first plan
abbrev pub rank_of : FlightDelay → ℕ
rank_of d = 4_294_967_296 * (4_294_967_295 - d.minutes) + d.plan
