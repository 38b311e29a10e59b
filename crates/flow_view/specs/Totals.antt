-- Sums and counts of the rows of a slot list.
use Rattle.std.specs.Prelude.{ℕ, ◌+◌, ◌-◌, ◌*◌, ◌/◌, ◌==◌, if◌then◌else◌, min, nat_lt, List, map, length, count_by, sum, max, fold, Option}
use Rattle.std.specs.Option.{option_map_or, option_and_then}
use Rattle.flow_view.specs.declared.slot_row.SlotRow.{SlotRow}
use Rattle.flow_view.specs.declared.totals.Totals.{Totals}

-- the planned entry of its flight
abbrev pub entry_of : SlotRow → Option ℕ
entry_of r = option_and_then (λ f. f.entry) r.flight

-- the minutes from the planned entry to the slot
abbrev pub delay_of : SlotRow → ℕ
delay_of r = option_map_or (λ e. r.time - e) (entry_of r) 0

abbrev pub greatest_of : List SlotRow → ℕ
greatest_of rows = fold (λ most r. max most (delay_of r)) 0 rows

abbrev pub totals_of : List SlotRow → Totals
totals_of rows =
    record {
      flights = length rows;
      frozen = count_by (λ r. r.frozen) rows;
      delayed = count_by (λ r. nat_lt 0 (delay_of r)) rows;
      total = sum (map delay_of rows);
      greatest = greatest_of rows;
    }

-- as far as a number of 64 bits counts
abbrev pub counted : ℕ → ℕ
counted n = min n 18_446_744_073_709_551_615

-- the mean delay of these flights, in tenths of a minute, rounded; 0 for no flights
abbrev pub mean_tenths : ℕ → ℕ → ℕ
mean_tenths total flights = if flights == 0 then 0 else counted (counted (total * 10) + flights / 2) / flights
