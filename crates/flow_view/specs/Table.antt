-- The table of a slot list: a line for each of its rows, in order.
use Rattle.std.specs.Prelude.{ℕ, ◌-◌, false, if◌then◌else◌, List, ◌∷◌, map, zip, Option, None, Some}
use Rattle.std.specs.Option.{option_map, option_map_or, option_and_then}
use Rattle.flow_plans.specs.Plans.{is_departed}
use Rattle.flow_view.specs.declared.slot_row.SlotRow.{SlotRow}
use Rattle.flow_view.specs.declared.table.Line.{Line}
use Rattle.flow_view.specs.declared.table.Holding.{Holding}
use Rattle.flow_view.specs.declared.table.Holding.TheVariants.{Waiting, Frozen, Departed}
use Rattle.flow_regulations.specs.declared.notice.Told.{Told}
use Rattle.flow_view.specs.Totals.{delay_of}

-- how the flight of a row holds its slot
abbrev pub holding_of : SlotRow → Holding
holding_of r = if option_map_or (λ f. is_departed f.state) r.flight false then Departed else if r.frozen then Frozen else Waiting

-- the CTOT last issued to it
abbrev pub told_in : SlotRow → Option Told
told_in r = option_and_then (λ f. f.told) r.flight

-- the time alone
abbrev pub ctot_of : SlotRow → Option ℕ
ctot_of r = option_map (λ t. t.ctot) (told_in r)

-- and the regulation that causes it
abbrev pub cause_of : SlotRow → Option (List ℕ)
cause_of r = option_map (λ t. t.regulation) (told_in r)

-- how many empty slots are between a held slot and the held one before it, or before it if there is
-- none
abbrev pub empty_between : Option ℕ → ℕ → ℕ
empty_between before slot = option_map_or (λ b. slot - b - 1) before slot

-- the line of a row after the held slot before it
abbrev pub line_of : Option ℕ × SlotRow → Line
line_of (before, r) =
    record {
      row = r;
      empty = empty_between before r.slot;
      delay = delay_of r;
      holding = holding_of r;
      ctot = ctot_of r;
      cause = cause_of r;
    }

-- the lines of rows: that of each row with the slot of the row before it
abbrev pub lines : List SlotRow → List Line
lines rows = map line_of (zip (None ∷ map (λ r. Some r.slot) rows) rows)
