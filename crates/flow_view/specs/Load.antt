-- Demand and slots by steps of time.
use Rattle.std.specs.Prelude.{ℕ, zero, suc, ◌+◌, ◌-◌, ◌*◌, ◌/◌, Bool, false, ◌&&◌, nat_le, nat_lt, List, [], ◌∷◌, ◌++◌, count_by, min}
use Rattle.std.specs.Option.{option_map_or}
use Rattle.flow_slots.specs.Period.{Period, first_slot}
use Rattle.flow_view.specs.declared.slot_row.SlotRow.{SlotRow}
use Rattle.flow_view.specs.declared.load.Load.{Load}
use Rattle.flow_view.specs.Totals.{entry_of}

-- a time is from one to before another
abbrev pub is_from_to : ℕ → ℕ → ℕ → Bool
is_from_to from to moment = nat_le from moment && nat_lt moment to

-- the flights that hold a slot from one time to before another
abbrev pub held_in : ℕ → ℕ → List SlotRow → ℕ
held_in from to rows = count_by (λ r. is_from_to from to r.time) rows

-- from one time to before another: the flights that are planned to enter then, the slots that the
-- rates give, and the flights that hold a slot then
abbrev pub load_in : Period → List SlotRow → ℕ → ℕ → Load
load_in p rows from to =
    record {
      from = from;
      to = to;
      demand = count_by (λ r. option_map_or (is_from_to from to) (entry_of r) false) rows;
      slots = first_slot p to - first_slot p from;
      held = held_in from to rows;
    }

-- the first steps of `step` minutes, of which the last one ends with the period
abbrev pub loads_before : ℕ → ℕ → Period → List SlotRow → List Load
loads_before zero step p rows = []
loads_before (suc i) step p rows = loads_before i step p rows ++ load_in p rows (p.start + step * i) (min (p.start + step * i + step) p.end) ∷ []

-- those of the whole period
abbrev pub loads : ℕ → Period → List SlotRow → List Load
loads step p rows = loads_before ((p.end - p.start + step - 1) / step) step p rows

-- the flights whose slots are after the period
abbrev pub held_later : Period → List SlotRow → ℕ
held_later p rows = count_by (λ r. nat_le p.end r.time) rows
