-- Steps of a period.
use Rattle.std.proofs.Common.{◌≡◌, ◌≤◌, ◌<◌, ◌+◌, ◌-◌, ◌*◌, ◌/◌, ◌++◌, ◌∷◌, [], sym, ap, ℕ, List, arith}
use Rattle.std.specs.Prelude.{min}
use Rattle.std.proofs.Math.Nat.{le-div_iff_mul-le}
use Rattle.std.proofs.Math.Numerals.{add-one}
use Rattle.flow_slots.specs.Period.{Period}
use Rattle.flow_view.specs.declared.slot_row.SlotRow.{SlotRow}
use Rattle.flow_view.specs.Load.{load_in, loads_before}

-- each step begins in the period
pub begins-within : (minutes step i : ℕ) → 0 < step → i < (minutes + step - 1) / step → step * i < minutes
begins-within minutes step i some before =
    let more : i + 1 ≤ (minutes + step - 1) / step = omega (arith, before) in
    let most : (i + 1) * step ≤ minutes + step - 1 = (le-div_iff_mul-le {x = i + 1} {y = minutes + step - 1} some).0 more in
    omega (arith, most, some)

pub next-load : (i step : ℕ) (p : Period) (rows : List SlotRow)
    → loads_before i step p rows ++ load_in p rows (p.start + step * i) (min (p.start + step * i + step) p.end) ∷ [] ≡ loads_before (i + 1) step p rows
next-load i step p rows = ap (λ n. loads_before n step p rows) (sym (add-one i))
