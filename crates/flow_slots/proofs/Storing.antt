-- What a cell of four bytes has bits for: a flight of a row and its entry.
use Rattle.std.proofs.Common.{◌≡◌, ℕ, ◌<◌, ◌≤◌, arith}
use Rattle.flow_slots.specs.declared.cell.Cell.TheVariants.{Waiting}
use Rattle.flow_slots.specs.declared.cell.Planned.{Planned}
use Rattle.flow_slots.specs.PackedCell.{IsStored}
use Rattle.flow_slots.specs.Period.{Period, IsRegular, IsWithin}

pub stored-waiting : (start : ℕ) (p : Period) (capacity : ℕ) (x : Planned) → start ≡ p.start → IsRegular p → IsWithin p x.entry → x.flight ≤ capacity → capacity ≤ 20000 → IsStored start (Waiting x)
stored-waiting start p capacity x from regular within most flights =
    (omega (arith, from, within.0), omega (arith, from, within.1, within.0, regular.at_most_a_day), omega (arith, most, flights))

pub stored-fixed : (capacity f : ℕ) → 0 < f → f ≤ capacity → capacity ≤ 20000 → (0 < f) × (f < 32_768)
stored-fixed capacity f some most flights = (some, omega (arith, most, flights))
