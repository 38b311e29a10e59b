-- A row of slots of which only the first cells exist; the others are empty.
use Rattle.std.specs.Prelude.{◌≡◌, ℕ, ◌-◌, ◌^◌, ◌<◌, ◌≤◌, List, ◌++◌, length, replicate}
use Rattle.flow_slots.specs.declared.cell.Cell.{Cell}
use Rattle.flow_slots.specs.declared.cell.Cell.TheVariants.{Empty}
use Rattle.flow_slots.specs.Row.{cell_at}

-- the row of this length that begins with these cells
abbrev pub filled : List Cell → ℕ → List Cell
filled cells len = cells ++ replicate (len - length cells) Empty

-- no more cells than slots, and capacity for a cell of each slot; the number of slots takes two
-- bytes, and a start with the minutes of an entry four
pub record HasRoom (cells : List Cell) (len capacity start : ℕ) : Type 0 where
  pub made : length cells ≤ len
  pub room : len ≤ capacity
  pub slots : len < 2 ^ 16
  pub early : start < 2 ^ 31

-- if not all cells of the row exist, the last one is empty and not before slot `k`
pub record EndsEmpty (cells : List Cell) (len k : ℕ) : Type 0 where
  pub most : length cells ≤ len
  pub last : length cells < len → (k < length cells) × (cell_at cells (length cells - 1) ≡ Empty)
