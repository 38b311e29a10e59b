-- The cells of a row, and how often they were written.
use Rattle.std.specs.Prelude.{ℕ, List, ◌+◌, ◌-◌, ◌^◌, min, slice_set}
use Rattle.flow_slots.specs.declared.cell.Cell.{Cell}

pub record CellsView : Type 0 where
  pub row : List Cell
  pub writes : ℕ
  -- the minute from which entries are counted in memory
  pub start : ℕ

-- the count stays at its maximum
abbrev pub one_more : ℕ → ℕ
one_more writes = min (writes + 1) (2 ^ 64 - 1)

-- and of several
abbrev pub more_by : ℕ → ℕ → ℕ
more_by count writes = min (writes + count) (2 ^ 64 - 1)

abbrev pub written : CellsView → ℕ → Cell → CellsView
written c k cell = record { row = slice_set c.row k cell; writes = one_more c.writes; start = c.start }
