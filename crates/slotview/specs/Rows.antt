-- How the rows of a table are counted.
use Rattle.std.specs.Prelude.{ℕ, ◌+◌, min}

-- the sum of two numbers of rows, as far as a number of 64 bits counts
abbrev pub with_more : ℕ → ℕ → ℕ
with_more rows more = min (rows + more) 18_446_744_073_709_551_615
