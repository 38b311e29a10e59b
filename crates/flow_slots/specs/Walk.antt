-- Walks along a row: a flight that displaces others, and a hole into which flights move up. Only
-- contracts of private functions cite them.
use Rattle.std.specs.Prelude.{◌≡◌, ℕ, ◌+◌, Bool, true, false, cond, nat_le, List, [], ◌∷◌, ◌++◌, take, drop, Option, None, Some}
use Rattle.flow_slots.specs.declared.cell.Planned.{Planned}
use Rattle.flow_slots.specs.declared.cell.Cell.{Cell}
use Rattle.flow_slots.specs.declared.cell.Cell.TheVariants.{Empty, Waiting, Fixed}
use Rattle.flow_slots.specs.Order.{stands_before}

-- `x` is inserted at the left end and takes the first cell that is empty or has a later flight,
-- which is inserted in the same way from there on
abbrev pub displace : Planned → List Cell → List Cell
displace x [] = []
displace x (Empty ∷ cs) = Waiting x ∷ cs
displace x (Waiting w ∷ cs) =
    cond (stands_before w x) (Waiting w ∷ displace x cs) (Waiting x ∷ displace w cs)
displace x (Fixed f ∷ cs) = Fixed f ∷ displace x cs

-- `x`, coming to a cell, passes it by: it is frozen, or has a provisional flight that precedes `x`
abbrev pub passes : Planned → Cell → Bool
passes x Empty = false
passes x (Waiting w) = stands_before w x
passes x (Fixed f) = true

-- a cell has a provisional flight
abbrev pub waits : Cell → Bool
waits Empty = false
waits (Waiting w) = true
waits (Fixed f) = false

-- some cell is empty
abbrev pub has_empty : List Cell → Bool
has_empty [] = false
has_empty (Empty ∷ cs) = true
has_empty (Waiting w ∷ cs) = has_empty cs
has_empty (Fixed f ∷ cs) = has_empty cs

-- the flight that moves into an empty slot `hole`: that of the next cell that isn't frozen, if its
-- first slot isn't later
abbrev pub next_up : (ℕ → ℕ) → ℕ → List Cell → Option Planned
next_up first hole [] = None
next_up first hole (Empty ∷ cs) = None
next_up first hole (Waiting w ∷ cs) = cond (nat_le (first w.entry) hole) (Some w) None
next_up first hole (Fixed f ∷ cs) = next_up first hole cs

abbrev pub moved_up : Option Planned → List Cell → List Cell → List Cell
moved_up None shifted cs = Empty ∷ cs
moved_up (Some w) shifted cs = Waiting w ∷ shifted

-- the cells from slot `k` on after the next provisional flight has moved away
abbrev pub shift : (ℕ → ℕ) → ℕ → List Cell → List Cell
shift first k [] = []
shift first k (Empty ∷ cs) = Empty ∷ cs
shift first k (Waiting w ∷ cs) = moved_up (next_up first k cs) (shift first (k + 1) cs) cs
shift first k (Fixed f ∷ cs) = Fixed f ∷ shift first (k + 1) cs

-- an empty slot `hole` and the cells after it, after flights have moved up
abbrev pub close : (ℕ → ℕ) → ℕ → List Cell → List Cell
close first hole cs = moved_up (next_up first hole cs) (shift first (hole + 1) cs) cs

-- the cells from a slot on, after a flight is frozen in it and a provisional flight makes way
abbrev pub push : ℕ → List Cell → List Cell
push flight [] = []
push flight (Empty ∷ cs) = Fixed flight ∷ cs
push flight (Waiting w ∷ cs) = Fixed flight ∷ displace w cs
push flight (Fixed f ∷ cs) = Fixed flight ∷ cs

-- up to the next empty cell no provisional flight precedes the one that comes to its cell, if `x`
-- comes to the first of them and each moves on to the next
abbrev pub Follows : Planned → List Cell → Type 0
Follows x [] = Unit {0}
Follows x (Empty ∷ cs) = Unit {0}
Follows x (Waiting w ∷ cs) = (stands_before w x ≡ false) × Follows w cs
Follows x (Fixed f ∷ cs) = Follows x cs

-- so it is for each provisional flight of the cells
abbrev pub AllFollow : List Cell → Type 0
AllFollow [] = Unit {0}
AllFollow (Empty ∷ cs) = AllFollow cs
AllFollow (Waiting w ∷ cs) = Follows w cs × AllFollow cs
AllFollow (Fixed f ∷ cs) = AllFollow cs

-- `x`, which comes to the cells from `from` on, comes to those from `k` on, and no flight up to the
-- next empty cell precedes the one that comes to its cell
pub record ComesIn (row : List Cell) (from : ℕ) (x : Planned) (k : ℕ) : Type 0 where
  pub same : take k row ++ displace x (drop k row) ≡ take from row ++ displace x (drop from row)
  pub follows : Follows x (drop k row)
  pub room : has_empty (drop k row) ≡ true
