-- Rows in which entries are counted from a start.
use Rattle.std.proofs.Common.{◌≡◌, ℕ, zero, suc, ◌+◌, ◌-◌, ◌<◌, ◌≤◌, ◌++◌, true, false, [], ◌∷◌, List, map, length, set, replicate, refl, sym, ap, ◌∙◌, arith}
use Rattle.std.proofs.Math.ListN.{get_or-map}
use Rattle.std.proofs.lemmas.Bool.{false≢true}
use Rattle.std.proofs.lemmas.Bool.Decides.{nat_tests}
use Rattle.std.proofs.lemmas.List.{length-append, length-map, length-replicate, map-set}
use Rattle.flow_slots.specs.declared.cell.Cell.{Cell}
use Rattle.flow_slots.specs.declared.cell.Cell.TheVariants.{Empty, Waiting, Fixed}
use Rattle.flow_slots.specs.declared.cell.Planned.{Planned}
use Rattle.flow_slots.specs.declared.row.TheConstants.{NO_ENTRY}
use Rattle.flow_slots.specs.Cells.{CellsView}
use Rattle.flow_slots.specs.MadeRow.{filled}
use Rattle.flow_slots.specs.PackedCell.{entry_number, from_start, flight_from, planned_in}
use Rattle.flow_slots.specs.Row.{cell_at, IsFixedCell}
use Rattle.flow_slots.specs.Walk.{waits, passes}
use Rattle.flow_slots.proofs.Filled.{length-filled, filled-more, filled-set}

-- the row that cells with such entries represent
abbrev pub started : ℕ → List Cell → ℕ → List Cell
started start cells len = map (from_start start) (filled cells len)

pub started-empty : (start n : ℕ) → map (from_start start) (replicate n Empty) ≡ replicate n Empty
started-empty start zero = refl
started-empty start (suc n) = ap (λ v. Empty ∷ v) (started-empty start n)

pub cell_at-started : (start : ℕ) (row : List Cell) (k : ℕ) → cell_at (map (from_start start) row) k ≡ from_start start (cell_at row k)
cell_at-started start row k = get_or-map (from_start start) row k Empty

pub stands-started : (start : ℕ) (cells : List Cell) (k : ℕ) (c : Cell) → c ≡ cell_at cells k → from_start start c ≡ cell_at (map (from_start start) cells) k
stands-started start cells k c e = ap (from_start start) e ∙ sym (cell_at-started start cells k)

-- the order of two flights is that of their entries from any start
pub before-started : (start : ℕ) (x : Planned) (c : Cell) → passes (flight_from start x) (from_start start c) ≡ passes x c
before-started start x Empty = refl
before-started start x (Waiting w) = grind (arith, nat_tests)
before-started start x (Fixed f) = refl

pub length-started : (start : ℕ) (cells : List Cell) (len : ℕ) → length cells ≤ len → length (started start cells len) ≡ len
length-started start cells len h = length-map (filled cells len) (from_start start) ∙ length-filled cells len h

-- more empty cells are made
pub started-more : (start : ℕ) (cells : List Cell) (len n : ℕ) → length cells + n ≤ len → started start (cells ++ replicate n Empty) len ≡ started start cells len
started-more start cells len n h = ap (map (from_start start)) (filled-more cells len n h)

-- a cell that was made is written
pub started-set : (start : ℕ) (cells : List Cell) (len k : ℕ) (x c : Cell) → k < length cells → from_start start x ≡ c → started start (set cells k x) len ≡ set (started start cells len) k c
started-set start cells len k x c h is =
    ap (map (from_start start)) (filled-set cells len k x h) ∙ (map-set (from_start start) (filled cells len) k x ∙ ap (set (started start cells len) k) is)

pub started-written : (start : ℕ) (cells : List Cell) (len k : ℕ) (new : List Cell) (x c : Cell) → length cells ≤ len → k < len → new ≡ set (cells ++ replicate (k + 1 - length cells) Empty) k x → from_start start x ≡ c → started start new len ≡ set (started start cells len) k c
started-written start cells len k new x c made within is same =
    let n = k + 1 - length cells in
    let all = cells ++ replicate n Empty in
    let few : length cells + n ≤ len = omega (arith, made, within) in
    let there : k < length all = omega (arith, length-append cells (replicate n Empty), length-replicate n Empty) in
    ap (λ v. started start v len) is ∙ (started-set start all len k x c there same ∙ ap (λ v. set v k c) (started-more start cells len n few))

pub row-new : (start len : ℕ) (cells : List Cell) → cells ≡ [] → (let r : CellsView = record { row = started start cells len; writes = 0; start = start } in r) ≡ record { row = replicate len Empty; writes = 0; start = start }
row-new start len cells is =
    let left : len - 0 ≡ len = omega arith in
    ap (λ cs. let r : CellsView = record { row = started start cs len; writes = 0; start = start } in r) is
    ∙ ap (λ v. let r : CellsView = record { row = v; writes = 0; start = start } in r) (started-empty start (len - 0) ∙ ap (λ n. replicate n Empty) left)

-- a cell with a provisional flight has its entry and its number
pub waits-is : (c : Cell) → waits c ≡ true → Waiting (planned_in c) ≡ c
waits-is Empty e = absurd (false≢true e)
waits-is (Waiting w) e = refl
waits-is (Fixed f) e = absurd (false≢true e)

pub waits-started : (start : ℕ) (c : Cell) → waits c ≡ true → from_start start c ≡ Waiting (flight_from start (planned_in c))
waits-started start c e = sym (ap (from_start start) (waits-is c e))

-- a slot is frozen if it has a flight that isn't provisional
pub fixed-started : (start : ℕ) (c : Cell) → waits c ≡ false → (c ≡ Empty → ⊥) → IsFixedCell (from_start start c)
fixed-started start Empty w n = n refl
fixed-started start (Waiting v) w n = absurd (false≢true (sym w))
fixed-started start (Fixed f) w n = tt

-- a cell whose entry isn't the greatest one has a provisional flight
pub early-waits : (c : Cell) → entry_number c < NO_ENTRY → waits c ≡ true
early-waits Empty h = absurd (omega arith)
early-waits (Waiting w) h = refl
early-waits (Fixed f) h = absurd (omega arith)
