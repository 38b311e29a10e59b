-- Rows of which only the first cells were made.
use Rattle.std.proofs.Common.{◌≡◌, ℕ, ◌+◌, ◌-◌, ◌<◌, ◌≤◌, ◌++◌, ◌⊎◌, inl, inr, [], ◌∷◌, List, length, set, replicate, refl, sym, ap, ◌∙◌, arith}
use Rattle.std.proofs.Math.Seq.{set-append_seam}
use Rattle.std.proofs.lemmas.Bool.{cases_lt}
use Rattle.std.proofs.lemmas.List.{length-set, length-append, length-replicate, get_or_past, get_or_append_left, get_or-append_right, get_or-replicate, set-append_left, append_assoc, append-nil, replicate-append-replicate}
use Rattle.flow_slots.specs.declared.cell.Cell.{Cell}
use Rattle.flow_slots.specs.declared.cell.Cell.TheVariants.{Empty}
use Rattle.flow_slots.specs.Row.{cell_at}
use Rattle.flow_slots.specs.MadeRow.{filled}

pub length-filled : (cells : List Cell) (len : ℕ) → length cells ≤ len → length (filled cells len) ≡ len
length-filled cells len h = omega (arith, length-append cells (replicate (len - length cells) Empty), length-replicate (len - length cells) Empty)

-- more empty cells are made
pub filled-more : (cells : List Cell) (len n : ℕ) → length cells + n ≤ len → filled (cells ++ replicate n Empty) len ≡ filled cells len
filled-more cells len n h =
    let made : length (cells ++ replicate n Empty) ≡ length cells + n = omega (arith, length-append cells (replicate n Empty), length-replicate n Empty) in
    let left : n + (len - length (cells ++ replicate n Empty)) ≡ len - length cells = omega (arith, made) in
    append_assoc cells (replicate n Empty) _ ∙ ap (λ v. cells ++ v) (replicate-append-replicate n (len - length (cells ++ replicate n Empty)) Empty ∙ ap (λ m. replicate m Empty) left)

-- the cells that were made, and the others
pub cell_at-made : (cells : List Cell) (len k : ℕ) → k < length cells → cell_at (filled cells len) k ≡ cell_at cells k
cell_at-made cells len k h = get_or_append_left cells _ Empty k h

pub cell_at-others : (cells : List Cell) (len k : ℕ) → length cells ≤ k → cell_at (filled cells len) k ≡ Empty
cell_at-others cells len k h =
    get_or-append_right cells (replicate (len - length cells) Empty) (length cells) k Empty refl h ∙ past (cases_lt (k - length cells) (len - length cells)) where
      past : (k - length cells < len - length cells) ⊎ (len - length cells ≤ k - length cells) → cell_at (replicate (len - length cells) Empty) (k - length cells) ≡ Empty
      past (inl l) = get_or-replicate (len - length cells) (k - length cells) Empty Empty l
      past (inr l) = get_or_past (replicate (len - length cells) Empty) (k - length cells) Empty (omega (arith, l, length-replicate (len - length cells) Empty))

pub cell_at-filled : (cells : List Cell) (len k : ℕ) → cell_at (filled cells len) k ≡ cell_at cells k
cell_at-filled cells len k = cases (cases_lt k (length cells)) where
  cases : (k < length cells) ⊎ (length cells ≤ k) → cell_at (filled cells len) k ≡ cell_at cells k
  cases (inl l) = cell_at-made cells len k l
  cases (inr l) = cell_at-others cells len k l ∙ sym (get_or_past cells k Empty l)

pub filled-set : (cells : List Cell) (len k : ℕ) (c : Cell) → k < length cells → filled (set cells k c) len ≡ set (filled cells len) k c
filled-set cells len k c h =
    ap (λ n. set cells k c ++ replicate (len - n) Empty) (length-set cells k c) ∙ sym (set-append_left cells (replicate (len - length cells) Empty) k c h)

-- a row all of whose cells were made
pub filled-all : (cells : List Cell) (len : ℕ) → len ≤ length cells → filled cells len ≡ cells
filled-all cells len h =
    let none : len - length cells ≡ 0 = omega arith in
    ap (λ n. cells ++ replicate n Empty) none ∙ append-nil cells

-- a cell is written, as one of those that were made or as the next one
pub filled-written : (cells : List Cell) (k : ℕ) (c : Cell) → k < length cells → set cells k c ≡ set (cells ++ replicate (k + 1 - length cells) Empty) k c
filled-written cells k c h =
    let none : k + 1 - length cells ≡ 0 = omega arith in
    sym (ap (λ n. set (cells ++ replicate n Empty) k c) none ∙ ap (λ v. set v k c) (append-nil cells))

pub filled-appended : (cells : List Cell) (k : ℕ) (c : Cell) → length cells ≤ k → (cells ++ replicate (k - length cells) Empty) ++ c ∷ [] ≡ set (cells ++ replicate (k + 1 - length cells) Empty) k c
filled-appended cells k c h =
    let n = k - length cells in
    let more : k + 1 - length cells ≡ n + 1 = omega (arith, h) in
    let made : k ≡ length (cells ++ replicate n Empty) = omega (arith, h, length-append cells (replicate n Empty), length-replicate n Empty) in
    sym (ap (λ m. set (cells ++ replicate m Empty) k c) more
    ∙ (ap (λ v. set (cells ++ v) k c) (sym (replicate-append-replicate n 1 Empty))
    ∙ (ap (λ v. set v k c) (sym (append_assoc cells (replicate n Empty) (Empty ∷ [])))
    ∙ (ap (λ i. set ((cells ++ replicate n Empty) ++ Empty ∷ []) i c) made
    ∙ set-append_seam (cells ++ replicate n Empty) Empty [] c))))
