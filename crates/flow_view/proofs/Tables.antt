-- Lines of rows, one by one.
use Rattle.std.proofs.Common.{◌≡◌, ℕ, List, [], ◌∷◌, ◌++◌, map, refl, ap, sym, ◌∙◌, Option, None, Some}
use Rattle.std.specs.Prelude.{zip}
use Rattle.flow_view.specs.declared.slot_row.SlotRow.{SlotRow}
use Rattle.flow_view.specs.declared.table.Line.{Line}
use Rattle.flow_view.specs.Table.{line_of, lines}

-- the lines of rows after a held slot
abbrev pub lines_behind : Option ℕ → List SlotRow → List Line
lines_behind before rows = map line_of (zip (before ∷ map (λ r. Some r.slot) rows) rows)

-- the slot of the last of them
abbrev pub last_slot : Option ℕ → List SlotRow → Option ℕ
last_slot before [] = before
last_slot before (r ∷ rs) = last_slot (Some r.slot) rs

pub one-more-line : (before : Option ℕ) (rows : List SlotRow) (r : SlotRow)
    → lines_behind before (rows ++ r ∷ []) ≡ lines_behind before rows ++ line_of (last_slot before rows, r) ∷ []
one-more-line before [] r = refl
one-more-line before (x ∷ xs) r = ap (λ ls. line_of (before, x) ∷ ls) (one-more-line (Some x.slot) xs r)

pub slot-of-last : (before : Option ℕ) (rows : List SlotRow) (r : SlotRow) → last_slot before (rows ++ r ∷ []) ≡ Some r.slot
slot-of-last before [] r = refl
slot-of-last before (x ∷ xs) r = slot-of-last (Some x.slot) xs r

-- and of one row more
pub line-added : (rows : List SlotRow) (r : SlotRow) (before : Option ℕ) (l : Line) (made more : List Line)
    → made ≡ lines rows → before ≡ last_slot None rows → l ≡ line_of (before, r) → more ≡ made ++ l ∷ [] → more ≡ lines (rows ++ r ∷ [])
line-added rows r before l made more so last is added =
    let here : l ≡ line_of (last_slot None rows, r) = is ∙ ap (λ (b : Option ℕ). line_of (b, r)) last in
    added
    ∙ (ap (λ (ls : List Line). ls ++ l ∷ []) so
    ∙ (ap (λ (x : Line). lines rows ++ x ∷ []) here
    ∙ sym (one-more-line None rows r)))
