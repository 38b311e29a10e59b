-- Rows in which no flight has a frozen slot.
use Rattle.std.proofs.Common.{◌≡◌, ℕ, zero, suc, ◌+◌, ◌-◌, ◌++◌, ◌↔◌, [], ◌∷◌, List, map, length, replicate, refl, sym, ap, ◌∙◌, arith}
use Rattle.std.specs.List.{All}
use Rattle.flow_slots.specs.declared.cell.Cell.{Cell}
use Rattle.flow_slots.specs.declared.cell.Cell.TheVariants.{Empty, Waiting, Fixed}
use Rattle.flow_slots.specs.PackedCell.{from_start}
use Rattle.flow_slots.specs.Row.{fixed_of, IsFixedCell}
use Rattle.flow_slots.proofs.Started.{started}

-- no flight keeps one of these
abbrev AreUnfixed : List Cell → Type 0
AreUnfixed cells = All (λ cell. IsFixedCell cell → ⊥) cells

unfixed-rest : (c : Cell) (cs : List Cell) → AreUnfixed (c ∷ cs) → AreUnfixed cs
unfixed-rest c cs h k d l = h (suc k) d (omega (arith, l))

unfixed-none : (o : ℕ) (cs : List Cell) → AreUnfixed cs → fixed_of o cs ≡ []
unfixed-none o [] h = refl
unfixed-none o (Empty ∷ cs) h = unfixed-none (o + 1) cs (unfixed-rest Empty cs h)
unfixed-none o (Waiting w ∷ cs) h = unfixed-none (o + 1) cs (unfixed-rest (Waiting w) cs h)
unfixed-none o (Fixed f ∷ cs) h = absurd (h zero Empty (omega arith) tt)

none-unfixed : (o : ℕ) (cs : List Cell) → fixed_of o cs ≡ [] → AreUnfixed cs
none-unfixed o [] e k d l = absurd (omega (arith, l))
none-unfixed o (Empty ∷ cs) e zero d l = λ h. h
none-unfixed o (Waiting w ∷ cs) e zero d l = λ h. h
none-unfixed o (Fixed f ∷ cs) e k d l = absurd (cc)
none-unfixed o (Empty ∷ cs) e (suc k) d l = none-unfixed (o + 1) cs e k d (omega (arith, l))
none-unfixed o (Waiting w ∷ cs) e (suc k) d l = none-unfixed (o + 1) cs e k d (omega (arith, l))

empty-fixed : (start o n : ℕ) → fixed_of o (map (from_start start) (replicate n Empty)) ≡ []
empty-fixed start o zero = refl
empty-fixed start o (suc n) = empty-fixed start (o + 1) n

filled-fixed : (start o n : ℕ) (cs : List Cell) → fixed_of o (map (from_start start) (cs ++ replicate n Empty)) ≡ fixed_of o cs
filled-fixed start o n [] = empty-fixed start o n
filled-fixed start o n (Empty ∷ cs) = filled-fixed start (o + 1) n cs
filled-fixed start o n (Waiting w ∷ cs) = filled-fixed start (o + 1) n cs
filled-fixed start o n (Fixed f ∷ cs) = ap (λ v. record { flight = f; slot = o } ∷ v) (filled-fixed start (o + 1) n cs)

-- so is the row that such cells represent
pub started-unfixed : (start len : ℕ) (cells : List Cell) → AreUnfixed cells ↔ (fixed_of 0 (started start cells len) ≡ [])
started-unfixed start len cells =
    let same = filled-fixed start 0 (len - length cells) cells in
    ((λ h. same ∙ unfixed-none 0 cells h), (λ e. none-unfixed 0 cells (sym same ∙ e)))
