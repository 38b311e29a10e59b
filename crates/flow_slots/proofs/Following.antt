-- Waiting flights that go on in turn, each to the slot of the next.
use Rattle.std.proofs.Common.{◌≡◌, ℕ, zero, suc, ◌+◌, ◌-◌, ◌<◌, ◌≤◌, true, false, List, [], ◌∷◌, ◌++◌, length, get_or, take, drop, refl, sym, ap, ◌∙◌, subst, arith}
use Rattle.std.proofs.lemmas.Bool.{false≢true}
use Rattle.std.proofs.lemmas.List.{get_or-drop, drop-drop}
use Rattle.flow_slots.specs.declared.cell.Planned.{Planned}
use Rattle.flow_slots.specs.declared.cell.Cell.{Cell}
use Rattle.flow_slots.specs.declared.cell.Cell.TheVariants.{Empty, Waiting, Fixed}
use Rattle.flow_slots.specs.Order.{stands_before}
use Rattle.flow_slots.specs.Row.{NoneBefore, IsSettledRow, waiting_of}
use Rattle.flow_slots.specs.Walk.{displace, has_empty, passes, Follows, AllFollow, ComesIn}
use Rattle.flow_slots.proofs.Steps.{drop_at, has_empty-within, has_empty-waiting, has_empty-fixed, displace-earlier, displace-fixed}

pub Follows-fixed : (row : List Cell) (k f : ℕ) (x : Planned) → k < length row → Fixed f ≡ get_or row k Empty → Follows x (drop k row) → Follows x (drop (k + 1) row)
Follows-fixed row k f x h e a = rw (drop_at row k (Fixed f) h e) at a

pub Follows-waiting : (row : List Cell) (k : ℕ) (w x : Planned) → k < length row → Waiting w ≡ get_or row k Empty → Follows x (drop k row) → (stands_before w x ≡ false) × Follows w (drop (k + 1) row)
Follows-waiting row k w x h e a = rw (drop_at row k (Waiting w) h e) at a

-- in a settled row each provisional flight may go on
Follows-settled : (first : ℕ → ℕ) (k : ℕ) (w : Planned) (cs : List Cell) → NoneBefore w (waiting_of cs) → IsSettledRow first k cs → Follows w cs
Follows-settled first k w [] a s = tt
Follows-settled first k w (Empty ∷ cs) a s = tt
Follows-settled first k w (Fixed f ∷ cs) a s = Follows-settled first (k + 1) w cs a s
Follows-settled first k w (Waiting v ∷ cs) a s = (a.0, Follows-settled first (k + 1) v cs s.1 s.2)

pub AllFollow-settled : (first : ℕ → ℕ) (k : ℕ) (cs : List Cell) → IsSettledRow first k cs → AllFollow cs
AllFollow-settled first k [] s = tt
AllFollow-settled first k (Empty ∷ cs) s = AllFollow-settled first (k + 1) cs s.1
AllFollow-settled first k (Fixed f ∷ cs) s = AllFollow-settled first (k + 1) cs s
AllFollow-settled first k (Waiting w ∷ cs) s = (Follows-settled first (k + 1) w cs s.1 s.2, AllFollow-settled first (k + 1) cs s.2)

AllFollow-at : (k : ℕ) (w : Planned) (cs : List Cell) → Waiting w ≡ get_or cs k Empty → AllFollow cs → Follows w (drop (suc k) cs)
AllFollow-at k w [] e a = cc
AllFollow-at zero w (Empty ∷ cs) e a = cc
AllFollow-at zero w (Fixed f ∷ cs) e a = cc
AllFollow-at zero w (Waiting v ∷ cs) e a = (let same : v ≡ w = cc in subst (λ u. Follows u cs) same a.0)
AllFollow-at (suc k) w (Empty ∷ cs) e a = AllFollow-at k w cs e a
AllFollow-at (suc k) w (Fixed f ∷ cs) e a = AllFollow-at k w cs e a
AllFollow-at (suc k) w (Waiting v ∷ cs) e a = AllFollow-at k w cs e a.1

pub AllFollow-next : (k : ℕ) (w : Planned) (row : List Cell) → Waiting w ≡ get_or row k Empty → AllFollow row → Follows w (drop (k + 1) row)
AllFollow-next k w row e a = subst (λ i. Follows w (drop i row)) (let q : suc k ≡ k + 1 = omega arith in q) (AllFollow-at k w row e a)

ComesIn-empty : (row : List Cell) (from k : ℕ) (x : Planned) → take k row ++ displace x (drop k row) ≡ take from row ++ displace x (drop from row) → has_empty (drop k row) ≡ true → k < length row → Empty ≡ get_or row k Empty → ComesIn row from x k
ComesIn-empty row from k x same room h e =
    record { same = same; follows = subst (Follows x) (sym (drop_at row k Empty h e)) tt; room = room }

-- so it is for the cells from `from` on
AllFollow-beyond : (from k : ℕ) (w : Planned) (row : List Cell) → from ≤ k → Waiting w ≡ get_or row k Empty → AllFollow (drop from row) → Follows w (drop (k + 1) row)
AllFollow-beyond from k w row l e a =
    let there : from + (k - from) ≡ k = omega arith in
    let here : get_or (drop from row) (k - from) Empty ≡ get_or row k Empty = get_or-drop from row (k - from) Empty ∙ ap (λ i. get_or row i Empty) there in
    let beyond : drop (k - from + 1) (drop from row) ≡ drop (k + 1) row = drop-drop (k - from + 1) from row ∙ ap (λ i. drop i row) (let q : from + (k - from + 1) ≡ k + 1 = omega arith in q) in
    subst (Follows w) beyond (AllFollow-next (k - from) w (drop from row) (e ∙ sym here) a)

pub AllFollow-drop : (from : ℕ) (row : List Cell) → AllFollow row → AllFollow (drop from row)
AllFollow-drop zero row a = a
AllFollow-drop (suc from) [] a = tt
AllFollow-drop (suc from) (Empty ∷ cs) a = AllFollow-drop from cs a
AllFollow-drop (suc from) (Fixed f ∷ cs) a = AllFollow-drop from cs a
AllFollow-drop (suc from) (Waiting w ∷ cs) a = AllFollow-drop from cs a.1

ComesIn-later : (row : List Cell) (from k : ℕ) (x w : Planned) → take k row ++ displace x (drop k row) ≡ take from row ++ displace x (drop from row) → has_empty (drop k row) ≡ true → k < length row → Waiting w ≡ get_or row k Empty → stands_before w x ≡ false → from ≤ k → AllFollow (drop from row) → ComesIn row from x k
ComesIn-later row from k x w same room h e b l a =
    record { same = same; follows = subst (Follows x) (sym (drop_at row k (Waiting w) h e)) (b, AllFollow-beyond from k w row l e a); room = room }

-- `x`, which comes to the cells from `from` on, comes to those from `k` on
pub record Passed (row : List Cell) (from : ℕ) (x : Planned) (k : ℕ) : Type 0 where
  pub same : take k row ++ displace x (drop k row) ≡ take from row ++ displace x (drop from row)
  pub room : has_empty (drop k row) ≡ true
  pub reached : from ≤ k

-- a cell is passed by
pub passed-one : (row : List Cell) (from k : ℕ) (x : Planned) → Passed row from x k → passes x (get_or row k Empty) ≡ true → Passed row from x (k + 1)
passed-one row from k x p h = by (get_or row k Empty) refl h where
  l : k < length row
  l = has_empty-within row k p.room

  by : (c : Cell) → c ≡ get_or row k Empty → passes x c ≡ true → Passed row from x (k + 1)
  by Empty e h = absurd (false≢true h)
  by (Fixed f) e h = record { same = sym (displace-fixed row k f x l e) ∙ p.same; room = sym (has_empty-fixed row k f l e) ∙ p.room; reached = omega (arith, p.reached) }
  by (Waiting w) e h = record { same = sym (displace-earlier row k w x l e h) ∙ p.same; room = sym (has_empty-waiting row k w l e) ∙ p.room; reached = omega (arith, p.reached) }

passed-count : (row : List Cell) (from k n next : ℕ) (x : Planned) → next ≡ k + n → ((i : ℕ) → k ≤ i → i < next → passes x (get_or row i Empty) ≡ true) → Passed row from x k → Passed row from x next
passed-count row from k zero next x e h p = subst (Passed row from x) (let q : k ≡ next = omega arith in q) p
passed-count row from k (suc n) next x e h p =
    let before = passed-count row from k n (k + n) x refl (λ i l m. h i l (omega arith)) p in
    subst (Passed row from x) (let q : k + n + 1 ≡ next = omega arith in q) (passed-one row from (k + n) x before (h (k + n) (omega arith) (omega arith)))

-- so are several
pub passed-earlier : (row : List Cell) (from k next : ℕ) (x : Planned) → k ≤ next → ((i : ℕ) → k ≤ i → i < next → passes x (get_or row i Empty) ≡ true) → Passed row from x k → Passed row from x next
passed-earlier row from k next x l h p = passed-count row from k (next - k) next x (omega arith) h p

-- it comes to a cell that isn't
pub comes-in : (row : List Cell) (from k : ℕ) (x : Planned) → Passed row from x k → passes x (get_or row k Empty) ≡ false → AllFollow (drop from row) → ComesIn row from x k
comes-in row from k x p b a = by (get_or row k Empty) refl b where
  l : k < length row
  l = has_empty-within row k p.room

  by : (c : Cell) → c ≡ get_or row k Empty → passes x c ≡ false → ComesIn row from x k
  by Empty e b = ComesIn-empty row from k x p.same p.room l e
  by (Waiting w) e b = ComesIn-later row from k x w p.same p.room l e b p.reached a
  by (Fixed f) e b = absurd (false≢true (sym b))
