-- The cells that were made, beside the row that they represent: entries are counted from a start
-- there, and empty cells follow.
use Rattle.std.proofs.Common.{◌≡◌, ℕ, zero, suc, ◌+◌, ◌-◌, ◌<◌, ◌≤◌, ◌++◌, ◌⊎◌, inl, inr, Bool, true, false, cond, List, [], ◌∷◌, map, length, take, drop, replicate, Option, refl, sym, ap, ◌∙◌, arith}
use Rattle.std.proofs.lemmas.Bool.{cases_lt, false≢true}
use Rattle.flow_slots.specs.declared.cell.Cell.{Cell}
use Rattle.flow_slots.specs.declared.cell.Cell.TheVariants.{Empty, Waiting, Fixed}
use Rattle.flow_slots.specs.declared.cell.Planned.{Planned}
use Rattle.flow_slots.specs.Changed.{gained_by, gained}
use Rattle.flow_slots.specs.MadeRow.{EndsEmpty, filled}
use Rattle.flow_slots.specs.Order.{stands_before}
use Rattle.flow_slots.specs.PackedCell.{from_start, flight_from}
use Rattle.flow_slots.specs.Row.{flight_of, cell_at, flight_at, IsTied}
use Rattle.flow_slots.specs.Walk.{displace, has_empty, Follows, AllFollow}
use Rattle.flow_slots.proofs.Filled.{cell_at-filled}
use Rattle.flow_slots.proofs.Gained.{gained-same}
use Rattle.flow_slots.proofs.Started.{started, cell_at-started, before-started}

-- these cells, their entries counted from the start, and empty ones
abbrev shown : ℕ → List Cell → ℕ → List Cell
shown start cells n = map (from_start start) (cells ++ replicate n Empty)

flight_of-lifted : (start : ℕ) (c : Cell) → flight_of (from_start start c) ≡ flight_of c
flight_of-lifted start Empty = refl
flight_of-lifted start (Waiting w) = refl
flight_of-lifted start (Fixed f) = refl

pub flight_at-lifted : (start : ℕ) (cells : List Cell) (len k : ℕ) → flight_at (started start cells len) k ≡ flight_at cells k
flight_at-lifted start cells len k =
    ap flight_of (cell_at-started start (filled cells len) k) ∙ (flight_of-lifted start (cell_at (filled cells len) k) ∙ ap flight_of (cell_at-filled cells len k))

-- the same flights have the same slots
pub IsTied-made : (places : List (Option ℕ)) (start : ℕ) (cells : List Cell) (len : ℕ) → IsTied places (started start cells len) → IsTied places cells
IsTied-made places start cells len t = record {
  each = λ f k. ((λ e. sym (flight_at-lifted start cells len k) ∙ (t.each f k).0 e), (λ e. (t.each f k).1 (flight_at-lifted start cells len k ∙ e)));
  unused = t.unused;
}

pub IsTied-lifted : (places : List (Option ℕ)) (start : ℕ) (cells : List Cell) (len : ℕ) → IsTied places cells → IsTied places (started start cells len)
IsTied-lifted places start cells len t = record {
  each = λ f k. ((λ e. flight_at-lifted start cells len k ∙ (t.each f k).0 e), (λ e. (t.each f k).1 (sym (flight_at-lifted start cells len k) ∙ e)));
  unused = t.unused;
}

Follows-made : (start n : ℕ) (x : Planned) (cs : List Cell) → Follows (flight_from start x) (shown start cs n) → Follows x cs
Follows-made start n x [] h = tt
Follows-made start n x (Empty ∷ cs) h = tt
Follows-made start n x (Waiting w ∷ cs) h = (sym (before-started start x (Waiting w)) ∙ h.0, Follows-made start n w cs h.1)
Follows-made start n x (Fixed f ∷ cs) h = Follows-made start n x cs h

AllFollow-shown : (start n : ℕ) (cs : List Cell) → AllFollow (shown start cs n) → AllFollow cs
AllFollow-shown start n [] h = tt
AllFollow-shown start n (Empty ∷ cs) h = AllFollow-shown start n cs h
AllFollow-shown start n (Waiting w ∷ cs) h = (Follows-made start n w cs h.0, AllFollow-shown start n cs h.1)
AllFollow-shown start n (Fixed f ∷ cs) h = AllFollow-shown start n cs h

AllFollow-from : (start n from : ℕ) (cs : List Cell) → AllFollow (drop from (shown start cs n)) → AllFollow (drop from cs)
AllFollow-from start n zero cs h = AllFollow-shown start n cs h
AllFollow-from start n (suc from) [] h = tt
AllFollow-from start n (suc from) (c ∷ cs) h = AllFollow-from start n from cs h

pub AllFollow-made : (start : ℕ) (cells : List Cell) (len from : ℕ) → AllFollow (drop from (started start cells len)) → AllFollow (drop from cells)
AllFollow-made start cells len from h = AllFollow-from start (len - length cells) from cells h

-- a flight is inserted, where there is an empty cell
displace-shown : (start n : ℕ) (x : Planned) (cs : List Cell) → has_empty cs ≡ true → shown start (displace x cs) n ≡ displace (flight_from start x) (shown start cs n)
displace-shown start n x [] e = absurd (false≢true e)
displace-shown start n x (Empty ∷ cs) e = refl
displace-shown start n x (Fixed f ∷ cs) e = ap (λ v. Fixed f ∷ v) (displace-shown start n x cs e)
displace-shown start n x (Waiting w ∷ cs) e = by (stands_before w x) refl (displace-shown start n x cs e) (displace-shown start n w cs e) where
  by : (b : Bool) → stands_before w x ≡ b → shown start (displace x cs) n ≡ displace (flight_from start x) (shown start cs n) → shown start (displace w cs) n ≡ displace (flight_from start w) (shown start cs n) → shown start (cond (stands_before w x) (Waiting w ∷ displace x cs) (Waiting x ∷ displace w cs)) n ≡ cond (stands_before (flight_from start w) (flight_from start x)) (Waiting (flight_from start w) ∷ displace (flight_from start x) (shown start cs n)) (Waiting (flight_from start x) ∷ displace (flight_from start w) (shown start cs n))
  by true q later on =
      let there : stands_before (flight_from start w) (flight_from start x) ≡ true = before-started start x (Waiting w) ∙ q in
      rw (q, there) (ap (λ v. Waiting (flight_from start w) ∷ v) later)
  by false q later on =
      let there : stands_before (flight_from start w) (flight_from start x) ≡ false = before-started start x (Waiting w) ∙ q in
      rw (q, there) (ap (λ v. Waiting (flight_from start x) ∷ v) on)

displace-from : (start n from : ℕ) (x : Planned) (cs : List Cell) → has_empty (drop from cs) ≡ true → shown start (take from cs ++ displace x (drop from cs)) n ≡ take from (shown start cs n) ++ displace (flight_from start x) (drop from (shown start cs n))
displace-from start n zero x cs e = displace-shown start n x cs e
displace-from start n (suc from) x [] e = absurd (false≢true e)
displace-from start n (suc from) x (c ∷ cs) e = ap (λ v. from_start start c ∷ v) (displace-from start n from x cs e)

pub displaced-lifted : (start : ℕ) (cells new : List Cell) (len from : ℕ) (x y : Planned) → has_empty (drop from cells) ≡ true → flight_from start x ≡ y → length new ≡ length cells → new ≡ take from cells ++ displace x (drop from cells) → started start new len ≡ take from (started start cells len) ++ displace y (drop from (started start cells len))
displaced-lifted start cells new len from x y room is same e =
    ap (λ v. map (from_start start) (v ++ replicate (len - length new) Empty)) e
    ∙ (ap (λ m. shown start (take from cells ++ displace x (drop from cells)) (len - m)) same
    ∙ (displace-from start (len - length cells) from x cells room
    ∙ ap (λ v. take from (started start cells len) ++ displace v (drop from (started start cells len))) is))

-- the number of cells that gained a flight is the same
gained-shown : (start n : ℕ) (cs bs : List Cell) → length cs ≡ length bs → gained (shown start cs n) (shown start bs n) ≡ gained cs bs
gained-shown start n [] [] e = gained-same (shown start [] n)
gained-shown start n [] (b ∷ bs) e = absurd (omega arith)
gained-shown start n (a ∷ cs) [] e = absurd (omega arith)
gained-shown start n (a ∷ cs) (b ∷ bs) e =
    ap (λ v. cond (gained_by v (flight_of (from_start start b))) 1 0 + gained (shown start cs n) (shown start bs n)) (flight_of-lifted start a)
    ∙ (ap (λ v. cond (gained_by (flight_of a) v) 1 0 + gained (shown start cs n) (shown start bs n)) (flight_of-lifted start b)
    ∙ ap (λ v. cond (gained_by (flight_of a) (flight_of b)) 1 0 + v) (gained-shown start n cs bs (omega (arith, e))))

pub gained-lifted : (start : ℕ) (cells new : List Cell) (len : ℕ) → length new ≡ length cells → gained (started start cells len) (started start new len) ≡ gained cells new
gained-lifted start cells new len same =
    ap (λ m. gained (started start cells len) (shown start new (len - m))) same ∙ gained-shown start (len - length cells) cells new (sym same)

-- some cell from `from` on was made and is empty
has_empty-at : (from k : ℕ) (cs : List Cell) → from ≤ k → k < length cs → cell_at cs k ≡ Empty → has_empty (drop from cs) ≡ true
has_empty-at from k [] l m e = absurd (omega arith)
has_empty-at zero k (Empty ∷ cs) l m e = refl
has_empty-at zero zero (Waiting w ∷ cs) l m e = cc
has_empty-at zero zero (Fixed f ∷ cs) l m e = cc
has_empty-at zero (suc k) (Waiting w ∷ cs) l m e = has_empty-at zero k cs (omega arith) (omega arith) e
has_empty-at zero (suc k) (Fixed f ∷ cs) l m e = has_empty-at zero k cs (omega arith) (omega arith) e
has_empty-at (suc from) zero (c ∷ cs) l m e = absurd (omega arith)
has_empty-at (suc from) (suc k) (c ∷ cs) l m e = has_empty-at from k cs (omega arith) (omega arith) e

has_empty-shown : (start : ℕ) (cs : List Cell) → has_empty (shown start cs 0) ≡ has_empty cs
has_empty-shown start [] = refl
has_empty-shown start (Empty ∷ cs) = refl
has_empty-shown start (Waiting w ∷ cs) = has_empty-shown start cs
has_empty-shown start (Fixed f ∷ cs) = has_empty-shown start cs

has_empty-from : (start from : ℕ) (cs : List Cell) → has_empty (drop from (shown start cs 0)) ≡ has_empty (drop from cs)
has_empty-from start zero cs = has_empty-shown start cs
has_empty-from start (suc from) [] = refl
has_empty-from start (suc from) (c ∷ cs) = has_empty-from start from cs

pub has_empty-made : (start : ℕ) (cells : List Cell) (len from : ℕ) → EndsEmpty cells len from → has_empty (drop from (started start cells len)) ≡ true → has_empty (drop from cells) ≡ true
has_empty-made start cells len from ends e = cases (cases_lt (length cells) len) where
  cases : (length cells < len) ⊎ (len ≤ length cells) → has_empty (drop from cells) ≡ true
  cases (inl l) =
      let last = ends.last l in
      has_empty-at from (length cells - 1) cells (omega (arith, last.0)) (omega (arith, last.0)) last.1
  cases (inr l) =
      let none : len - length cells ≡ 0 = omega (arith, l) in
      sym (has_empty-from start from cells) ∙ (ap (λ m. has_empty (drop from (shown start cells m))) (sym none) ∙ e)
