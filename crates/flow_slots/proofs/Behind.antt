-- The cells that were made, beside the row that they represent, where a flight leaves: empty cells
-- after them change nothing.
use Rattle.std.proofs.Common.{◌≡◌, ℕ, zero, suc, ◌+◌, ◌-◌, ◌<◌, ◌≤◌, ◌++◌, List, [], ◌∷◌, map, length, take, drop, replicate, Option, None, Some, refl, sym, ap, subst, ◌∙◌, add-one, arith}
use Rattle.std.proofs.lemmas.List.{length-map, map-append}
use Rattle.flow_slots.specs.declared.cell.Cell.{Cell}
use Rattle.flow_slots.specs.declared.cell.Cell.TheVariants.{Empty, Waiting, Fixed}
use Rattle.flow_slots.specs.declared.cell.Planned.{Planned}
use Rattle.flow_slots.specs.Changed.{gained}
use Rattle.flow_slots.specs.MadeRow.{filled}
use Rattle.flow_slots.specs.PackedCell.{from_start}
use Rattle.flow_slots.specs.Period.{Period}
use Rattle.flow_slots.specs.Row.{cell_at, flight_at, IsTied, EntriesWithin}
use Rattle.flow_slots.specs.Walk.{next_up, moved_up, shift, close}
use Rattle.flow_slots.proofs.Filled.{cell_at-filled, filled-all}
use Rattle.flow_slots.proofs.Lifted.{IsTied-made, IsTied-lifted, flight_at-lifted, gained-lifted}
use Rattle.flow_slots.proofs.Started.{started, started-empty, cell_at-started}

-- a row all of whose cells were made
all-made : (start : ℕ) (cells : List Cell) (len : ℕ) → len ≤ length cells → started start cells len ≡ map (from_start start) cells
all-made start cells len h = ap (map (from_start start)) (filled-all cells len h)

pub IsTied-row : (places : List (Option ℕ)) (start : ℕ) (cells : List Cell) → IsTied places cells → IsTied places (map (from_start start) cells)
IsTied-row places start cells t = subst (IsTied places) (all-made start cells (length cells) (omega arith)) (IsTied-lifted places start cells (length cells) t)

pub IsTied-cells : (places : List (Option ℕ)) (start : ℕ) (cells : List Cell) → IsTied places (map (from_start start) cells) → IsTied places cells
IsTied-cells places start cells t =
    IsTied-made places start cells (length cells) (subst (IsTied places) (sym (all-made start cells (length cells) (omega arith))) t)

pub flight_at-row : (start : ℕ) (cells : List Cell) (k : ℕ) → flight_at (map (from_start start) cells) k ≡ flight_at cells k
flight_at-row start cells k =
    ap (λ v. flight_at v k) (sym (all-made start cells (length cells) (omega arith))) ∙ flight_at-lifted start cells (length cells) k

pub gained-row : (start : ℕ) (cells new : List Cell) → length new ≡ length cells → gained (map (from_start start) cells) (map (from_start start) new) ≡ gained cells new
gained-row start cells new same =
    ap (λ v. gained v (map (from_start start) new)) (sym (all-made start cells (length cells) (omega arith)))
    ∙ (ap (gained (started start cells (length cells))) (sym (all-made start new (length cells) (omega (arith, same)))) ∙ gained-lifted start cells new (length cells) same)

pub EntriesWithin-made : (p : Period) (start : ℕ) (cells : List Cell) (len : ℕ) → EntriesWithin p (started start cells len) → EntriesWithin p (map (from_start start) cells)
EntriesWithin-made p start cells len a = λ k w e. a k w (same k ∙ e) where
  same : (k : ℕ) → cell_at (started start cells len) k ≡ cell_at (map (from_start start) cells) k
  same k = cell_at-started start (filled cells len) k ∙ (ap (from_start start) (cell_at-filled cells len k) ∙ sym (cell_at-started start cells k))

-- flights move up in the same way
next_up-behind : (first : ℕ → ℕ) (hole n : ℕ) (cs : List Cell) → next_up first hole (cs ++ replicate n Empty) ≡ next_up first hole cs
next_up-behind first hole zero [] = refl
next_up-behind first hole (suc n) [] = refl
next_up-behind first hole n (Empty ∷ cs) = refl
next_up-behind first hole n (Waiting w ∷ cs) = refl
next_up-behind first hole n (Fixed f ∷ cs) = next_up-behind first hole n cs

moved_up-behind : (o : Option Planned) (shifted cs es : List Cell) → moved_up o (shifted ++ es) (cs ++ es) ≡ moved_up o shifted cs ++ es
moved_up-behind None shifted cs es = refl
moved_up-behind (Some w) shifted cs es = refl

hole-behind : (first : ℕ → ℕ) (k n : ℕ) (cs : List Cell) → shift first (k + 1) (cs ++ replicate n Empty) ≡ shift first (k + 1) cs ++ replicate n Empty → close first k (cs ++ replicate n Empty) ≡ close first k cs ++ replicate n Empty
hole-behind first k n cs e =
    let es = replicate n Empty in
    ap (λ o. moved_up o (shift first (k + 1) (cs ++ es)) (cs ++ es)) (next_up-behind first k n cs)
    ∙ (ap (λ v. moved_up (next_up first k cs) v (cs ++ es)) e ∙ moved_up-behind (next_up first k cs) (shift first (k + 1) cs) cs es)

shift-behind : (first : ℕ → ℕ) (k n : ℕ) (cs : List Cell) → shift first k (cs ++ replicate n Empty) ≡ shift first k cs ++ replicate n Empty
shift-behind first k zero [] = refl
shift-behind first k (suc n) [] = refl
shift-behind first k n (Empty ∷ cs) = refl
shift-behind first k n (Fixed f ∷ cs) = ap (λ v. Fixed f ∷ v) (shift-behind first (k + 1) n cs)
shift-behind first k n (Waiting w ∷ cs) = hole-behind first k n cs (shift-behind first (k + 1) n cs)

closed-behind : (first : ℕ → ℕ) (k i n : ℕ) (cs : List Cell) → k < length cs → take k (cs ++ replicate n Empty) ++ close first i (drop (suc k) (cs ++ replicate n Empty)) ≡ (take k cs ++ close first i (drop (suc k) cs)) ++ replicate n Empty
closed-behind first k i n [] h = absurd (omega arith)
closed-behind first zero i n (c ∷ cs) h = hole-behind first i n cs (shift-behind first (i + 1) n cs)
closed-behind first (suc k) i n (c ∷ cs) h = ap (λ v. c ∷ v) (closed-behind first k i n cs (omega arith))

pub closed-lifted : (first : ℕ → ℕ) (start : ℕ) (cells new : List Cell) (len k : ℕ) → k < length cells → length new ≡ length cells → map (from_start start) new ≡ take k (map (from_start start) cells) ++ close first k (drop (k + 1) (map (from_start start) cells)) → started start new len ≡ take k (started start cells len) ++ close first k (drop (k + 1) (started start cells len))
closed-lifted first start cells new len k h same e =
    let row = map (from_start start) cells in
    let n = len - length cells in
    let whole : started start cells len ≡ row ++ replicate n Empty = parts cells n in
    let there : started start new len ≡ (take k row ++ close first k (drop (k + 1) row)) ++ replicate n Empty =
    ap (λ m. map (from_start start) (new ++ replicate (len - m) Empty)) same ∙ (parts new n ∙ ap (λ v. v ++ replicate n Empty) e) in
    let behind : take k (row ++ replicate n Empty) ++ close first k (drop (k + 1) (row ++ replicate n Empty)) ≡ (take k row ++ close first k (drop (k + 1) row)) ++ replicate n Empty =
    subst (λ i. take k (row ++ replicate n Empty) ++ close first k (drop i (row ++ replicate n Empty)) ≡ (take k row ++ close first k (drop i row)) ++ replicate n Empty) (sym (add-one k)) (closed-behind first k k n row (omega (arith, length-map cells (from_start start)))) in
    there ∙ (sym behind ∙ ap (λ v. take k v ++ close first k (drop (k + 1) v)) (sym whole)) where
      parts : (cs : List Cell) (m : ℕ) → map (from_start start) (cs ++ replicate m Empty) ≡ map (from_start start) cs ++ replicate m Empty
      parts cs m = map-append (from_start start) cs (replicate m Empty) ∙ ap (λ v. map (from_start start) cs ++ v) (started-empty start m)
