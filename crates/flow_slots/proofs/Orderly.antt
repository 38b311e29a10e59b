-- The provisional flights of a row are in the order, and the frozen ones by slot.
use Rattle.std.proofs.Common.{◌≡◌, ℕ, suc, ◌+◌, ◌<◌, true, false, List, [], ◌∷◌, Option, Some, refl, sym, ap, subst, arith}
use Rattle.std.specs.List.{AllByRecursion}
use Rattle.std.proofs.lemmas.Bool.Decides.{nat_tests}
use Rattle.flow_slots.specs.declared.cell.Planned.{Planned}
use Rattle.flow_slots.specs.declared.cell.Cell.{Cell}
use Rattle.flow_slots.specs.declared.cell.Cell.TheVariants.{Empty, Waiting, Fixed}
use Rattle.flow_slots.specs.Order.{stands_before}
use Rattle.flow_slots.specs.Assignment.{Placed, slots}
use Rattle.flow_slots.specs.Delay.{Rise, waiting_slots}
use Rattle.flow_slots.specs.Period.{Period, first_slot}
use Rattle.flow_slots.proofs.Fresh.{greedy-row}
use Rattle.flow_slots.proofs.Periods.{first_slot-monotone}
use Rattle.flow_slots.specs.Row.{waiting_of, fixed_of, placed_of, flight_of, flight_at, place_at, NoneBefore, IsSettledRow, IsTied}
use Rattle.flow_slots.specs.Lineup.{InOrder, BySlot, NoneIs, NoneFixed, FixedApart, WaitingApart, IsLineup}
use Rattle.flow_slots.proofs.Held.{IsAway, IsAway-tail}

-- no flight is in two cells
abbrev AreApart : List Cell → Type 0
AreApart cs = (i j f : ℕ) → flight_at cs i ≡ Some f → flight_at cs j ≡ Some f → i ≡ j

AreApart-tail : (c : Cell) (cs : List Cell) → AreApart (c ∷ cs) → AreApart cs
AreApart-tail c cs a = λ i j f p q. (let same : suc i ≡ suc j = a (suc i) (suc j) f p q in omega arith)

behind_is : (w v : Planned) → stands_before v w ≡ false → (v.flight ≡ w.flight → ⊥) → stands_before w v ≡ true
behind_is w v h ne = grind (arith, nat_tests)

all_behind : (w : Planned) (cs : List Cell) → IsAway w.flight cs → NoneBefore w (waiting_of cs) → AllByRecursion (λ v. stands_before w v ≡ true) (waiting_of cs)
all_behind w [] a n = tt
all_behind w (Empty ∷ cs) a n = all_behind w cs (IsAway-tail w.flight Empty cs a) n
all_behind w (Fixed f ∷ cs) a n = all_behind w cs (IsAway-tail w.flight (Fixed f) cs a) n
all_behind w (Waiting v ∷ cs) a n =
    let other : v.flight ≡ w.flight → ⊥ = λ e. a 0 (ap Some e) in
    let behind : stands_before w v ≡ true = behind_is w v n.0 other in
    (behind, all_behind w cs (IsAway-tail w.flight (Waiting v) cs a) n.1)

in_order : (first : ℕ → ℕ) (k : ℕ) (cs : List Cell) → IsSettledRow first k cs → AreApart cs → InOrder (waiting_of cs)
in_order first k [] s a = tt
in_order first k (Empty ∷ cs) s a = in_order first (k + 1) cs s.1 (AreApart-tail Empty cs a)
in_order first k (Fixed f ∷ cs) s a = in_order first (k + 1) cs s (AreApart-tail (Fixed f) cs a)
in_order first k (Waiting w ∷ cs) s a =
    let away : IsAway w.flight cs = λ j e. (let same : 0 ≡ suc j = a 0 (suc j) w.flight refl e in absurd (omega arith)) in
    (all_behind w cs away s.1, in_order first (k + 1) cs s.2 (AreApart-tail (Waiting w) cs a))

fixed_behind : (j k : ℕ) (cs : List Cell) → j < k → AllByRecursion (λ b. j < b.slot) (fixed_of k cs)
fixed_behind j k [] h = tt
fixed_behind j k (Empty ∷ cs) h = fixed_behind j (k + 1) cs (omega arith)
fixed_behind j k (Waiting w ∷ cs) h = fixed_behind j (k + 1) cs (omega arith)
fixed_behind j k (Fixed f ∷ cs) h = (h, fixed_behind j (k + 1) cs (omega arith))

fixed-by_slot : (k : ℕ) (cs : List Cell) → BySlot (fixed_of k cs)
fixed-by_slot k [] = tt
fixed-by_slot k (Empty ∷ cs) = fixed-by_slot (k + 1) cs
fixed-by_slot k (Waiting w ∷ cs) = fixed-by_slot (k + 1) cs
fixed-by_slot k (Fixed f ∷ cs) = (fixed_behind k (k + 1) cs (omega arith), fixed-by_slot (k + 1) cs)

waiting-in_order : (first : ℕ → ℕ) (places : List (Option ℕ)) (row : List Cell) → IsSettledRow first 0 row → IsTied places row → InOrder (waiting_of row)
waiting-in_order first places row s t =
    in_order first 0 row s (λ i j f p q. (let here : place_at places f ≡ Some i = (t.each f i).1 p in let there : place_at places f ≡ Some j = (t.each f j).1 q in cc))

-- no two flights of the lists that are read off a row have one number
fixed-none : (f o : ℕ) (cs : List Cell) → IsAway f cs → NoneFixed f (fixed_of o cs)
fixed-none f o [] a = tt
fixed-none f o (Empty ∷ cs) a = fixed-none f (o + 1) cs (IsAway-tail f Empty cs a)
fixed-none f o (Waiting w ∷ cs) a = fixed-none f (o + 1) cs (IsAway-tail f (Waiting w) cs a)
fixed-none f o (Fixed g ∷ cs) a = ((λ q. a 0 (ap Some q)), fixed-none f (o + 1) cs (IsAway-tail f (Fixed g) cs a))

waiting-none : (f : ℕ) (cs : List Cell) → IsAway f cs → NoneIs f (waiting_of cs)
waiting-none f [] a = tt
waiting-none f (Empty ∷ cs) a = waiting-none f cs (IsAway-tail f Empty cs a)
waiting-none f (Fixed g ∷ cs) a = waiting-none f cs (IsAway-tail f (Fixed g) cs a)
waiting-none f (Waiting w ∷ cs) a = ((λ q. a 0 (ap Some q)), waiting-none f cs (IsAway-tail f (Waiting w) cs a))

AreApart-away : (f : ℕ) (c : Cell) (cs : List Cell) → AreApart (c ∷ cs) → flight_of c ≡ Some f → IsAway f cs
AreApart-away f c cs a is = λ j e. (let same : 0 ≡ suc j = a 0 (suc j) f is e in absurd (omega arith))

fixed-apart : (o : ℕ) (cs : List Cell) → AreApart cs → FixedApart (fixed_of o cs)
fixed-apart o [] a = tt
fixed-apart o (Empty ∷ cs) a = fixed-apart (o + 1) cs (AreApart-tail Empty cs a)
fixed-apart o (Waiting w ∷ cs) a = fixed-apart (o + 1) cs (AreApart-tail (Waiting w) cs a)
fixed-apart o (Fixed f ∷ cs) a =
    (fixed-none f (o + 1) cs (AreApart-away f (Fixed f) cs a refl), fixed-apart (o + 1) cs (AreApart-tail (Fixed f) cs a))

WaitingApart-more : (f o : ℕ) (xs : List Placed) (ws : List Planned) → NoneIs f ws → WaitingApart xs ws → WaitingApart (record { flight = f; slot = o } ∷ xs) ws
WaitingApart-more f o xs [] n a = tt
WaitingApart-more f o xs (w ∷ ws) n a =
    (((λ q. n.0 (sym q)), a.0), a.1, WaitingApart-more f o xs ws n.1 a.2)

waiting-apart : (o : ℕ) (cs : List Cell) → AreApart cs → WaitingApart (fixed_of o cs) (waiting_of cs)
waiting-apart o [] a = tt
waiting-apart o (Empty ∷ cs) a = waiting-apart (o + 1) cs (AreApart-tail Empty cs a)
waiting-apart o (Fixed f ∷ cs) a =
    WaitingApart-more f o (fixed_of (o + 1) cs) (waiting_of cs) (waiting-none f cs (AreApart-away f (Fixed f) cs a refl)) (waiting-apart (o + 1) cs (AreApart-tail (Fixed f) cs a))
waiting-apart o (Waiting w ∷ cs) a =
    let away = AreApart-away w.flight (Waiting w) cs a refl in
    (fixed-none w.flight (o + 1) cs away, waiting-none w.flight cs away, waiting-apart (o + 1) cs (AreApart-tail (Waiting w) cs a))

tied-apart : (places : List (Option ℕ)) (row : List Cell) → IsTied places row → AreApart row
tied-apart places row t = λ i j f p q. (let here : place_at places f ≡ Some i = (t.each f i).1 p in let there : place_at places f ≡ Some j = (t.each f j).1 q in cc)

-- the lists that are read off a row are a lineup
pub row-lineup : (first : ℕ → ℕ) (p : Period) (capacity : ℕ) (places : List (Option ℕ)) (row : List Cell) → IsSettledRow first 0 row → IsTied places row → IsLineup (record { period = p; capacity = capacity; waiting = waiting_of row; fixed = fixed_of 0 row })
row-lineup first p capacity places row s t =
    record {
      in_order = waiting-in_order first places row s t;
      by_slot = fixed-by_slot 0 row;
      fixed_apart = fixed-apart 0 row (tied-apart places row t);
      waiting_apart = waiting-apart 0 row (tied-apart places row t);
    }

-- the slots of the provisional flights rise
placed-behind : (j k : ℕ) (cs : List Cell) → j < k → AllByRecursion (λ i. j < i) (slots (placed_of k cs))
placed-behind j k [] h = tt
placed-behind j k (Empty ∷ cs) h = placed-behind j (k + 1) cs (omega arith)
placed-behind j k (Fixed f ∷ cs) h = placed-behind j (k + 1) cs (omega arith)
placed-behind j k (Waiting w ∷ cs) h = (h, placed-behind j (k + 1) cs (omega arith))

placed-rise : (k : ℕ) (cs : List Cell) → Rise (slots (placed_of k cs))
placed-rise k [] = tt
placed-rise k (Empty ∷ cs) = placed-rise (k + 1) cs
placed-rise k (Fixed f ∷ cs) = placed-rise (k + 1) cs
placed-rise k (Waiting w ∷ cs) = (placed-behind k (k + 1) cs (omega arith), placed-rise (k + 1) cs)

pub row-rise : (p : Period) (capacity : ℕ) (row : List Cell) → IsSettledRow (λ e. first_slot p e) 0 row → Rise (waiting_slots (record { period = p; capacity = capacity; waiting = waiting_of row; fixed = fixed_of 0 row }))
row-rise p capacity row s =
    subst (λ placed. Rise (slots placed)) (sym (greedy-row (λ e. first_slot p e) (first_slot-monotone p) row s)) (placed-rise 0 row)
