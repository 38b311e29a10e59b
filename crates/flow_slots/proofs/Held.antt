-- Reading the assignment off a row: the slot of a flight and the flight in a slot.
use Rattle.std.proofs.Common.{◌≡◌, ℕ, zero, suc, ◌+◌, ◌<◌, ◌≤◌, cond, not, Bool, eqb, true, false, List, [], ◌∷◌, ◌++◌, Option, None, Some, IfSome, refl, sym, ap, subst, ◌∙◌, arith}
use Rattle.std.proofs.lemmas.Bool.{eq-eqb, ne_eqb, false≢true}
use Rattle.std.specs.Option.{is_some, IsSome}
use Rattle.flow_slots.specs.declared.cell.Planned.{Planned}
use Rattle.flow_slots.specs.declared.cell.Cell.{Cell}
use Rattle.flow_slots.specs.declared.cell.Cell.TheVariants.{Empty, Waiting, Fixed}
use Rattle.flow_slots.specs.Period.{Period, first_slot, slots_before_end}
use Rattle.flow_slots.specs.Order.{without}
use Rattle.flow_slots.specs.Assignment.{Placed, first_free, greedy, slots}
use Rattle.flow_slots.specs.Row.{waiting_of, fixed_of, placed_of, cell_at, flight_of, flight_at, place_at, IsTied}
use Rattle.flow_slots.specs.Lineup.{Lineup, IsKept, slot_in, flight_in, held_slot, held_flight, fixed_slot, without_fixed, without_flight, entry_in}
use Rattle.flow_slots.proofs.Fresh.{greedy-row}
use Rattle.flow_slots.proofs.Periods.{first_slot-monotone}
use Rattle.flow_slots.proofs.Tied.{place_at-within, flight_at-within, IsTied-some}

abbrev pub first_of : {A : Type 0} → Option A → Option A → Option A
first_of None o = o
first_of (Some x) o = Some x

pub slot_in-append : (f : ℕ) (xs ys : List Placed) → slot_in f (xs ++ ys) ≡ first_of (slot_in f xs) (slot_in f ys)
slot_in-append f [] ys = refl
slot_in-append f (x ∷ xs) ys =
    elim (eqb x.flight f) as (λ b. cond b (Some x.slot) (slot_in f (xs ++ ys)) ≡ first_of (cond b (Some x.slot) (slot_in f xs)) (slot_in f ys)) [ true ↦ refl | false ↦ slot_in-append f xs ys ]

pub flight_in-append : (k : ℕ) (xs ys : List Placed) → flight_in k (xs ++ ys) ≡ first_of (flight_in k xs) (flight_in k ys)
flight_in-append k [] ys = refl
flight_in-append k (x ∷ xs) ys =
    elim (eqb x.slot k) as (λ b. cond b (Some x.flight) (flight_in k (xs ++ ys)) ≡ first_of (cond b (Some x.flight) (flight_in k xs)) (flight_in k ys)) [ true ↦ refl | false ↦ flight_in-append k xs ys ]

pub slot_in-other : (f : ℕ) (x : Placed) (xs : List Placed) → (x.flight ≡ f → ⊥) → slot_in f (x ∷ xs) ≡ slot_in f xs
slot_in-other f x xs ne = ap (λ b. cond b (Some x.slot) (slot_in f xs)) (ne_eqb x.flight f ne)

pub slot_in-here : (f : ℕ) (x : Placed) (xs : List Placed) → x.flight ≡ f → slot_in f (x ∷ xs) ≡ Some x.slot
slot_in-here f x xs e = ap (λ b. cond b (Some x.slot) (slot_in f xs)) (eq-eqb x.flight f e)

pub flight_in-other : (k : ℕ) (x : Placed) (xs : List Placed) → (x.slot ≡ k → ⊥) → flight_in k (x ∷ xs) ≡ flight_in k xs
flight_in-other k x xs ne = ap (λ b. cond b (Some x.flight) (flight_in k xs)) (ne_eqb x.slot k ne)

pub flight_in-here : (k : ℕ) (x : Placed) (xs : List Placed) → x.slot ≡ k → flight_in k (x ∷ xs) ≡ Some x.flight
flight_in-here k x xs e = ap (λ b. cond b (Some x.flight) (flight_in k xs)) (eq-eqb x.slot k e)

-- a flight that is in no cell
abbrev pub IsAway : ℕ → List Cell → Type 0
IsAway f cs = (j : ℕ) → flight_at cs j ≡ Some f → ⊥

-- a flight that is in no cell but one
abbrev pub StandsOnlyAt : ℕ → ℕ → List Cell → Type 0
StandsOnlyAt f k cs = (j : ℕ) → flight_at cs j ≡ Some f → j ≡ k

pub IsAway-tail : (f : ℕ) (c : Cell) (cs : List Cell) → IsAway f (c ∷ cs) → IsAway f cs
IsAway-tail f c cs a = λ j e. a (suc j) e

pub IsAway-after : (f : ℕ) (c : Cell) (cs : List Cell) → StandsOnlyAt f zero (c ∷ cs) → IsAway f cs
IsAway-after f c cs a = λ j e. (let q : suc j ≡ 0 = a (suc j) e in absurd (omega arith))

pub StandsOnlyAt-tail : (f k : ℕ) (c : Cell) (cs : List Cell) → StandsOnlyAt f (suc k) (c ∷ cs) → StandsOnlyAt f k cs
StandsOnlyAt-tail f k c cs a = λ j e. (let q : suc j ≡ suc k = a (suc j) e in omega arith)

pub StandsOnlyAt-first : (f k : ℕ) (c : Cell) (cs : List Cell) → StandsOnlyAt f (suc k) (c ∷ cs) → flight_of c ≡ Some f → ⊥
StandsOnlyAt-first f k c cs a e = (let q : 0 ≡ suc k = a 0 e in absurd (omega arith))

fixed_of-away : (f o : ℕ) (cs : List Cell) → IsAway f cs → slot_in f (fixed_of o cs) ≡ None
fixed_of-away f o [] a = refl
fixed_of-away f o (Empty ∷ cs) a = fixed_of-away f (o + 1) cs (IsAway-tail f Empty cs a)
fixed_of-away f o (Waiting w ∷ cs) a = fixed_of-away f (o + 1) cs (IsAway-tail f (Waiting w) cs a)
fixed_of-away f o (Fixed g ∷ cs) a =
    slot_in-other f (record { flight = g; slot = o }) _ (λ e. a 0 (ap Some e)) ∙ fixed_of-away f (o + 1) cs (IsAway-tail f (Fixed g) cs a)

placed_of-away : (f o : ℕ) (cs : List Cell) → IsAway f cs → slot_in f (placed_of o cs) ≡ None
placed_of-away f o [] a = refl
placed_of-away f o (Empty ∷ cs) a = placed_of-away f (o + 1) cs (IsAway-tail f Empty cs a)
placed_of-away f o (Fixed g ∷ cs) a = placed_of-away f (o + 1) cs (IsAway-tail f (Fixed g) cs a)
placed_of-away f o (Waiting w ∷ cs) a =
    slot_in-other f (record { flight = w.flight; slot = o }) _ (λ e. a 0 (ap Some e)) ∙ placed_of-away f (o + 1) cs (IsAway-tail f (Waiting w) cs a)

abbrev slot_found : ℕ → ℕ → List Cell → Option ℕ
slot_found f o cs = first_of (slot_in f (fixed_of o cs)) (slot_in f (placed_of o cs))

slot_found-is : (f o k i : ℕ) (cs : List Cell) → i ≡ o + k → flight_at cs k ≡ Some f → StandsOnlyAt f k cs → slot_found f o cs ≡ Some i
slot_found-is f o k i [] q e a = cc
slot_found-is f o zero i (Empty ∷ cs) q e a = cc
slot_found-is f o zero i (Fixed g ∷ cs) q e a =
    let here = slot_in-here f (record { flight = g; slot = o }) (fixed_of (o + 1) cs) (let s : g ≡ f = cc in s) in
    let at : o ≡ i = omega arith in
    ap (λ v. first_of v (slot_in f (placed_of (o + 1) cs))) here ∙ ap Some at
slot_found-is f o zero i (Waiting w ∷ cs) q e a =
    let here = slot_in-here f (record { flight = w.flight; slot = o }) (placed_of (o + 1) cs) (let s : w.flight ≡ f = cc in s) in
    let at : o ≡ i = omega arith in
    ap (λ v. first_of v (slot_in f (record { flight = w.flight; slot = o } ∷ placed_of (o + 1) cs))) (fixed_of-away f (o + 1) cs (IsAway-after f (Waiting w) cs a)) ∙ (here ∙ ap Some at)
slot_found-is f o (suc k) i (Empty ∷ cs) q e a =
    slot_found-is f (o + 1) k i cs (omega arith) e (StandsOnlyAt-tail f k Empty cs a)
slot_found-is f o (suc k) i (Fixed g ∷ cs) q e a =
    ap (λ v. first_of v (slot_in f (placed_of (o + 1) cs))) (slot_in-other f (record { flight = g; slot = o }) (fixed_of (o + 1) cs) (λ s. StandsOnlyAt-first f k (Fixed g) cs a (ap Some s))) ∙ slot_found-is f (o + 1) k i cs (omega arith) e (StandsOnlyAt-tail f k (Fixed g) cs a)
slot_found-is f o (suc k) i (Waiting w ∷ cs) q e a =
    ap (first_of (slot_in f (fixed_of (o + 1) cs))) (slot_in-other f (record { flight = w.flight; slot = o }) (placed_of (o + 1) cs) (λ s. StandsOnlyAt-first f k (Waiting w) cs a (ap Some s))) ∙ slot_found-is f (o + 1) k i cs (omega arith) e (StandsOnlyAt-tail f k (Waiting w) cs a)

-- the flights of the cells from slot `o` on are at `o` or later
pub fixed_of-later : (k o : ℕ) (cs : List Cell) → k < o → flight_in k (fixed_of o cs) ≡ None
fixed_of-later k o [] h = refl
fixed_of-later k o (Empty ∷ cs) h = fixed_of-later k (o + 1) cs (omega arith)
fixed_of-later k o (Waiting w ∷ cs) h = fixed_of-later k (o + 1) cs (omega arith)
fixed_of-later k o (Fixed f ∷ cs) h =
    flight_in-other k (record { flight = f; slot = o }) _ (λ e. omega arith) ∙ fixed_of-later k (o + 1) cs (omega arith)

pub placed_of-later : (k o : ℕ) (cs : List Cell) → k < o → flight_in k (placed_of o cs) ≡ None
placed_of-later k o [] h = refl
placed_of-later k o (Empty ∷ cs) h = placed_of-later k (o + 1) cs (omega arith)
placed_of-later k o (Fixed f ∷ cs) h = placed_of-later k (o + 1) cs (omega arith)
placed_of-later k o (Waiting w ∷ cs) h =
    flight_in-other k (record { flight = w.flight; slot = o }) _ (λ e. omega arith) ∙ placed_of-later k (o + 1) cs (omega arith)

abbrev flight_found : ℕ → ℕ → List Cell → Option ℕ
flight_found i o cs = first_of (flight_in i (fixed_of o cs)) (flight_in i (placed_of o cs))

flight_found-is : (o k i : ℕ) (cs : List Cell) → i ≡ o + k → flight_found i o cs ≡ flight_at cs k
flight_found-is o k i [] q = refl
flight_found-is o zero i (Empty ∷ cs) q =
    ap (λ v. first_of v (flight_in i (placed_of (o + 1) cs))) (fixed_of-later i (o + 1) cs (omega arith)) ∙ placed_of-later i (o + 1) cs (omega arith)
flight_found-is o zero i (Fixed f ∷ cs) q =
    ap (λ v. first_of v (flight_in i (placed_of (o + 1) cs))) (flight_in-here i (record { flight = f; slot = o }) _ (omega arith))
flight_found-is o zero i (Waiting w ∷ cs) q =
    ap (λ v. first_of v (flight_in i (record { flight = w.flight; slot = o } ∷ placed_of (o + 1) cs))) (fixed_of-later i (o + 1) cs (omega arith)) ∙ flight_in-here i (record { flight = w.flight; slot = o }) _ (omega arith)
flight_found-is o (suc k) i (Empty ∷ cs) q = flight_found-is (o + 1) k i cs (omega arith)
flight_found-is o (suc k) i (Fixed f ∷ cs) q =
    ap (λ v. first_of v (flight_in i (placed_of (o + 1) cs))) (flight_in-other i (record { flight = f; slot = o }) _ (λ e. omega arith)) ∙ flight_found-is (o + 1) k i cs (omega arith)
flight_found-is o (suc k) i (Waiting w ∷ cs) q =
    ap (first_of (flight_in i (fixed_of (o + 1) cs))) (flight_in-other i (record { flight = w.flight; slot = o }) _ (λ e. omega arith)) ∙ flight_found-is (o + 1) k i cs (omega arith)

-- the table says which slot a flight has
pub tied-found : (places : List (Option ℕ)) (row : List Cell) (f : ℕ) → IsTied places row → slot_in f (fixed_of 0 row ++ placed_of 0 row) ≡ place_at places f
tied-found places row f t = slot_in-append f _ _ ∙ cases (place_at places f) refl where
  cases : (o : Option ℕ) → place_at places f ≡ o → slot_found f 0 row ≡ place_at places f
  cases None e =
      let away : IsAway f row = λ j q. (let s : place_at places f ≡ Some j = (t.each f j).1 q in cc) in
      ap (λ v. first_of v (slot_in f (placed_of 0 row))) (fixed_of-away f 0 row away) ∙ (placed_of-away f 0 row away ∙ sym e)
  cases (Some k) e =
      let only : StandsOnlyAt f k row = λ j q. (let s : place_at places f ≡ Some j = (t.each f j).1 q in cc) in
      slot_found-is f 0 k k row (omega arith) ((t.each f k).0 e) only ∙ sym e

pub row-found : (row : List Cell) (k : ℕ) → flight_in k (fixed_of 0 row ++ placed_of 0 row) ≡ flight_at row k
row-found row k = flight_in-append k _ _ ∙ flight_found-is 0 k k row (omega arith)

-- what a slot list holds, read off its row
pub held_slot-is : (p : Period) (capacity n : ℕ) (row : List Cell) (places : List (Option ℕ)) (f : ℕ) → IsKept p capacity row places → held_slot (record { period = p; capacity = n; waiting = waiting_of row; fixed = fixed_of 0 row }) f ≡ place_at places f
held_slot-is p capacity n row places f k =
    ap (λ v. slot_in f (fixed_of 0 row ++ v)) (greedy-row (λ e. first_slot p e) (first_slot-monotone p) row k.settled) ∙ tied-found places row f k.tied

pub held_flight-is : (p : Period) (capacity n : ℕ) (row : List Cell) (places : List (Option ℕ)) (k : ℕ) → IsKept p capacity row places → held_flight (record { period = p; capacity = n; waiting = waiting_of row; fixed = fixed_of 0 row }) k ≡ flight_at row k
held_flight-is p capacity n row places k kept =
    ap (λ v. flight_in k (fixed_of 0 row ++ v)) (greedy-row (λ e. first_slot p e) (first_slot-monotone p) row kept.settled) ∙ row-found row k

-- a stored slot is below the number of slots
pub place_at-below : (p : Period) (capacity : ℕ) (row : List Cell) (places : List (Option ℕ)) (f : ℕ) (o : Option ℕ) → IsKept p capacity row places → o ≡ place_at places f → IfSome o (λ k. k < slots_before_end p + capacity)
place_at-below p capacity row places f None kept e = tt
place_at-below p capacity row places f (Some k) kept e =
    omega (arith, kept.len, flight_at-within row k f ((kept.tied.each f k).0 (sym e)))

-- where a frozen flight and a provisional one are, by the frozen flights alone
fixed_found-is : (f o k i : ℕ) (cs : List Cell) → i ≡ o + k → cell_at cs k ≡ Fixed f → StandsOnlyAt f k cs → slot_in f (fixed_of o cs) ≡ Some i
fixed_found-is f o k i [] q e a = cc
fixed_found-is f o zero i (Empty ∷ cs) q e a = cc
fixed_found-is f o zero i (Waiting w ∷ cs) q e a = cc
fixed_found-is f o zero i (Fixed g ∷ cs) q e a =
    let at : o ≡ i = omega arith in
    slot_in-here f (record { flight = g; slot = o }) (fixed_of (o + 1) cs) (let s : g ≡ f = cc in s) ∙ ap Some at
fixed_found-is f o (suc k) i (Empty ∷ cs) q e a = fixed_found-is f (o + 1) k i cs (omega arith) e (StandsOnlyAt-tail f k Empty cs a)
fixed_found-is f o (suc k) i (Waiting w ∷ cs) q e a = fixed_found-is f (o + 1) k i cs (omega arith) e (StandsOnlyAt-tail f k (Waiting w) cs a)
fixed_found-is f o (suc k) i (Fixed g ∷ cs) q e a =
    slot_in-other f (record { flight = g; slot = o }) (fixed_of (o + 1) cs) (λ s. StandsOnlyAt-first f k (Fixed g) cs a (ap Some s)) ∙ fixed_found-is f (o + 1) k i cs (omega arith) e (StandsOnlyAt-tail f k (Fixed g) cs a)

fixed_found-none : (f o k : ℕ) (w : Planned) (cs : List Cell) → cell_at cs k ≡ Waiting w → w.flight ≡ f → StandsOnlyAt f k cs → slot_in f (fixed_of o cs) ≡ None
fixed_found-none f o k w [] e n a = refl
fixed_found-none f o zero w (Empty ∷ cs) e n a = cc
fixed_found-none f o zero w (Fixed g ∷ cs) e n a = cc
fixed_found-none f o zero w (Waiting v ∷ cs) e n a = fixed_of-away f (o + 1) cs (IsAway-after f (Waiting v) cs a)
fixed_found-none f o (suc k) w (Empty ∷ cs) e n a = fixed_found-none f (o + 1) k w cs e n (StandsOnlyAt-tail f k Empty cs a)
fixed_found-none f o (suc k) w (Waiting v ∷ cs) e n a = fixed_found-none f (o + 1) k w cs e n (StandsOnlyAt-tail f k (Waiting v) cs a)
fixed_found-none f o (suc k) w (Fixed g ∷ cs) e n a =
    slot_in-other f (record { flight = g; slot = o }) (fixed_of (o + 1) cs) (λ s. StandsOnlyAt-first f k (Fixed g) cs a (ap Some s)) ∙ fixed_found-none f (o + 1) k w cs e n (StandsOnlyAt-tail f k (Fixed g) cs a)

pub stands_only : (places : List (Option ℕ)) (row : List Cell) (f k : ℕ) → IsTied places row → flight_at row k ≡ Some f → StandsOnlyAt f k row
stands_only places row f k t e = λ j q. (let here : place_at places f ≡ Some k = (t.each f k).1 e in let there : place_at places f ≡ Some j = (t.each f j).1 q in cc)

pub fixed_slot-none : (places : List (Option ℕ)) (row : List Cell) (f : ℕ) → IsTied places row → place_at places f ≡ None → slot_in f (fixed_of 0 row) ≡ None
fixed_slot-none places row f t e =
    fixed_of-away f 0 row (λ j q. (let s : place_at places f ≡ Some j = (t.each f j).1 q in cc))

pub fixed_slot-fixed : (places : List (Option ℕ)) (row : List Cell) (f g k : ℕ) → IsTied places row → place_at places f ≡ Some k → cell_at row k ≡ Fixed g → slot_in f (fixed_of 0 row) ≡ Some k
fixed_slot-fixed places row f g k t e h =
    let stands : flight_at row k ≡ Some f = (t.each f k).0 e in
    let same : Some g ≡ Some f = sym (ap flight_of h) ∙ stands in
    let is : g ≡ f = cc in
    fixed_found-is f 0 k k row (omega arith) (h ∙ ap Fixed is) (stands_only places row f k t stands)

pub fixed_slot-waiting : (places : List (Option ℕ)) (row : List Cell) (f k : ℕ) (w : Planned) → IsTied places row → place_at places f ≡ Some k → cell_at row k ≡ Waiting w → slot_in f (fixed_of 0 row) ≡ None
fixed_slot-waiting places row f k w t e h =
    let stands : flight_at row k ≡ Some f = (t.each f k).0 e in
    let same : Some w.flight ≡ Some f = sym (ap flight_of h) ∙ stands in
    fixed_found-none f 0 k w row h (let is : w.flight ≡ f = cc in is) (stands_only places row f k t stands)

-- the cell of a flight that isn't frozen
pub record Waits (row : List Cell) (f k : ℕ) : Type 0 where
  pub held : Planned
  pub stands : cell_at row k ≡ Waiting held
  pub flight : held.flight ≡ f

pub waits : (places : List (Option ℕ)) (row : List Cell) (f k : ℕ) → IsTied places row → place_at places f ≡ Some k → slot_in f (fixed_of 0 row) ≡ None → Waits row f k
waits places row f k t e none = cases (cell_at row k) refl where
  cases : (c : Cell) → cell_at row k ≡ c → Waits row f k
  cases Empty h = absurd (let stands : flight_at row k ≡ Some f = (t.each f k).0 e in let away : flight_at row k ≡ None = ap flight_of h in cc)
  cases (Fixed g) h = absurd (let found = fixed_slot-fixed places row f g k t e h in cc)
  cases (Waiting w) h =
      let stands : flight_at row k ≡ Some f = (t.each f k).0 e in
      let same : Some w.flight ≡ Some f = sym (ap flight_of h) ∙ stands in
      record { held = w; stands = h; flight = (let is : w.flight ≡ f = cc in is) }

-- a flight that was taken out has no slot
slot_in-without : (f : ℕ) (xs : List Placed) → slot_in f (without_fixed f xs) ≡ None
slot_in-without f [] = refl
slot_in-without f (x ∷ xs) = cases (slot_in-without f xs) (eqb x.flight f) refl where
  cases : slot_in f (without_fixed f xs) ≡ None → (b : Bool) → eqb x.flight f ≡ b → slot_in f (cond (not b) (x ∷ without_fixed f xs) (without_fixed f xs)) ≡ None
  cases again true e = again
  cases again false e = ap (λ b. cond b (Some x.slot) (slot_in f (without_fixed f xs))) e ∙ again

slot_in-greedy : (first : ℕ → ℕ) (f : ℕ) (taken : List ℕ) (ws : List Planned) → slot_in f (greedy first taken (without f ws)) ≡ None
slot_in-greedy first f taken [] = refl
slot_in-greedy first f taken (w ∷ ws) = cases (λ ts. slot_in-greedy first f ts ws) (eqb w.flight f) refl where
  cases : ((ts : List ℕ) → slot_in f (greedy first ts (without f ws)) ≡ None) → (b : Bool) → eqb w.flight f ≡ b → slot_in f (greedy first taken (cond (not b) (w ∷ without f ws) (without f ws))) ≡ None
  cases again true e = again taken
  cases again false e =
      let k = first_free taken (first w.entry) in
      ap (λ b. cond b (Some k) (slot_in f (greedy first (k ∷ taken) (without f ws)))) e ∙ again (k ∷ taken)

pub held_slot-without : (f : ℕ) (l : Lineup) → held_slot (without_flight f l) f ≡ None
held_slot-without f l =
    slot_in-append f (without_fixed f l.fixed) (greedy (λ e. first_slot l.period e) (slots (without_fixed f l.fixed)) (without f l.waiting)) ∙ (ap (λ v. first_of v (slot_in f (greedy (λ e. first_slot l.period e) (slots (without_fixed f l.fixed)) (without f l.waiting)))) (slot_in-without f l.fixed) ∙ slot_in-greedy (λ e. first_slot l.period e) f (slots (without_fixed f l.fixed)) l.waiting)

-- a frozen flight has a slot
pub held_slot-fixed : (f : ℕ) (l : Lineup) → IsSome (fixed_slot l f) → IsSome (held_slot l f)
held_slot-fixed f l h = cases (slot_in f l.fixed) refl h where
  cases : (o : Option ℕ) → slot_in f l.fixed ≡ o → IsSome o → IsSome (held_slot l f)
  cases None e s = absurd (false≢true s)
  cases (Some k) e s =
      ap is_some (slot_in-append f l.fixed (greedy (λ v. first_slot l.period v) (slots l.fixed) l.waiting) ∙ ap (λ v. first_of v (slot_in f (greedy (λ v. first_slot l.period v) (slots l.fixed) l.waiting))) e)

-- a flight that has a slot isn't frozen if its cell isn't
pub fixed_slot-not : (places : List (Option ℕ)) (row : List Cell) (f k : ℕ) → IsTied places row → place_at places f ≡ Some k → ((g : ℕ) → cell_at row k ≡ Fixed g → ⊥) → slot_in f (fixed_of 0 row) ≡ None
fixed_slot-not places row f k t e not_fixed = cases (cell_at row k) refl where
  cases : (c : Cell) → cell_at row k ≡ c → slot_in f (fixed_of 0 row) ≡ None
  cases Empty h = absurd (let stands : flight_at row k ≡ Some f = (t.each f k).0 e in let away : flight_at row k ≡ None = ap flight_of h in cc)
  cases (Fixed g) h = absurd (not_fixed g h)
  cases (Waiting w) h = fixed_slot-waiting places row f k w t e h

-- the number of a flight that has a slot
pub place_at-number : (p : Period) (capacity f k : ℕ) (row : List Cell) (places : List (Option ℕ)) (l : Lineup) → IsKept p capacity row places → capacity ≡ l.capacity → place_at places f ≡ Some k → (0 < f) × (f ≤ l.capacity)
place_at-number p capacity f k row places l kept same e =
    (IsTied-some places row k f kept.tied ((kept.tied.each f k).0 e), omega (arith, kept.places_len, place_at-within places f k e))

-- the entry of a flight that is in one cell alone
entry_in-away : (f : ℕ) (cs : List Cell) → IsAway f cs → entry_in f (waiting_of cs) ≡ None
entry_in-away f [] a = refl
entry_in-away f (Empty ∷ cs) a = entry_in-away f cs (IsAway-tail f Empty cs a)
entry_in-away f (Fixed g ∷ cs) a = entry_in-away f cs (IsAway-tail f (Fixed g) cs a)
entry_in-away f (Waiting w ∷ cs) a =
    ap (λ b. cond b (Some w.entry) (entry_in f (waiting_of cs))) (ne_eqb w.flight f (λ e. a 0 (ap Some e))) ∙ entry_in-away f cs (IsAway-tail f (Waiting w) cs a)

entry_in-is : (f k : ℕ) (w : Planned) (cs : List Cell) → cell_at cs k ≡ Waiting w → w.flight ≡ f → StandsOnlyAt f k cs → entry_in f (waiting_of cs) ≡ Some w.entry
entry_in-is f k w [] e n a = cc
entry_in-is f zero w (Empty ∷ cs) e n a = cc
entry_in-is f zero w (Fixed g ∷ cs) e n a = cc
entry_in-is f zero w (Waiting v ∷ cs) e n a =
    let same : v ≡ w = cc in
    ap (λ b. cond b (Some v.entry) (entry_in f (waiting_of cs))) (eq-eqb v.flight f (ap (λ u. u.flight) same ∙ n)) ∙ ap (λ u. Some u.entry) same
entry_in-is f (suc k) w (Empty ∷ cs) e n a = entry_in-is f k w cs e n (StandsOnlyAt-tail f k Empty cs a)
entry_in-is f (suc k) w (Fixed g ∷ cs) e n a = entry_in-is f k w cs e n (StandsOnlyAt-tail f k (Fixed g) cs a)
entry_in-is f (suc k) w (Waiting v ∷ cs) e n a =
    ap (λ b. cond b (Some v.entry) (entry_in f (waiting_of cs))) (ne_eqb v.flight f (λ s. StandsOnlyAt-first f k (Waiting v) cs a (ap Some s))) ∙ entry_in-is f k w cs e n (StandsOnlyAt-tail f k (Waiting v) cs a)

entry_in-fixed : (f k : ℕ) (cs : List Cell) → cell_at cs k ≡ Fixed f → StandsOnlyAt f k cs → entry_in f (waiting_of cs) ≡ None
entry_in-fixed f k [] e a = refl
entry_in-fixed f zero (Empty ∷ cs) e a = cc
entry_in-fixed f zero (Waiting w ∷ cs) e a = cc
entry_in-fixed f zero (Fixed g ∷ cs) e a = entry_in-away f cs (IsAway-after f (Fixed g) cs (subst (λ v. StandsOnlyAt f zero (v ∷ cs)) refl a))
entry_in-fixed f (suc k) (Empty ∷ cs) e a = entry_in-fixed f k cs e (StandsOnlyAt-tail f k Empty cs a)
entry_in-fixed f (suc k) (Fixed g ∷ cs) e a = entry_in-fixed f k cs e (StandsOnlyAt-tail f k (Fixed g) cs a)
entry_in-fixed f (suc k) (Waiting v ∷ cs) e a =
    ap (λ b. cond b (Some v.entry) (entry_in f (waiting_of cs))) (ne_eqb v.flight f (λ s. StandsOnlyAt-first f k (Waiting v) cs a (ap Some s))) ∙ entry_in-fixed f k cs e (StandsOnlyAt-tail f k (Waiting v) cs a)

pub entry-none : (places : List (Option ℕ)) (row : List Cell) (f : ℕ) → IsTied places row → place_at places f ≡ None → entry_in f (waiting_of row) ≡ None
entry-none places row f t e =
    entry_in-away f row (λ j q. (let s : place_at places f ≡ Some j = (t.each f j).1 q in cc))

pub entry-waiting : (places : List (Option ℕ)) (row : List Cell) (f k : ℕ) (w : Planned) → IsTied places row → place_at places f ≡ Some k → cell_at row k ≡ Waiting w → entry_in f (waiting_of row) ≡ Some w.entry
entry-waiting places row f k w t e h =
    let stands : flight_at row k ≡ Some f = (t.each f k).0 e in
    let same : Some w.flight ≡ Some f = sym (ap flight_of h) ∙ stands in
    entry_in-is f k w row h (let is : w.flight ≡ f = cc in is) (stands_only places row f k t stands)

-- a flight that has a slot and isn't provisional there has no entry
pub entry-not : (places : List (Option ℕ)) (row : List Cell) (f k : ℕ) → IsTied places row → place_at places f ≡ Some k → ((w : Planned) → cell_at row k ≡ Waiting w → ⊥) → entry_in f (waiting_of row) ≡ None
entry-not places row f k t e not_waiting = cases (cell_at row k) refl where
  stands : flight_at row k ≡ Some f
  stands = (t.each f k).0 e

  cases : (c : Cell) → cell_at row k ≡ c → entry_in f (waiting_of row) ≡ None
  cases Empty h = absurd (let away : flight_at row k ≡ None = ap flight_of h in let s = stands in cc)
  cases (Waiting w) h = absurd (not_waiting w h)
  cases (Fixed g) h =
      let same : Some g ≡ Some f = sym (ap flight_of h) ∙ stands in
      let is : g ≡ f = cc in
      entry_in-fixed f k row (h ∙ ap Fixed is) (stands_only places row f k t stands)
