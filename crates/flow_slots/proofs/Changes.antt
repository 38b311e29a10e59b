-- What fixing a flight makes of a slot list.
use Rattle.std.proofs.Common.{◌≡◌, ℕ, zero, suc, ◌+◌, ◌<◌, ◌≤◌, ◌++◌, ◌⊎◌, inl, inr, true, List, [], ◌∷◌, length, set, take, drop, Option, None, Some, IfSome, refl, sym, ap, subst, ◌∙◌, add-one, arith}
use Rattle.std.proofs.lemmas.Bool.{cases_lt}
use Rattle.std.proofs.lemmas.List.{length-set}
use Rattle.flow_slots.specs.declared.cell.Planned.{Planned}
use Rattle.flow_slots.specs.declared.cell.Cell.{Cell}
use Rattle.flow_slots.specs.declared.cell.Cell.TheVariants.{Empty, Waiting, Fixed}
use Rattle.flow_slots.specs.Period.{Period, first_slot, slots_before_end}
use Rattle.flow_slots.specs.Order.{without}
use Rattle.flow_slots.specs.Row.{waiting_of, fixed_of, cell_at, flight_of, flight_at, place_at, AllAfter, AllWithin, IsSettledRow, IsTied}
use Rattle.flow_slots.specs.Walk.{displace, push, has_empty}
use Rattle.flow_slots.specs.Lineup.{Lineup, IsKept, len_of, held_slot, held_flight, fixed_slot, slot_in, insert_fixed, fixed_at, with_fixed}
use Rattle.flow_slots.proofs.Fixing.{Fixes, fix-fixes, put-fixes, push-fixes}
use Rattle.flow_slots.proofs.Held.{stands_only, held_slot-is, held_flight-is, fixed_slot-fixed, Waits}
use Rattle.flow_slots.proofs.Kept.{lineup_of, length-parts, length-displace, EntriesWithin-row}
use Rattle.flow_slots.proofs.Leaving.{AllWithin-without}
use Rattle.flow_slots.proofs.Periods.{first_slot-monotone}
use Rattle.flow_slots.proofs.Room.{room, first_slot-early}
use Rattle.flow_slots.proofs.Steps.{drop_at, push-empty}
use Rattle.flow_slots.proofs.Tied.{flight_at-within, IsTied-same}

lineup-fixes : (p : Period) (capacity f k : ℕ) (row new : List Cell) (ws : List Planned) → Fixes (λ e. first_slot p e) 0 f k row new ws → lineup_of p capacity new ≡ record { period = p; capacity = capacity; waiting = ws; fixed = insert_fixed (record { flight = f; slot = k }) (fixed_of 0 row) }
lineup-fixes p capacity f k row new ws r =
    ap (λ v. let l : Lineup = record { period = p; capacity = capacity; waiting = v; fixed = fixed_of 0 new } in l) r.waiting ∙ ap (λ v. let l : Lineup = record { period = p; capacity = capacity; waiting = ws; fixed = v } in l) r.fixed

-- a provisional flight in slot `k` is frozen there
pub row-fix : (p : Period) (capacity k : ℕ) (w : Planned) (row : List Cell) (places : List (Option ℕ)) → IsKept p capacity row places → cell_at row k ≡ Waiting w → Fixes (λ e. first_slot p e) 0 w.flight k row (set row k (Fixed w.flight)) (without w.flight (waiting_of row))
row-fix p capacity k w row places kept e =
    fix-fixes (λ v. first_slot p v) 0 k k w row (omega arith) e (stands_only places row w.flight k kept.tied (ap flight_of e)) kept.settled

pub IsKept-fix : (p : Period) (capacity k : ℕ) (w : Planned) (row : List Cell) (places : List (Option ℕ)) → IsKept p capacity row places → cell_at row k ≡ Waiting w → IsKept p capacity (set row k (Fixed w.flight)) places
IsKept-fix p capacity k w row places kept e =
    let r = row-fix p capacity k w row places kept e in
    record {
      settled = r.settled;
      tied = IsTied-same places row k (Fixed w.flight) kept.tied (flight_at-within row k w.flight (ap flight_of e)) (sym (ap flight_of e));
      entries = rw r.waiting (AllWithin-without p w.flight (waiting_of row) kept.entries);
      len = length-set row k (Fixed w.flight) ∙ kept.len;
      places_len = kept.places_len;
      regular = kept.regular;
      some_flight = kept.some_flight;
      flights = kept.flights;
    }

pub lineup-fix : (p : Period) (capacity k : ℕ) (w : Planned) (row : List Cell) (places : List (Option ℕ)) → IsKept p capacity row places → cell_at row k ≡ Waiting w → lineup_of p capacity (set row k (Fixed w.flight)) ≡ fixed_at (record { flight = w.flight; slot = k }) (lineup_of p capacity row)
lineup-fix p capacity k w row places kept e =
    lineup-fixes p capacity w.flight k row (set row k (Fixed w.flight)) (without w.flight (waiting_of row)) (row-fix p capacity k w row places kept e)

-- a provisional flight further on has its first slot after an empty one
AllAfter-at : (first : ℕ → ℕ) (o k : ℕ) (w : Planned) (cs : List Cell) → AllAfter first o (waiting_of cs) → cell_at cs k ≡ Waiting w → o < first w.entry
AllAfter-at first o k w [] a e = cc
AllAfter-at first o zero w (Empty ∷ cs) a e = cc
AllAfter-at first o zero w (Fixed f ∷ cs) a e = cc
AllAfter-at first o zero w (Waiting v ∷ cs) a e = (let same : v ≡ w = cc in subst (λ u. o < first u.entry) same a.0)
AllAfter-at first o (suc k) w (Empty ∷ cs) a e = AllAfter-at first o k w cs a e
AllAfter-at first o (suc k) w (Fixed f ∷ cs) a e = AllAfter-at first o k w cs a e
AllAfter-at first o (suc k) w (Waiting v ∷ cs) a e = AllAfter-at first o k w cs a.1 e

-- if a provisional flight is in slot `k`, the empty cells from its first slot on lie after `k`
empty_behind : (first : ℕ → ℕ) (o n k : ℕ) (w : Planned) (cs : List Cell) → IsSettledRow first o cs → cell_at cs k ≡ Waiting w → first w.entry ≤ o + n → n ≤ k → has_empty (drop n cs) ≡ true → has_empty (drop (suc k) cs) ≡ true
empty_behind first o n k w [] s e early l m = cc
empty_behind first o (suc n) zero w (c ∷ cs) s e early l m = absurd (omega arith)
empty_behind first o (suc n) (suc k) w (Empty ∷ cs) s e early l m = empty_behind first (o + 1) n k w cs s.1 e (omega arith) (omega arith) m
empty_behind first o (suc n) (suc k) w (Fixed f ∷ cs) s e early l m = empty_behind first (o + 1) n k w cs s e (omega arith) (omega arith) m
empty_behind first o (suc n) (suc k) w (Waiting v ∷ cs) s e early l m = empty_behind first (o + 1) n k w cs s.2 e (omega arith) (omega arith) m
empty_behind first o zero zero w (Empty ∷ cs) s e early l m = cc
empty_behind first o zero zero w (Fixed f ∷ cs) s e early l m = cc
empty_behind first o zero zero w (Waiting v ∷ cs) s e early l m = m
empty_behind first o zero (suc k) w (Empty ∷ cs) s e early l m = absurd (omega (arith, AllAfter-at first o k w cs s.0 e))
empty_behind first o zero (suc k) w (Fixed f ∷ cs) s e early l m = empty_behind first (o + 1) zero k w cs s e (omega arith) (omega arith) m
empty_behind first o zero (suc k) w (Waiting v ∷ cs) s e early l m = empty_behind first (o + 1) zero k w cs s.2 e (omega arith) (omega arith) m

-- for a flight without a slot there is an empty slot after each slot with a provisional flight
pub room-behind : (p : Period) (capacity : ℕ) (row : List Cell) (places : List (Option ℕ)) (x k : ℕ) (w : Planned) → IsKept p capacity row places → 0 < x → x ≤ capacity → place_at places x ≡ None → cell_at row k ≡ Waiting w → has_empty (drop (k + 1) row) ≡ true
room-behind p capacity row places x k w kept some most none e = cases (cases_lt k (slots_before_end p)) where
  cases : (k < slots_before_end p) ⊎ (slots_before_end p ≤ k) → has_empty (drop (k + 1) row) ≡ true
  cases (inl h) = room p capacity row places x (k + 1) kept some most none (omega arith)
  cases (inr h) =
      let early : first_slot p w.entry ≤ 0 + slots_before_end p = omega (arith, first_slot-early p w.entry (EntriesWithin-row p row kept.entries k w e)) in
      let behind = empty_behind (λ v. first_slot p v) 0 (slots_before_end p) k w row kept.settled e early h (room p capacity row places x (slots_before_end p) kept some most none (omega arith)) in
      rw add-one behind

-- a flight without a slot is frozen in slot `k`
pub row-put : (p : Period) (capacity x k : ℕ) (row : List Cell) (places : List (Option ℕ)) → IsKept p capacity row places → k < length row → ((f : ℕ) → cell_at row k ≡ Fixed f → ⊥) → ((w : Planned) → cell_at row k ≡ Waiting w → has_empty (drop (k + 1) row) ≡ true) → Fixes (λ e. first_slot p e) 0 x k row (take k row ++ push x (drop k row)) (waiting_of row)
row-put p capacity x k row places kept l open' room' = cases (cell_at row k) refl where
  cases : (c : Cell) → cell_at row k ≡ c → Fixes (λ e. first_slot p e) 0 x k row (take k row ++ push x (drop k row)) (waiting_of row)
  cases Empty e =
      subst (λ new. Fixes (λ v. first_slot p v) 0 x k row new (waiting_of row)) (push-empty row k x l e) (put-fixes (λ v. first_slot p v) 0 k k x row (omega arith) l e kept.settled)
  cases (Fixed f) e = absurd (open' f e)
  cases (Waiting w) e =
      let m : has_empty (drop (suc k) row) ≡ true = ap (λ i. has_empty (drop i row)) (sym (add-one k)) ∙ room' w e in
      let same : take k row ++ Fixed x ∷ displace w (drop (suc k) row) ≡ take k row ++ push x (drop k row) =
      ap (λ i. take k row ++ Fixed x ∷ displace w (drop i row)) (sym (add-one k)) ∙ sym (ap (λ cs. take k row ++ push x cs) (drop_at row k (Waiting w) l (sym e))) in
      subst (λ new. Fixes (λ v. first_slot p v) 0 x k row new (waiting_of row)) same (push-fixes (λ v. first_slot p v) (first_slot-monotone p) 0 k k x w row (omega arith) e m kept.settled)

length-push : (x : ℕ) (cs : List Cell) → length (push x cs) ≡ length cs
length-push x [] = refl
length-push x (Empty ∷ cs) = refl
length-push x (Fixed f ∷ cs) = refl
length-push x (Waiting w ∷ cs) = ap suc (length-displace w cs)

pub IsKept-put : (p : Period) (capacity x k : ℕ) (row new : List Cell) (places after : List (Option ℕ)) → IsKept p capacity row places → Fixes (λ e. first_slot p e) 0 x k row (take k row ++ push x (drop k row)) (waiting_of row) → new ≡ take k row ++ push x (drop k row) → IsTied after new → length after ≡ length places → IsKept p capacity new after
IsKept-put p capacity x k row new places after kept r is tied len =
    let all : AllWithin p (waiting_of (take k row ++ push x (drop k row))) = rw r.waiting kept.entries in
    record {
      settled = rw is r.settled;
      tied = tied;
      entries = rw is all;
      len = ap length is ∙ (length-parts k row _ (length-push x (drop k row)) ∙ kept.len);
      places_len = len ∙ kept.places_len;
      regular = kept.regular;
      some_flight = kept.some_flight;
      flights = kept.flights;
    }

pub lineup-put : (p : Period) (capacity x k : ℕ) (row new : List Cell) → Fixes (λ e. first_slot p e) 0 x k row (take k row ++ push x (drop k row)) (waiting_of row) → new ≡ take k row ++ push x (drop k row) → lineup_of p capacity new ≡ with_fixed (record { flight = x; slot = k }) (lineup_of p capacity row)
lineup-put p capacity x k row new r is =
    ap (lineup_of p capacity) is ∙ lineup-fixes p capacity x k row (take k row ++ push x (drop k row)) (waiting_of row) r

-- the same for a flight that is known by its number
pub IsKept-fixed : (p : Period) (capacity f k : ℕ) (row : List Cell) (places : List (Option ℕ)) → IsKept p capacity row places → Waits row f k → IsKept p capacity (set row k (Fixed f)) places
IsKept-fixed p capacity f k row places kept w =
    subst (λ g. IsKept p capacity (set row k (Fixed g)) places) w.flight (IsKept-fix p capacity k w.held row places kept w.stands)

pub lineup-fixed : (p : Period) (capacity f k : ℕ) (row : List Cell) (places : List (Option ℕ)) → IsKept p capacity row places → Waits row f k → lineup_of p capacity (set row k (Fixed f)) ≡ fixed_at (record { flight = f; slot = k }) (lineup_of p capacity row)
lineup-fixed p capacity f k row places kept w =
    subst (λ g. lineup_of p capacity (set row k (Fixed g)) ≡ fixed_at (record { flight = g; slot = k }) (lineup_of p capacity row)) w.flight (lineup-fix p capacity k w.held row places kept w.stands)

-- what a call that fixes a flight in slot `k` finds
pub record MayBePut (p : Period) (row : List Cell) (places : List (Option ℕ)) (x k : ℕ) : Type 0 where
  pub absent : place_at places x ≡ None
  pub number : x < length places
  pub within : k < length row
  pub not_fixed : (f : ℕ) → cell_at row k ≡ Fixed f → ⊥
  pub room : (w : Planned) → cell_at row k ≡ Waiting w → has_empty (drop (k + 1) row) ≡ true

pub may_be_put : (p : Period) (capacity : ℕ) (row : List Cell) (places : List (Option ℕ)) (x k : ℕ) (l : Lineup) → IsKept p capacity row places → lineup_of p capacity row ≡ l → held_slot l x ≡ None → 0 < x → x ≤ l.capacity → k < len_of l → IfSome (held_flight l k) (λ h. fixed_slot l h ≡ None) → MayBePut p row places x k
may_be_put p capacity row places x k l kept e none some most below free =
    let absent : place_at places x ≡ None =
    sym (held_slot-is p capacity capacity row places x kept) ∙ (ap (λ v. held_slot v x) e ∙ none) in
    let most' : x ≤ capacity = subst (λ v. x ≤ v.capacity) (sym e) most in
    let below' : k < slots_before_end p + capacity = subst (λ v. k < len_of v) (sym e) below in
    let free' : IfSome (held_flight (lineup_of p capacity row) k) (λ h. slot_in h (fixed_of 0 row) ≡ None) =
    subst (λ v. IfSome (held_flight v k) (λ h. fixed_slot v h ≡ None)) (sym e) free in
    let holder : held_flight (lineup_of p capacity row) k ≡ flight_at row k = held_flight-is p capacity capacity row places k kept in
    record {
      absent = absent;
      number = omega (arith, kept.places_len);
      within = omega (arith, kept.len);
      not_fixed = λ f h.
          (let stands : flight_at row k ≡ Some f = ap flight_of h in
          let none : slot_in f (fixed_of 0 row) ≡ None = rw (holder, stands) at free' in
          let found = fixed_slot-fixed places row f f k kept.tied ((kept.tied.each f k).1 stands) h in cc);
      room = λ w h. room-behind p capacity row places x k w kept some most' absent h;
    }
