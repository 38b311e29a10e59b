-- Flights that are let into an empty row one after the other, in the order.
use Rattle.std.proofs.Common.{◌≡◌, ℕ, zero, suc, ◌+◌, ◌<◌, ◌≤◌, ◌++◌, ◌⊎◌, inl, inr, max, true, cond, List, [], ◌∷◌, length, get_or, set, take, drop, Option, None, Some, refl, sym, ap, subst, ◌∙◌, arith}
use Rattle.std.specs.List.{AllByRecursion}
use Rattle.std.proofs.lemmas.Bool.{cases_eq}
use Rattle.std.proofs.lemmas.Bool.Decides.{nat_tests}
use Rattle.std.proofs.lemmas.List.{get_or-set_same, get_or-set_other, length-set, take_more}
use Rattle.flow_slots.specs.declared.cell.Planned.{Planned}
use Rattle.flow_slots.specs.declared.cell.Cell.{Cell}
use Rattle.flow_slots.specs.declared.cell.Cell.TheVariants.{Empty, Waiting, Fixed}
use Rattle.flow_slots.specs.Order.{stands_before, insert}
use Rattle.flow_slots.specs.Period.{Period, IsWithin, first_slot}
use Rattle.flow_slots.specs.Row.{waiting_of, fixed_of, flight_of, cell_at, flight_at, place_at, IsTied}
use Rattle.flow_slots.specs.Walk.{displace, passes}
use Rattle.flow_slots.specs.Lineup.{Lineup, IsKept, InOrder, NoneIs, WaitingApart, MayFill}
use Rattle.flow_slots.proofs.Following.{Passed, passed-earlier}
use Rattle.flow_slots.proofs.Kept.{insert-takes_in, IsKept-insert}
use Rattle.flow_slots.proofs.Periods.{first_slot-monotone}
use Rattle.flow_slots.proofs.Room.{room, first_slot-early}
use Rattle.flow_slots.proofs.Steps.{displace-empty, has_empty-within}
use Rattle.flow_slots.proofs.Tied.{IsTied-put}

-- a fact of all holds of those before the last and of the last
all-last : (P : Planned → Type 0) (xs : List Planned) (x : Planned) → AllByRecursion P (xs ++ x ∷ []) → AllByRecursion P xs × P x
all-last P [] x a = (tt, a.0)
all-last P (y ∷ xs) x a = (let r = all-last P xs x a.1 in ((a.0, r.0), r.1))

-- and of each
pub all-at : (P : Planned → Type 0) (xs : List Planned) (i : ℕ) (d : Planned) → i < length xs → AllByRecursion P xs → P (get_or xs i d)
all-at P [] i d l a = absurd (omega arith)
all-at P (x ∷ xs) zero d l a = a.0
all-at P (x ∷ xs) (suc i) d l a = all-at P xs i d (omega arith) a.1

-- those before a flight of the order precede it, and have other numbers
all_before : (ws : List Planned) (i : ℕ) (d : Planned) → i < length ws → InOrder ws → AllByRecursion (λ v. stands_before v (get_or ws i d) ≡ true) (take i ws)
all_before [] i d l o = absurd (omega arith)
all_before (w ∷ ws) zero d l o = tt
all_before (w ∷ ws) (suc i) d l o = (all-at (λ v. stands_before w v ≡ true) ws i d (omega arith) o.0, all_before ws i d (omega arith) o.1)

none_is : (ws : List Planned) (i : ℕ) (d : Planned) → i < length ws → WaitingApart [] ws → NoneIs (get_or ws i d).flight (take i ws)
none_is [] i d l a = absurd (omega arith)
none_is (w ∷ ws) zero d l a = tt
none_is (w ∷ ws) (suc i) d l a =
    ((λ e. all-at (λ v. v.flight ≡ w.flight → ⊥) ws i d (omega arith) a.1 (sym e)), none_is ws i d (omega arith) a.2)

-- a flight after all others is appended
insert-last : (x : Planned) (ws : List Planned) → AllByRecursion (λ v. stands_before v x ≡ true) ws → insert x ws ≡ ws ++ x ∷ []
insert-last x [] a = refl
insert-last x (w ∷ ws) a =
    ap (λ b. cond b (w ∷ insert x ws) (x ∷ w ∷ ws)) a.0 ∙ ap (λ v. w ∷ v) (insert-last x ws a.1)

later-entry : (v w : Planned) → stands_before v w ≡ true → v.entry ≤ w.entry
later-entry v w h = grind (arith, nat_tests)

-- The first flights wait in the row, and all slots from `next` on are empty. A flight that is after
-- them finds none empty from its first slot to `next`.
pub record Filling (p : Period) (capacity : ℕ) (ws : List Planned) (i next : ℕ) (row : List Cell) (places : List (Option ℕ)) : Type 0 where
  pub kept : IsKept p capacity row places
  pub waiting : waiting_of row ≡ take i ws
  pub fixed : fixed_of 0 row ≡ []
  pub empty : (j : ℕ) → next ≤ j → cell_at row j ≡ Empty
  pub packed : (x : Planned) (j : ℕ) → AllByRecursion (λ v. stands_before v x ≡ true) (take i ws) → first_slot p x.entry ≤ j → j < next → passes x (cell_at row j) ≡ true
  pub absent : (f : ℕ) → NoneIs f (take i ws) → place_at places f ≡ None

all_empty : (o j : ℕ) (cs : List Cell) → waiting_of cs ≡ [] → fixed_of o cs ≡ [] → cell_at cs j ≡ Empty
all_empty o j [] w f = refl
all_empty o zero (Empty ∷ cs) w f = refl
all_empty o (suc j) (Empty ∷ cs) w f = all_empty (o + 1) j cs w f
all_empty o j (Waiting v ∷ cs) w f = cc
all_empty o j (Fixed g ∷ cs) w f = cc

pub Filling-start : (p : Period) (capacity : ℕ) (ws : List Planned) (row : List Cell) (places : List (Option ℕ)) → IsKept p capacity row places → waiting_of row ≡ [] → fixed_of 0 row ≡ [] → Filling p capacity ws 0 0 row places
Filling-start p capacity ws row places kept w f =
    record {
      kept = kept;
      waiting = w;
      fixed = f;
      empty = λ j _. all_empty 0 j row w f;
      packed = λ x j _ _ h. absurd (omega (arith, h));
      absent = λ g _. none g (place_at places g) refl;
    }
  where
    none : (g : ℕ) (o : Option ℕ) → place_at places g ≡ o → o ≡ None
    none g None e = refl
    none g (Some k) e =
        let stands : flight_at row k ≡ Some g = (kept.tied.each g k).0 e in
        let empty : flight_at row k ≡ None = ap flight_of (all_empty 0 k row w f) in cc

-- what the next flight finds
pub record ComesNext (p : Period) (capacity : ℕ) (ws : List Planned) (i : ℕ) (x : Planned) : Type 0 where
  pub before : AllByRecursion (λ v. stands_before v x ≡ true) (take i ws)
  pub apart : NoneIs x.flight (take i ws)
  pub some : 0 < x.flight
  pub most : x.flight ≤ capacity
  pub within : IsWithin p x.entry
  pub more : take (i + 1) ws ≡ take i ws ++ x ∷ []

pub comes_next : (l : Lineup) (ws : List Planned) (i : ℕ) (d : Planned) → MayFill ws l → i < length ws → ComesNext l.period l.capacity ws i (get_or ws i d)
comes_next l ws i d may h =
    let number = all-at (λ w. (0 < w.flight) × (w.flight ≤ l.capacity)) ws i d h may.numbers in
    record {
      before = all_before ws i d h may.lined.in_order;
      apart = none_is ws i d h may.lined.waiting_apart;
      some = number.0;
      most = number.1;
      within = all-at (λ w. IsWithin l.period w.entry) ws i d h may.entries;
      more = take_more ws i d h;
    }

-- it passes the slots up to `k`, and `k` is a slot of the row
pub Filling-passed : (p : Period) (capacity : ℕ) (ws : List Planned) (i next k : ℕ) (row : List Cell) (places : List (Option ℕ)) (x : Planned) → Filling p capacity ws i next row places → ComesNext p capacity ws i x → k ≡ max (first_slot p x.entry) next → Passed row (first_slot p x.entry) x k
Filling-passed p capacity ws i next k row places x walk comes is =
    let from = first_slot p x.entry in
    let free = room p capacity row places x.flight from walk.kept comes.some comes.most (walk.absent x.flight comes.apart) (first_slot-early p x.entry comes.within) in
    passed-earlier row from from k x (omega (arith, is)) (λ j l m. walk.packed x j comes.before l (omega (arith, is, l, m))) (record { same = refl; room = free; reached = omega arith })

pub Filling-within : (p : Period) (capacity : ℕ) (ws : List Planned) (i next k : ℕ) (row : List Cell) (places : List (Option ℕ)) (x : Planned) → Filling p capacity ws i next row places → ComesNext p capacity ws i x → k ≡ max (first_slot p x.entry) next → k < length row
Filling-within p capacity ws i next k row places x walk comes is =
    has_empty-within row k (Filling-passed p capacity ws i next k row places x walk comes is).room

-- it takes slot `k`
pub Filling-step : (p : Period) (capacity : ℕ) (ws : List Planned) (i next k : ℕ) (row : List Cell) (places : List (Option ℕ)) (x : Planned) → Filling p capacity ws i next row places → ComesNext p capacity ws i x → k ≡ max (first_slot p x.entry) next → Filling p capacity ws (i + 1) (k + 1) (set row k (Waiting x)) (set places x.flight (Some k))
Filling-step p capacity ws i next k row places x walk comes is =
    let from = first_slot p x.entry in
    let new : List Cell = set row k (Waiting x) in
    let passed = Filling-passed p capacity ws i next k row places x walk comes is in
    let within : k < length row = has_empty-within row k passed.room in
    let free : cell_at row k ≡ Empty = walk.empty k (omega (arith, is)) in
    let absent : place_at places x.flight ≡ None = walk.absent x.flight comes.apart in
    let known : x.flight < length places = omega (arith, comes.most, walk.kept.places_len) in
    let room_there = room p capacity row places x.flight from walk.kept comes.some comes.most absent (first_slot-early p x.entry comes.within) in
    let written : new ≡ take from row ++ displace x (drop from row) = sym (displace-empty row k x within (sym free)) ∙ passed.same in
    let tied : IsTied (set places x.flight (Some k)) new = IsTied-put places row k x.flight (Waiting x) walk.kept.tied within comes.some known (ap flight_of free) absent refl in
    let r = insert-takes_in p capacity row places x walk.kept room_there in
    record {
      kept = IsKept-insert p capacity row new places (set places x.flight (Some k)) x walk.kept room_there comes.within written tied (length-set places x.flight (Some k));
      waiting = ap waiting_of written ∙ (r.waiting ∙ (ap (insert x) walk.waiting ∙ (insert-last x (take i ws) comes.before ∙ sym comes.more)));
      fixed = ap (fixed_of 0) written ∙ (r.fixed ∙ walk.fixed);
      empty = λ j h. get_or-set_other row k j (Waiting x) Empty (λ q. omega (arith, h, q)) ∙ walk.empty j (omega (arith, is, h));
      packed = λ y j before late h. behind y j (subst (AllByRecursion (λ v. stands_before v y ≡ true)) comes.more before) late h (cases_eq j k);
      absent = λ f none. away f (all-last (λ w. w.flight ≡ f → ⊥) (take i ws) x (subst (NoneIs f) comes.more none));
    }
  where
    behind : (y : Planned) (j : ℕ) → AllByRecursion (λ v. stands_before v y ≡ true) (take i ws ++ x ∷ []) → first_slot p y.entry ≤ j → j < k + 1 → (j ≡ k) ⊎ (j ≡ k → ⊥) → passes y (cell_at (set row k (Waiting x)) j) ≡ true
    behind y j before late h (inl q) =
        let all = all-last (λ v. stands_before v y ≡ true) (take i ws) x before in
        let within : k < length row = Filling-within p capacity ws i next k row places x walk comes is in
        ap (λ m. passes y (cell_at (set row k (Waiting x)) m)) q ∙ (ap (passes y) (get_or-set_same row k (Waiting x) Empty within) ∙ all.1)
    behind y j before late h (inr q) =
        let all = all-last (λ v. stands_before v y ≡ true) (take i ws) x before in
        let later : first_slot p x.entry ≤ first_slot p y.entry = first_slot-monotone p x.entry y.entry (later-entry x y all.1) in
        ap (passes y) (get_or-set_other row k j (Waiting x) Empty q) ∙ walk.packed y j all.0 late (below (omega (arith, later, late)) (cases_eq j k))
      where
        below : first_slot p x.entry ≤ j → (j ≡ k) ⊎ (j ≡ k → ⊥) → j < next
        below l (inl e) = absurd (q e)
        below l (inr e) = omega (arith, is, h, l, e)

    away : (f : ℕ) → NoneIs f (take i ws) × (x.flight ≡ f → ⊥) → place_at (set places x.flight (Some k)) f ≡ None
    away f all = get_or-set_other places x.flight f (Some k) None (λ e. all.1 (sym e)) ∙ walk.absent f all.0
