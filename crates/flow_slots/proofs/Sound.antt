-- What every sound lineup has of its fresh assignment, and that the changes of a slot list leave a
-- lineup sound.
use Rattle.std.proofs.Common.{◌≡◌, ◌≢◌, ℕ, suc, ◌+◌, ◌<◌, ◌≤◌, ◌⊎◌, inl, inr, ◌||◌, ◌↔◌, true, false, eqb, List, [], ◌∷◌, length, Option, None, Some, refl, sym, ap, subst, ◌∙◌, arith}
use Rattle.std.specs.List.{AllByRecursion, IsDistinct, list_any}
use Rattle.std.specs.Option.{is_some, IsSome, IsSomeAnd}
use Rattle.std.proofs.Math.ListN.{length-append}
use Rattle.std.proofs.lemmas.Bool.{ne_eqb, eqb-true, or_cases, or_left, or_right}
use Rattle.std.proofs.lemmas.Map.Steps.{length-le_from_distinct_below}
use Rattle.flow_slots.specs.declared.cell.Planned.{Planned}
use Rattle.flow_slots.specs.Period.{IsWithin, first_slot, slot_time, slots_before_end}
use Rattle.flow_slots.specs.Order.{stands_before}
use Rattle.flow_slots.specs.Assignment.{Placed, is_in, greedy, slots}
use Rattle.flow_slots.specs.Delay.{Rise, waiting_slots}
use Rattle.flow_slots.specs.Lineup.{Lineup, IsLineup, len_of, assigned, slot_in, held_slot, held_flight, fixed_slot, waiting_entry}
use Rattle.flow_slots.specs.LineupLaws.{IsNumber, IsSound, NoneTwice, Waits, GoesFirst, IsNextFree}
use Rattle.flow_slots.proofs.Held.{first_of, slot_in-append}
use Rattle.flow_slots.proofs.Optimal.{first_slot-least}
use Rattle.flow_slots.proofs.Periods.{first_slot-monotone, first_slot-first, slot_time-later}
use Rattle.flow_slots.proofs.Room.{first_slot-early}
use Rattle.flow_slots.proofs.Served.{In, all-in, in-all, in-left, in-right, in-either, pair, planned, slot_in-in, flight_in-in, entry_in-in, in-slot_in, in-flight_in, in-entry_in, waiting_not_fixed, NoneTwice-fixed, NoneTwice-assigned, greedy-serves, greedy-found, slots-holds, greedy-from, Earlier, greedy-gap, greedy-rise, greedy-order, greedy-near, length-greedy, length-slots}

abbrev pub served : Lineup → List Placed
served l = greedy (λ e. first_slot l.period e) (slots l.fixed) l.waiting

-- one slot a flight, one flight a slot
pub none_twice : (l : Lineup) → IsLineup l → NoneTwice (assigned l)
none_twice l i =
    NoneTwice-assigned (λ e. first_slot l.period e) l.fixed l.waiting i.by_slot i.fixed_apart i.waiting_apart

pub one_each : (l : Lineup) → IsLineup l → (flight k : ℕ) → (held_slot l flight ≡ Some k) ↔ (held_flight l k ≡ Some flight)
one_each l i flight k =
    let n = none_twice l i in
    ((λ e. in-flight_in (pair flight k) (assigned l) n (slot_in-in flight k (assigned l) e)), (λ e. in-slot_in (pair flight k) (assigned l) n (flight_in-in flight k (assigned l) e)))

is_some-first_of : (a b : Option ℕ) → is_some (first_of a b) ≡ (is_some a || is_some b)
is_some-first_of None b = refl
is_some-first_of (Some x) b = refl

pub is_some-held : (l : Lineup) (f : ℕ) → is_some (held_slot l f) ≡ (is_some (fixed_slot l f) || is_some (waiting_entry l f))
is_some-held l f =
    ap is_some (slot_in-append f l.fixed (served l)) ∙ (is_some-first_of (slot_in f l.fixed) (slot_in f (served l)) ∙ ap (λ b. is_some (slot_in f l.fixed) || b) (greedy-found (λ e. first_slot l.period e) f (slots l.fixed) l.waiting))

pub all_held : (l : Lineup) (f : ℕ) → IsSome (held_slot l f) ↔ (IsSome (fixed_slot l f) ⊎ IsSome (waiting_entry l f))
all_held l f = (
  (λ h. or_cases (is_some (fixed_slot l f)) (is_some (waiting_entry l f)) (sym (is_some-held l f) ∙ h)),
  (λ h. is_some-held l f ∙ either h),
) where
  either : IsSome (fixed_slot l f) ⊎ IsSome (waiting_entry l f) → (is_some (fixed_slot l f) || is_some (waiting_entry l f)) ≡ true
  either (inl e) = or_left (is_some (fixed_slot l f)) (is_some (waiting_entry l f)) e
  either (inr e) = or_right (is_some (fixed_slot l f)) (is_some (waiting_entry l f)) e

pub fixed_held : (l : Lineup) (f k : ℕ) → fixed_slot l f ≡ Some k → held_slot l f ≡ Some k
fixed_held l f k e = slot_in-append f l.fixed (served l) ∙ ap (λ o. first_of o (slot_in f (served l))) e

-- a provisional flight's pair is one of those that are served
waiting_served : (l : Lineup) (w : Planned) (k : ℕ) → IsLineup l → Waits l w → held_slot l w.flight ≡ Some k → In (pair w.flight k) (served l)
waiting_served l w k i e h = cases (in-either (pair w.flight k) l.fixed (served l) (slot_in-in w.flight k (assigned l) h)) where
  one : In w l.waiting
  one = entry_in-in w.flight w.entry l.waiting e

  cases : In (pair w.flight k) l.fixed ⊎ In (pair w.flight k) (served l) → In (pair w.flight k) (served l)
  cases (inl j) = absurd (waiting_not_fixed l.fixed l.waiting w (pair w.flight k) i.waiting_apart one j refl)
  cases (inr j) = j

-- slots rise in the order
pub rise : (l : Lineup) → IsLineup l → Rise (waiting_slots l)
rise l i =
    greedy-rise (λ e. first_slot l.period e) (first_slot-monotone l.period) (slots l.fixed) l.waiting i.in_order

pub in_order : (l : Lineup) (v w : Planned) (j k : ℕ) → IsLineup l → Waits l v → Waits l w → stands_before v w ≡ true → held_slot l v.flight ≡ Some j → held_slot l w.flight ≡ Some k → j < k
in_order l v w j k i a b s p q =
    greedy-order (λ e. first_slot l.period e) (first_slot-monotone l.period) l.fixed (slots l.fixed) l.waiting v w j k i.in_order i.waiting_apart (entry_in-in v.flight v.entry l.waiting a) (entry_in-in w.flight w.entry l.waiting b) s (waiting_served l v j i a p) (waiting_served l w k i b q)

pub fixed_only : (l : Lineup) (f k : ℕ) → IsLineup l → In (pair f k) l.fixed → fixed_slot l f ≡ Some k
fixed_only l f k i one = in-slot_in (pair f k) l.fixed (NoneTwice-fixed l.fixed i.by_slot i.fixed_apart) one

-- each has the next free slot
pub next_free : (l : Lineup) (w : Planned) (k : ℕ) → IsSound l → Waits l w → held_slot l w.flight ≡ Some k → IsNextFree l w k
next_free l w k s e h = record { not_before = omega (arith, late, firsts.0); no_gap = gap } where
  one : In w l.waiting
  one = entry_in-in w.flight w.entry l.waiting e

  holds : In (pair w.flight k) (served l)
  holds = waiting_served l w k s.lined e h

  within : IsWithin l.period w.entry
  within = all-in (λ v. IsWithin l.period v.entry) l.waiting w s.entries one

  firsts : (w.entry ≤ slot_time l.period (first_slot l.period w.entry)) × ((j : ℕ) → j < first_slot l.period w.entry → slot_time l.period j < w.entry)
  firsts = first_slot-first l.period w.entry s.regular within.0

  from : first_slot l.period w.entry ≤ k
  from = greedy-from (λ v. first_slot l.period v) l.fixed (slots l.fixed) l.waiting w k s.lined.waiting_apart one holds

  late : slot_time l.period (first_slot l.period w.entry) ≤ slot_time l.period k
  late = slot_time-later l.period (first_slot l.period w.entry) k s.regular from

  goes : (j g : ℕ) → held_flight l j ≡ Some g → GoesFirst l w g → IsSomeAnd (held_flight l j) (λ flight. GoesFirst l w flight)
  goes j g is first = subst (λ o. IsSomeAnd o (λ flight. GoesFirst l w flight)) (sym is) first

  cases : (j : ℕ) → (is_in j (slots l.fixed) ≡ true) ⊎ Earlier (λ v. first_slot l.period v) (slots l.fixed) l.waiting w j → IsSomeAnd (held_flight l j) (λ flight. GoesFirst l w flight)
  cases j (inl q) =
      let r = slots-holds j l.fixed q in
      let held = in-flight_in (pair r.flight j) (assigned l) (none_twice l s.lined) (in-left (pair r.flight j) l.fixed (served l) r.one) in
      let keeps : fixed_slot l r.flight ≡ Some j = fixed_only l r.flight j s.lined r.one in
      goes j r.flight held (inl (ap is_some keeps))
  cases j (inr r) =
      let held = in-flight_in (pair r.waits.flight j) (assigned l) (none_twice l s.lined) (in-right (pair r.waits.flight j) l.fixed (served l) r.holds) in
      let entry : waiting_entry l r.waits.flight ≡ Some r.waits.entry = in-entry_in l.fixed r.waits l.waiting s.lined.waiting_apart r.one in
      goes j r.waits.flight held (inr (subst (λ o. IsSomeAnd o (λ t. stands_before (planned t r.waits.flight) w ≡ true)) (sym entry) r.before))

  gap : (j : ℕ) → w.entry ≤ slot_time l.period j → j < k → IsSomeAnd (held_flight l j) (λ flight. GoesFirst l w flight)
  gap j t m =
      cases j (greedy-gap (λ v. first_slot l.period v) l.fixed (slots l.fixed) l.waiting w k j s.lined.in_order s.lined.waiting_apart one holds (first_slot-least l.period w.entry j s.regular within.0 t) m)

-- there are no more flights than numbers
abbrev flights : List Placed → List ℕ
flights [] = []
flights (a ∷ others) = a.flight ∷ flights others

length-flights : (xs : List Placed) → length (flights xs) ≡ length xs
length-flights [] = refl
length-flights (x ∷ xs) = ap suc (length-flights xs)

all-flights : (P : ℕ → Type 0) (xs : List Placed) → ((a : Placed) → In a xs → P a.flight) → AllByRecursion P (flights xs)
all-flights P [] h = tt
all-flights P (x ∷ xs) h = (h x (inl refl), all-flights P xs (λ a i. h a (inr i)))

distinct-flights : (xs : List Placed) → NoneTwice xs → IsDistinct eqb (flights xs)
unfolding IsDistinct
distinct-flights [] n = tt
distinct-flights (x ∷ xs) n =
    (all-flights (λ f. eqb x.flight f ≡ false) xs (λ a i. ne_eqb x.flight a.flight (λ q. (all-in (λ b. (b.flight ≢ x.flight) × (b.slot ≢ x.slot)) xs a n.0 i).0 (sym q))), distinct-flights xs n.1)

distinct-more : (xs : List Placed) → ((a : Placed) → In a xs → 0 < a.flight) → IsDistinct eqb (flights xs) → IsDistinct eqb (0 ∷ flights xs)
unfolding IsDistinct
distinct-more xs some d = (all-flights (λ f. eqb 0 f ≡ false) xs (λ a i. zero-not a.flight (some a i)), d) where
  zero-not : (f : ℕ) → 0 < f → eqb 0 f ≡ false
  zero-not f h = ne_eqb 0 f (λ q. omega arith)

numbers-below : (n q : ℕ) (xs : List Placed) → ((a : Placed) → In a xs → a.flight ≤ n) → list_any (eqb q) (flights xs) ≡ true → q < n + 1
numbers-below n q [] h e = cc
numbers-below n q (x ∷ xs) h e =
    cases (numbers-below n q xs (λ a i. h a (inr i))) (or_cases (eqb q x.flight) (list_any (eqb q) (flights xs)) e) where
      cases : (list_any (eqb q) (flights xs) ≡ true → q < n + 1) → (eqb q x.flight ≡ true) ⊎ (list_any (eqb q) (flights xs) ≡ true) → q < n + 1
      cases again (inl r) = omega (arith, eqb-true q x.flight r, h x (inl refl))
      cases again (inr r) = again r

numbered : (l : Lineup) (a : Placed) → IsSound l → In a (assigned l) → IsNumber l a.flight
numbered l a s i = cases (in-either a l.fixed (served l) i) where
  cases : In a l.fixed ⊎ In a (served l) → IsNumber l a.flight
  cases (inl j) = all-in (λ b. IsNumber l b.flight) l.fixed a s.fixed_numbers j
  cases (inr j) =
      let r = greedy-serves (λ e. first_slot l.period e) (slots l.fixed) l.waiting a j in
      subst (IsNumber l) r.flight (all-in (λ w. IsNumber l w.flight) l.waiting r.waits s.waiting_numbers r.one)

few : (l : Lineup) → IsSound l → length (assigned l) ≤ l.capacity
few l s =
    let some = distinct-more (assigned l) (λ a i. (numbered l a s i).0) (distinct-flights (assigned l) (none_twice l s.lined)) in
    let most = length-le_from_distinct_below (0 ∷ flights (assigned l)) (l.capacity + 1) some (λ q h. below q (or_cases (eqb q 0) (list_any (eqb q) (flights (assigned l))) h)) in
    omega (arith, most, length-flights (assigned l)) where
      below : (q : ℕ) → (eqb q 0 ≡ true) ⊎ (list_any (eqb q) (flights (assigned l)) ≡ true) → q < l.capacity + 1
      below q (inl e) = omega (arith, eqb-true q 0 e)
      below q (inr e) = numbers-below l.capacity q (assigned l) (λ a i. (numbered l a s i).1) e

-- each slot that is held is one of the list
pub held_within : (l : Lineup) (f k : ℕ) → IsSound l → held_slot l f ≡ Some k → k < len_of l
held_within l f k s h = cases (in-either (pair f k) l.fixed (served l) (slot_in-in f k (assigned l) h)) where
  early : AllByRecursion (λ w. first_slot l.period w.entry ≤ slots_before_end l.period) l.waiting
  early = in-all (λ w. first_slot l.period w.entry ≤ slots_before_end l.period) l.waiting (λ w i. first_slot-early l.period w.entry (all-in (λ v. IsWithin l.period v.entry) l.waiting w s.entries i))

  cases : In (pair f k) l.fixed ⊎ In (pair f k) (served l) → k < len_of l
  cases (inl i) = all-in (λ a. a.slot < len_of l) l.fixed (pair f k) s.fixed_slots i
  cases (inr i) =
      let near : k < slots_before_end l.period + length (slots l.fixed) + length l.waiting = greedy-near (λ e. first_slot l.period e) (slots_before_end l.period) (slots l.fixed) l.waiting (pair f k) early i in
      omega (arith, near, few l s, length-append l.fixed (served l), length-slots l.fixed, length-greedy (λ e. first_slot l.period e) (slots l.fixed) l.waiting)

pub held_number : (l : Lineup) (f k : ℕ) → IsSound l → held_slot l f ≡ Some k → IsNumber l f
held_number l f k s h = numbered l (pair f k) s (slot_in-in f k (assigned l) h)
