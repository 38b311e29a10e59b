-- Frozen slots as they are shown.
use Rattle.std.proofs.Common.{◌≡◌, ◌≢◌, ◌<◌, ◌+◌, ◌-◌, ◌∙◌, ◌++◌, ℕ, zero, suc, Bool, true, false, List, [], ◌∷◌, Option, None, Some, map, refl, ap, sym, subst, arith, eqb, cond}
use Rattle.std.specs.Prelude.{if◌then◌else◌, fold}
use Rattle.std.specs.List.{AllByRecursion}
use Rattle.std.specs.Option.{option_map, option_to_list}
use Rattle.std.proofs.lemmas.Bool.{eqb-true, eqb-false, eq-eqb, ne_eqb}
use Rattle.std.proofs.lemmas.List.Sums.{fold-append}
use Rattle.fpl_message.specs.declared.order.Spot.{Spot}
use Rattle.flow_plans.specs.Plans.{PlanView}
use Rattle.flow_plans.specs.Entries.{entry_at, take_off}
use Rattle.flow_slots.specs.Assignment.{Placed}
use Rattle.flow_slots.specs.Period.{slot_time, first_slot}
use Rattle.flow_slots.specs.Lineup.{Lineup, assigned, slot_in, flight_in, held_flight}
use Rattle.flow_slots.specs.LineupLaws.{IsSound, NoneTwice}
use Rattle.flow_slots.proofs.Served.{NoneTwice-assigned}
use Rattle.flow_regulations.specs.Regulations.{Regulation}
use Rattle.flow_regulations.specs.Advice.{delay_among, caused_by, advice}
use Rattle.flow_regulations.specs.Advice as by_advice
use Rattle.flow_view.specs.Shown.{slot_row_of, slot_before}
use Rattle.flow_view.specs.declared.delay.FlightDelay.{FlightDelay}
use Rattle.flow_view.specs.Openings.{OpeningView}
use Rattle.flow_view.specs.Delays.{row_delay, worse_flight, worse_by}
use Rattle.flow_traffic.specs.Traffic.{Traffic}

abbrev AllFlights : (ℕ → Type 0) → List Placed → Type 0
AllFlights P xs = AllByRecursion (λ a. P a.flight) xs

-- the flight that is found is one of theirs
flight-found : (P : ℕ → Type 0) (k f : ℕ) (xs : List Placed) → AllFlights P xs → flight_in k xs ≡ Some f → P f
flight-found P k f [] a e = absurd cc
flight-found P k f (x ∷ xs) a e = by (flight-found P k f xs a.1) (eqb x.slot k) e where
  by : (flight_in k xs ≡ Some f → P f) → (b : Bool) → cond b (Some x.flight) (flight_in k xs) ≡ Some f → P f
  by again true q = let same : x.flight ≡ f = cc in subst P same a.0
  by again false q = again q

-- the slot that is found is one of theirs
pub slot-found : (P : ℕ → Type 0) (f k : ℕ) (xs : List Placed) → AllByRecursion (λ a. P a.slot) xs → slot_in f xs ≡ Some k → P k
slot-found P f k [] a e = absurd cc
slot-found P f k (x ∷ xs) a e = by (slot-found P f k xs a.1) (eqb x.flight f) e where
  by : (slot_in f xs ≡ Some k → P k) → (b : Bool) → cond b (Some x.slot) (slot_in f xs) ≡ Some k → P k
  by again true q = let same : x.slot ≡ k = cc in subst P same a.0
  by again false q = again q

flights-other : (x : Placed) (xs : List Placed) → AllByRecursion (λ b. (b.flight ≢ x.flight) × (b.slot ≢ x.slot)) xs → AllFlights (λ n. n ≢ x.flight) xs
flights-other x [] a = tt
flights-other x (y ∷ ys) a = (a.0.0, flights-other x ys a.1)

slots-other : (x : Placed) (xs : List Placed) → AllByRecursion (λ b. (b.flight ≢ x.flight) × (b.slot ≢ x.slot)) xs → AllByRecursion (λ b. b.slot ≢ x.slot) xs
slots-other x [] a = tt
slots-other x (y ∷ ys) a = (a.0.1, slots-other x ys a.1)

-- if none is there twice, a flight that is found in a slot has that slot
pub slot-of-held : (k f : ℕ) (xs : List Placed) → NoneTwice xs → flight_in k xs ≡ Some f → slot_in f xs ≡ Some k
slot-of-held k f [] a e = absurd cc
slot-of-held k f (x ∷ xs) a e = by (slot-of-held k f xs a.1) (eqb x.slot k) refl e where
  by : (flight_in k xs ≡ Some f → slot_in f xs ≡ Some k) → (b : Bool) → eqb x.slot k ≡ b → cond b (Some x.flight) (flight_in k xs) ≡ Some f → cond (eqb x.flight f) (Some x.slot) (slot_in f xs) ≡ Some k
  by again true is q =
      let same : x.flight ≡ f = cc in
      ap (λ (b : Bool). cond b (Some x.slot) (slot_in f xs)) (eq-eqb x.flight f same) ∙ ap (λ n. Some n) (eqb-true x.slot k is)
  by again false is q =
      let other : f ≢ x.flight = flight-found (λ n. n ≢ x.flight) k f xs (flights-other x xs a.0) q in
      ap (λ (b : Bool). cond b (Some x.slot) (slot_in f xs)) (ne_eqb x.flight f (λ s. other (sym s))) ∙ again q

-- and the other way round
pub held-of-slot : (k f : ℕ) (xs : List Placed) → NoneTwice xs → slot_in f xs ≡ Some k → flight_in k xs ≡ Some f
held-of-slot k f [] a e = absurd cc
held-of-slot k f (x ∷ xs) a e = by (held-of-slot k f xs a.1) (eqb x.flight f) refl e where
  by : (slot_in f xs ≡ Some k → flight_in k xs ≡ Some f) → (b : Bool) → eqb x.flight f ≡ b → cond b (Some x.slot) (slot_in f xs) ≡ Some k → cond (eqb x.slot k) (Some x.flight) (flight_in k xs) ≡ Some f
  by again true is q =
      let same : x.slot ≡ k = cc in
      ap (λ (b : Bool). cond b (Some x.flight) (flight_in k xs)) (eq-eqb x.slot k same) ∙ ap (λ n. Some n) (eqb-true x.flight f is)
  by again false is q =
      let other : k ≢ x.slot = slot-found (λ n. n ≢ x.slot) f k xs (slots-other x xs a.0) q in
      ap (λ (b : Bool). cond b (Some x.flight) (flight_in k xs)) (ne_eqb x.slot k (λ s. other (sym s))) ∙ again q

-- a slot among the first is one of all
pub slot-append : (f k : ℕ) (xs ys : List Placed) → slot_in f xs ≡ Some k → slot_in f (xs ++ ys) ≡ Some k
slot-append f k [] ys e = absurd cc
slot-append f k (x ∷ xs) ys e = by (slot-append f k xs ys) (eqb x.flight f) e where
  by : (slot_in f xs ≡ Some k → slot_in f (xs ++ ys) ≡ Some k) → (b : Bool) → cond b (Some x.slot) (slot_in f xs) ≡ Some k → cond b (Some x.slot) (slot_in f (xs ++ ys)) ≡ Some k
  by again true q = q
  by again false q = again q

-- and no slot among all is none among the first
pub slot-none : (f : ℕ) (xs ys : List Placed) → slot_in f (xs ++ ys) ≡ None → slot_in f xs ≡ None
slot-none f [] ys e = refl
slot-none f (x ∷ xs) ys e = by (slot-none f xs ys) (eqb x.flight f) e where
  by : (slot_in f (xs ++ ys) ≡ None → slot_in f xs ≡ None) → (b : Bool) → cond b (Some x.slot) (slot_in f (xs ++ ys)) ≡ None → cond b (Some x.slot) (slot_in f xs) ≡ None
  by again true q = q
  by again false q = again q

pub none-twice : (l : Lineup) → IsSound l → NoneTwice (assigned l)
none-twice l sound =
    NoneTwice-assigned (λ e. first_slot l.period e) l.fixed l.waiting sound.lined.by_slot sound.lined.fixed_apart sound.lined.waiting_apart

module _ (taxi n : ℕ) (t : Traffic) (spot : Spot) (l : Lineup) (o : OpeningView) where
  -- the greatest delay of the flight of plan n in the rows of the first slots
  abbrev in-first : ℕ → Option FlightDelay
  in-first k = fold (worse_by n o) None (map (slot_row_of taxi t spot l) (slot_before k l))

  abbrev placed_at : ℕ → ℕ → Placed
  placed_at f k = record { flight = f; slot = k }

  abbrev by-slot : ℕ → Option FlightDelay → Option ℕ → Option FlightDelay
  by-slot k most None = most
  by-slot k most (Some f) = worse_by n o most (slot_row_of taxi t spot l (placed_at f k))

  mapped-append : (xs ys : List Placed) → map (slot_row_of taxi t spot l) (xs ++ ys) ≡ map (slot_row_of taxi t spot l) xs ++ map (slot_row_of taxi t spot l) ys
  mapped-append [] ys = refl
  mapped-append (x ∷ xs) ys = ap (λ rs. slot_row_of taxi t spot l x ∷ rs) (mapped-append xs ys)

  one-slot : (k : ℕ) → in-first (suc k) ≡ by-slot k (in-first k) (held_flight l k)
  one-slot k =
      ap (fold (worse_by n o) None) (mapped-append (slot_before k l) (option_to_list (option_map (λ f. placed_at f k) (held_flight l k))))
      ∙ (fold-append (worse_by n o) None (map (slot_row_of taxi t spot l) (slot_before k l)) (map (slot_row_of taxi t spot l) (option_to_list (option_map (λ f. placed_at f k) (held_flight l k))))
      ∙ by (held_flight l k))
    where
      by : (m : Option ℕ) → fold (worse_by n o) (in-first k) (map (slot_row_of taxi t spot l) (option_to_list (option_map (λ f. placed_at f k) m))) ≡ by-slot k (in-first k) m
      by None = refl
      by (Some f) = refl

  -- a slot that it doesn't hold changes nothing
  other-slot : (k : ℕ) (most : Option FlightDelay) (m : Option ℕ) → (m ≡ Some n → ⊥) → by-slot k most m ≡ most
  other-slot k most None ne = refl
  other-slot k most (Some f) ne =
      ap (λ (b : Bool). if b then worse_flight most (row_delay o (slot_row_of taxi t spot l (placed_at f k))) else most) (ne_eqb f n (λ e. ne (ap (λ m. Some m) e)))

  pub none-before : (k : ℕ) → ((j : ℕ) → j < k → held_flight l j ≡ Some n → ⊥) → in-first k ≡ None
  none-before zero ne = refl
  none-before (suc k) ne =
      one-slot k ∙ (other-slot k (in-first k) (held_flight l k) (λ e. ne k (omega arith) e) ∙ none-before k (λ j lt e. ne j (omega (arith, lt)) e))

  -- its own slot gives its delay
  own-slot : (k : ℕ) (m : Option ℕ) → m ≡ Some n → by-slot k None m ≡ Some (row_delay o (slot_row_of taxi t spot l (placed_at n k)))
  own-slot k m e =
      ap (by-slot k None) e
      ∙ ap (λ (b : Bool). if b then Some (row_delay o (slot_row_of taxi t spot l (placed_at n k))) else None) (eq-eqb n n refl)

  pub some-after : (s k : ℕ) → s < k → held_flight l s ≡ Some n → ((j : ℕ) → held_flight l j ≡ Some n → j ≡ s)
      → in-first k ≡ Some (row_delay o (slot_row_of taxi t spot l (placed_at n s)))
  some-after s zero lt here one = absurd (omega (arith, lt))
  some-after s (suc k) lt here one = by (λ less. some-after s k less here one) (eqb s k) refl where
    by : (s < k → in-first k ≡ Some (row_delay o (slot_row_of taxi t spot l (placed_at n s)))) → (b : Bool) → eqb s k ≡ b → in-first (suc k) ≡ Some (row_delay o (slot_row_of taxi t spot l (placed_at n s)))
    by again true is =
        let same : s ≡ k = eqb-true s k is in
        let before : in-first k ≡ None = none-before k (λ j less e. absurd (omega (arith, one j e, same, less))) in
        one-slot k ∙ (ap (λ (m : Option FlightDelay). by-slot k m (held_flight l k)) before
        ∙ (own-slot k (held_flight l k) (ap (held_flight l) (sym same) ∙ here)
        ∙ ap (λ j. Some (row_delay o (slot_row_of taxi t spot l (placed_at n j)))) (sym same)))
    by again false is =
        let ne : s ≡ k → ⊥ = eqb-false s k is in
        let less : s < k = omega (arith, lt, ne) in
        one-slot k ∙ (other-slot k (in-first k) (held_flight l k) (λ e. ne (sym (one k e))) ∙ again less)

-- ---- compared with the advice

-- a frozen slot gives the delay of the advice
advised-among : (taxi n k : ℕ) (p : PlanView) (r : Regulation) (fs : List Placed) → slot_in n fs ≡ Some k
    → delay_among taxi n p r fs ≡ option_map (λ e. slot_time r.period k - e) (entry_at taxi r.spot p)
advised-among taxi n k p r [] e = absurd cc
advised-among taxi n k p r (a ∷ fs) e = by (advised-among taxi n k p r fs) (eqb a.flight n) e where
  by : (slot_in n fs ≡ Some k → delay_among taxi n p r fs ≡ option_map (λ e. slot_time r.period k - e) (entry_at taxi r.spot p))
      → (b : Bool) → cond b (Some a.slot) (slot_in n fs) ≡ Some k
      → cond b (option_map (λ e. slot_time r.period a.slot - e) (entry_at taxi r.spot p)) (delay_among taxi n p r fs) ≡ option_map (λ e. slot_time r.period k - e) (entry_at taxi r.spot p)
  by again true q =
      let same : a.slot ≡ k = cc in ap (λ j. option_map (λ e. slot_time r.period j - e) (entry_at taxi r.spot p)) same
  by again false q = again q

none-among : (taxi n : ℕ) (p : PlanView) (r : Regulation) (fs : List Placed) → slot_in n fs ≡ None → delay_among taxi n p r fs ≡ None
none-among taxi n p r [] e = refl
none-among taxi n p r (a ∷ fs) e = by (none-among taxi n p r fs) (eqb a.flight n) e where
  by : (slot_in n fs ≡ None → delay_among taxi n p r fs ≡ None) → (b : Bool) → cond b (Some a.slot) (slot_in n fs) ≡ None
      → cond b (option_map (λ e. slot_time r.period a.slot - e) (entry_at taxi r.spot p)) (delay_among taxi n p r fs) ≡ None
  by again true q = absurd cc
  by again false q = again q

-- the advice in one regulation
pub one-advised : (taxi n : ℕ) (p : PlanView) (r : Regulation) (k e : ℕ) → slot_in n r.fixed ≡ Some k → entry_at taxi r.spot p ≡ Some e
    → advice taxi n p (r ∷ []) ≡ Some (record { ctot = take_off taxi p + (slot_time r.period k - e); regulation = r.id })
unfolding advice
one-advised taxi n p r k e is entry =
    let delay : delay_among taxi n p r r.fixed ≡ Some (slot_time r.period k - e)
    = advised-among taxi n k p r r.fixed is ∙ ap (λ o. option_map (λ m. slot_time r.period k - m) o) entry in
    ap (λ o. option_map (λ d. record { ctot = take_off taxi p + d.minutes; regulation = d.regulation }) (by_advice.worse (option_map (caused_by r) o) None)) delay

pub none-advised-in : (taxi n : ℕ) (p : PlanView) (r : Regulation) → slot_in n r.fixed ≡ None → advice taxi n p (r ∷ []) ≡ None
unfolding advice
none-advised-in taxi n p r is =
    ap (λ o. option_map (λ d. record { ctot = take_off taxi p + d.minutes; regulation = d.regulation }) (by_advice.worse (option_map (caused_by r) o) None)) (none-among taxi n p r r.fixed is)
