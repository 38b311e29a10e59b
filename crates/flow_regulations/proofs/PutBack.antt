-- The state of a flight in a slot list is restored.
use Rattle.std.proofs.Common.{◌≡◌, ℕ, zero, suc, ◌+◌, ◌<◌, ◌≤◌, ◌++◌, Bool, true, false, not, cond, eqb, List, [], ◌∷◌, length, map, take, drop, get_or, Option, Some, None, refl, sym, ap, subst, ◌∙◌, arith}
use Rattle.std.proofs.lemmas.List.{take_all, take_more, take_more_set, drop-set-lt, get_or-drop, length-map}
use Rattle.std.proofs.lemmas.Grind.{drop_more_same}
use Rattle.std.specs.Prelude.{IsSome, IfSome, slice_set}
use Rattle.std.specs.List.{AllByRecursion}
use Rattle.std.specs.Option.{option_map_or}
use Rattle.std.proofs.lemmas.Bool.{eqb-false, ne_eqb}
use Rattle.flow_slots.specs.declared.cell.Planned.{Planned}
use Rattle.flow_slots.specs.Period.{IsWithin, first_slot}
use Rattle.flow_slots.specs.Order.{without}
use Rattle.flow_slots.specs.Assignment.{Placed, first_free, greedy, slots}
use Rattle.flow_slots.specs.Lineup.{Lineup, IsLineup, len_of, NoneIs, NoneFixed, BySlot, WaitingApart, slot_in, flight_in, held_flight, fixed_slot, entry_in, waiting_entry, without_fixed, without_flight}
use Rattle.flow_slots.proofs.TakenBack.{removed-inserted, removed-put_fixed}
use Rattle.flow_regulations.specs.declared.slot_state.NotedPlace.{NotedPlace}
use Rattle.flow_regulations.specs.declared.slot_state.Place.{Place}
use Rattle.flow_regulations.specs.declared.slot_state.Place.TheVariants as place
use Rattle.flow_regulations.specs.Listing.{RegulationView, with_lineup, without_in, HaveCapacity}
use Rattle.flow_regulations.specs.SlotStates.{stood, place_at, IsPlaceOf, ArePlaces}
use Rattle.flow_regulations.proofs.FixedOnes.{slot_in-none, without_fixed-none}
use Rattle.flow_regulations.proofs.Looks.{slot_in-before}
use Rattle.flow_regulations.proofs.Standing.{none-slot}
use Rattle.flow_regulations.proofs.Waiting.{without-none}

-- a flight that has neither a provisional nor a frozen slot is none of them
entry-none : (f : ℕ) (ws : List Planned) → entry_in f ws ≡ None → NoneIs f ws
entry-none f [] e = tt
entry-none f (w ∷ ws) e = cases (entry-none f ws) (eqb w.flight f) refl e where
  cases : (entry_in f ws ≡ None → NoneIs f ws) → (b : Bool) → eqb w.flight f ≡ b → cond b (Some w.entry) (entry_in f ws) ≡ None → NoneIs f (w ∷ ws)
  cases again true q h = absurd cc
  cases again false q h = (eqb-false w.flight f q, again h)

out-already : (f : ℕ) (l : Lineup) → fixed_slot l f ≡ None → waiting_entry l f ≡ None → without_flight f l ≡ l
out-already f l a b =
    ap (λ ws. let m : Lineup = record { period = l.period; capacity = l.capacity; waiting = ws; fixed = without_fixed f l.fixed } in m) (without-none f l.waiting (entry-none f l.waiting b))
    ∙ ap (λ fs. let m : Lineup = record { period = l.period; capacity = l.capacity; waiting = l.waiting; fixed = fs } in m) (without_fixed-none f l.fixed (slot_in-none f l.fixed a))

-- two slot lists in which a flight, and the others too, have the same state are the same
pub same-place : (f : ℕ) (p : Place) (l m : RegulationView) → IsPlaceOf f p l → IsPlaceOf f p m → without_in f l ≡ without_in f m → l ≡ m
same-place f p l m a b e =
    let s : RegulationView → RegulationView = λ v. with_lineup (stood p f v.lineup) v in
    let back : (v : RegulationView) → IsPlaceOf f p v → s (without_in f v) ≡ v = λ v h. ap (λ u. with_lineup u v) h.back in
    sym (back l a) ∙ (ap s e ∙ back m b)

pub stood-there : (f : ℕ) (p : Place) (l t m before : RegulationView) → IsPlaceOf f p before → without_in f l ≡ without_in f before → t ≡ without_in f l → m ≡ with_lineup (stood p f t.lineup) t → m ≡ before
stood-there f p l t m before b e out made =
    made ∙ (ap (λ v. with_lineup (stood p f v.lineup) v) (out ∙ e) ∙ ap (λ u. with_lineup u before) b.back)

-- no other fixed flight has its slot
slots-later : (k f : ℕ) (xs : List Placed) → AllByRecursion (λ b. k < b.slot) xs → flight_in k (without_fixed f xs) ≡ None
slots-later k f [] h = refl
slots-later k f (x ∷ xs) h = cases (slots-later k f xs h.1) (not (eqb x.flight f)) where
  cases : flight_in k (without_fixed f xs) ≡ None → (b : Bool) → flight_in k (cond b (x ∷ without_fixed f xs) (without_fixed f xs)) ≡ None
  cases again true = ap (λ b. cond b (Some x.flight) (flight_in k (without_fixed f xs))) (ne_eqb x.slot k (λ e. omega (arith, h.0, e))) ∙ again
  cases again false = again

slot-later : (k f j : ℕ) (xs : List Placed) → AllByRecursion (λ b. k < b.slot) xs → slot_in f xs ≡ Some j → k < j
slot-later k f j [] h e = absurd cc
slot-later k f j (x ∷ xs) h e = cases (slot-later k f j xs h.1) (eqb x.flight f) e where
  cases : (slot_in f xs ≡ Some j → k < j) → (b : Bool) → cond b (Some x.slot) (slot_in f xs) ≡ Some j → k < j
  cases again true q = (let same : x.slot ≡ j = cc in omega (arith, h.0, same))
  cases again false q = again q

slot-free : (f k : ℕ) (xs : List Placed) → BySlot xs → slot_in f xs ≡ Some k → flight_in k (without_fixed f xs) ≡ None
slot-free f k [] s e = refl
slot-free f k (x ∷ xs) s e = cases (slot-free f k xs s.1) (eqb x.flight f) e where
  cases : (slot_in f xs ≡ Some k → flight_in k (without_fixed f xs) ≡ None) → (b : Bool) → cond b (Some x.slot) (slot_in f xs) ≡ Some k → flight_in k (cond (not b) (x ∷ without_fixed f xs) (without_fixed f xs)) ≡ None
  cases again true q =
      let same : x.slot ≡ k = cc in
      let L : ℕ → Type 0 = λ j. AllByRecursion (λ b. j < b.slot) xs in
      slots-later k f xs (subst L same s.0)
  cases again false q = ap (λ b. cond b (Some x.flight) (flight_in k (without_fixed f xs))) (ne_eqb x.slot k (λ j. (let later = slot-later x.slot f k xs s.0 q in omega (arith, later, j)))) ∙ again q

flight-after : (k : ℕ) (xs ys : List Placed) → flight_in k xs ≡ None → flight_in k (xs ++ ys) ≡ flight_in k ys
flight-after k [] ys e = refl
flight-after k (x ∷ xs) ys e = cases (flight-after k xs ys) (eqb x.slot k) e where
  cases : (flight_in k xs ≡ None → flight_in k (xs ++ ys) ≡ flight_in k ys) → (b : Bool) → cond b (Some x.flight) (flight_in k xs) ≡ None → cond b (Some x.flight) (flight_in k (xs ++ ys)) ≡ flight_in k ys
  cases again true q = absurd cc
  cases again false q = again q

-- a flight of the fresh assignment has a provisional slot
holder-waits : (k : ℕ) (first : ℕ → ℕ) (taken : List ℕ) (fixed : List Placed) (ws : List Planned) → AllByRecursion (λ w. slot_in w.flight fixed ≡ None) ws → IfSome (flight_in k (greedy first taken ws)) (λ holder. slot_in holder fixed ≡ None)
holder-waits k first taken fixed [] h = tt
holder-waits k first taken fixed (w ∷ ws) h =
    cases (holder-waits k first (first_free taken (first w.entry) ∷ taken) fixed ws h.1) (eqb (first_free taken (first w.entry)) k)
  where
    cases : IfSome (flight_in k (greedy first (first_free taken (first w.entry) ∷ taken) ws)) (λ holder. slot_in holder fixed ≡ None) → (b : Bool)
        → IfSome (cond b (Some w.flight) (flight_in k (greedy first (first_free taken (first w.entry) ∷ taken) ws))) (λ holder. slot_in holder fixed ≡ None)
    cases again true = h.0
    cases again false = again

none-less : (g f : ℕ) (xs : List Placed) → NoneFixed g xs → NoneFixed g (without_fixed f xs)
none-less g f [] h = tt
none-less g f (x ∷ xs) h = cases (none-less g f xs h.1) (not (eqb x.flight f)) where
  cases : NoneFixed g (without_fixed f xs) → (b : Bool) → NoneFixed g (cond b (x ∷ without_fixed f xs) (without_fixed f xs))
  cases again true = (h.0, again)
  cases again false = again

waiting-unfixed : (f : ℕ) (fixed : List Placed) (ws : List Planned) → WaitingApart fixed ws → AllByRecursion (λ w. slot_in w.flight (without_fixed f fixed) ≡ None) (without f ws)
waiting-unfixed f fixed [] a = tt
waiting-unfixed f fixed (w ∷ ws) a = cases (waiting-unfixed f fixed ws a.2) (not (eqb w.flight f)) where
  cases : AllByRecursion (λ v. slot_in v.flight (without_fixed f fixed) ≡ None) (without f ws) → (b : Bool) → AllByRecursion (λ v. slot_in v.flight (without_fixed f fixed) ≡ None) (cond b (w ∷ without f ws) (without f ws))
  cases again true = (none-slot w.flight (without_fixed f fixed) (none-less w.flight f fixed a.0), again)
  cases again false = again

-- a slot from which a flight was removed is open
open-there : (f k : ℕ) (l : Lineup) → IsLineup l → fixed_slot l f ≡ Some k → IfSome (held_flight (without_flight f l) k) (λ holder. fixed_slot (without_flight f l) holder ≡ None)
open-there f k l lined e =
    let fs = without_fixed f l.fixed in
    let ws = without f l.waiting in
    let H : Option ℕ → Type 0 = λ o. IfSome o (λ holder. slot_in holder fs ≡ None) in
    subst H (sym (flight-after k fs _ (slot-free f k l.fixed lined.by_slot e))) (holder-waits k (λ e. first_slot l.period e) (slots fs) fs ws (waiting-unfixed f l.fixed l.waiting lined.waiting_apart))

-- the state of a flight in a slot list
abbrev place-by : Option ℕ → Option ℕ → Place
place-by slot entry = option_map_or (λ slot. place.Fixed slot) slot (option_map_or (λ entry. place.Waiting entry) entry place.Absent)

pub stands-fixed : (f k : ℕ) (l : RegulationView) → fixed_slot l.lineup f ≡ Some k → IsLineup l.lineup → k < len_of l.lineup → IsPlaceOf f (place.Fixed k) l
stands-fixed f k l e lined below = record {
  is = sym (ap (λ o. place-by o (waiting_entry l.lineup f)) e);
  may = (below, open-there f k l.lineup lined e);
  back = removed-put_fixed l.lineup (record { flight = f; slot = k }) lined (slot_in-before f k l.lineup.fixed _ e) (let S : Option ℕ → Type 0 = λ o. IsSome o in subst S (sym e) refl);
}

pub stands-waiting : (f t : ℕ) (l : RegulationView) → fixed_slot l.lineup f ≡ None → waiting_entry l.lineup f ≡ Some t → IsLineup l.lineup → IsWithin l.lineup.period t → IsPlaceOf f (place.Waiting t) l
stands-waiting f t l a e lined within = record {
  is = sym (ap (λ o. place-by o (waiting_entry l.lineup f)) a ∙ ap (place-by None) e);
  may = within;
  back = removed-inserted l.lineup (record { entry = t; flight = f }) lined e;
}

pub stands-nowhere : (f : ℕ) (l : RegulationView) → fixed_slot l.lineup f ≡ None → waiting_entry l.lineup f ≡ None → IsPlaceOf f place.Absent l
stands-nowhere f l a e = record {
  is = sym (ap (λ o. place-by o (waiting_entry l.lineup f)) a ∙ ap (place-by None) e);
  may = tt;
  back = out-already f l.lineup a e;
}

-- what the flight's regulation is after it was put back
abbrev pub IsBack : ℕ → Place → RegulationView → RegulationView → Type 0
IsBack f p o n = (before : RegulationView) → IsPlaceOf f p before → without_in f o ≡ without_in f before → n ≡ before

pub map-at : (f i : ℕ) (os bs : List RegulationView) (d e : RegulationView) → i < length os → map (without_in f) os ≡ map (without_in f) bs → without_in f (get_or os i d) ≡ without_in f (get_or bs i e)
map-at f i [] bs d e h q = absurd (omega arith)
map-at f i (o ∷ os) [] d e h q = absurd cc
map-at f zero (o ∷ os) (b ∷ bs) d e h q = cc
map-at f (suc i) (o ∷ os) (b ∷ bs) d e h q = (let rest : map (without_in f) os ≡ map (without_in f) bs = cc in map-at f i os bs d e (omega (arith, h)) rest)

pub same-count : (f : ℕ) (os bs : List RegulationView) → map (without_in f) os ≡ map (without_in f) bs → length os ≡ length bs
same-count f os bs q = sym (length-map os (without_in f)) ∙ (ap length q ∙ length-map bs (without_in f))

-- in the first regulations the flight was put back, and the others are unchanged
pub record AreBack (f i : ℕ) (ps : List NotedPlace) (os ns : List RegulationView) : Type 0 where
  pub first : (before : List RegulationView) → ArePlaces f ps before → map (without_in f) os ≡ map (without_in f) before → take i ns ≡ take i before
  pub rest : drop i ns ≡ drop i os

pub rest-at : (i : ℕ) (os ns : List RegulationView) (d : RegulationView) → drop i ns ≡ drop i os → get_or ns i d ≡ get_or os i d
rest-at i os ns d e =
    let at : (ls : List RegulationView) → get_or (drop i ls) 0 d ≡ get_or ls i d = λ ls. (let same : i + 0 ≡ i = omega arith in get_or-drop i ls 0 d ∙ ap (λ k. get_or ls k d) same) in
    sym (at ns) ∙ ap (λ ls. get_or ls 0 d) e ∙ at os

pub back-more : (f i : ℕ) (ps : List NotedPlace) (os ns : List RegulationView) (d z : RegulationView) → i < length ns → length ns ≡ length os → IsBack f (place_at ps i) (get_or ns i d) z → AreBack f i ps os ns → AreBack f (i + 1) ps os (slice_set ns i z)
back-more f i ps os ns d z h n back b = record {
  first = λ before are same.
      (let count = same-count f os before same in
      let inside : i < length before = omega (arith, h, n, count) in
      let alone = ap (without_in f) (rest-at i os ns d b.rest) ∙ map-at f i os before d d (omega (arith, h, n)) same in
      take_more_set ns i z h
      ∙ ap (λ ls. ls ++ z ∷ []) (b.first before are same)
      ∙ ap (λ v. take i before ++ v ∷ []) (back (get_or before i d) (are i d inside) alone)
      ∙ sym (take_more before i d inside));
  rest = drop-set-lt (i + 1) ns i z (omega arith) ∙ drop_more_same ns os i b.rest;
}

pub all-back : (f i : ℕ) (ps : List NotedPlace) (os ns before : List RegulationView) → length ns ≤ i → length ns ≡ length os → AreBack f i ps os ns → ArePlaces f ps before → map (without_in f) os ≡ map (without_in f) before → ns ≡ before
all-back f i ps os ns before h n b are same =
    let count = same-count f os before same in
    sym (take_all i ns h) ∙ b.first before are same ∙ take_all i before (omega (arith, h, n, count))

pub capacity-back : (f max : ℕ) (os bs : List RegulationView) → map (without_in f) os ≡ map (without_in f) bs → HaveCapacity max os → HaveCapacity max bs
capacity-back f max os [] q h = tt
capacity-back f max [] (b ∷ bs) q h = absurd cc
capacity-back f max (o ∷ os) (b ∷ bs) q h =
    let here : without_in f o ≡ without_in f b = cc in
    let rest : map (without_in f) os ≡ map (without_in f) bs = cc in
    (ap (λ v. v.lineup.capacity) (sym here) ∙ h.0, capacity-back f max os bs rest h.1)
