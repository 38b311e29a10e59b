-- A change under its conditions leaves a sound lineup sound.
use Rattle.std.proofs.Common.{◌≡◌, ◌≢◌, ℕ, suc, ◌+◌, ◌<◌, ◌≤◌, ◌⊎◌, inl, inr, Bool, true, false, cond, not, eqb, ltb, List, [], ◌∷◌, length, Option, None, Some, IfSome, refl, sym, subst, ◌∙◌, arith}
use Rattle.std.specs.List.{AllByRecursion}
use Rattle.std.specs.Option.{IsSome}
use Rattle.std.proofs.lemmas.Bool.{eqb-false, false≢true, ltb-true}
use Rattle.std.proofs.lemmas.Bool.Decides.{nat_tests}
use Rattle.flow_slots.specs.declared.cell.Planned.{Planned}
use Rattle.flow_slots.specs.declared.change_list.Change.{Change}
use Rattle.flow_slots.specs.declared.change_list.Change.TheVariants.{Insert, Remove, Fix, Release, PutFixed}
use Rattle.flow_slots.specs.declared.cell.Cell.{Cell}
use Rattle.flow_slots.specs.declared.cell.Cell.TheVariants.{Empty, Waiting, Fixed}
use Rattle.flow_slots.specs.Period.{Period, IsRegular, IsWithin, first_slot, slots_before_end}
use Rattle.flow_slots.specs.Order.{stands_before, insert, without}
use Rattle.flow_slots.specs.Assignment.{Placed, slots}
use Rattle.flow_slots.specs.Row.{waiting_of, fixed_of, flight_at, place_at}
use Rattle.flow_slots.specs.Lineup.{Lineup, IsKept, IsLineup, InOrder, BySlot, NoneIs, NoneFixed, FixedApart, WaitingApart, MayFill, len_of, assigned, slot_in, held_slot, held_flight, fixed_slot, with_waiting, with_fixed, with_all_waiting, without_flight, without_fixed, insert_fixed, fixed_at}
use Rattle.flow_slots.specs.ChangeList.{May, MayAll, changed, changed_by, fixed_there}
use Rattle.flow_slots.specs.LineupLaws.{IsNumber, IsSound}
use Rattle.flow_slots.proofs.Absent.{absent-waiting, absent-fixed}
use Rattle.flow_slots.proofs.Held.{held_slot-without}
use Rattle.flow_slots.proofs.Kept.{lineup_of}
use Rattle.flow_slots.proofs.Orderly.{row-lineup}
use Rattle.flow_slots.proofs.Tied.{IsTied-some, place_at-within}
use Rattle.flow_slots.proofs.Served.{In, all-in, in-all, in-left, in-either, pair, planned, slot_in-in, in-flight_in, greedy-free, greedy-serves, is_in-slots}
use Rattle.flow_slots.proofs.Sound.{served, none_twice, fixed_only, held_within}

-- one more, and one less
pub all-insert : (P : Planned → Type 0) (w : Planned) (ws : List Planned) → P w → AllByRecursion P ws → AllByRecursion P (insert w ws)
all-insert P w [] h a = (h, tt)
all-insert P w (v ∷ ws) h a =
    elim (stands_before v w) as (λ b. AllByRecursion P (cond b (v ∷ insert w ws) (w ∷ v ∷ ws))) [ true ↦ (a.0, all-insert P w ws h a.1) | false ↦ (h, a) ]

pub all-without : (P : Planned → Type 0) (f : ℕ) (ws : List Planned) → AllByRecursion P ws → AllByRecursion P (without f ws)
all-without P f [] a = tt
all-without P f (w ∷ ws) a =
    elim (not (eqb w.flight f)) as (λ b. AllByRecursion P (cond b (w ∷ without f ws) (without f ws))) [ true ↦ (a.0, all-without P f ws a.1) | false ↦ all-without P f ws a.1 ]

pub all-insert_fixed : (P : Placed → Type 0) (a : Placed) (xs : List Placed) → P a → AllByRecursion P xs → AllByRecursion P (insert_fixed a xs)
all-insert_fixed P a [] h r = (h, tt)
all-insert_fixed P a (x ∷ xs) h r =
    elim (ltb x.slot a.slot) as (λ b. AllByRecursion P (cond b (x ∷ insert_fixed a xs) (a ∷ x ∷ xs))) [ true ↦ (r.0, all-insert_fixed P a xs h r.1) | false ↦ (h, r) ]

pub all-without_fixed : (P : Placed → Type 0) (f : ℕ) (xs : List Placed) → AllByRecursion P xs → AllByRecursion P (without_fixed f xs)
all-without_fixed P f [] r = tt
all-without_fixed P f (x ∷ xs) r =
    elim (not (eqb x.flight f)) as (λ b. AllByRecursion P (cond b (x ∷ without_fixed f xs) (without_fixed f xs))) [ true ↦ (r.0, all-without_fixed P f xs r.1) | false ↦ all-without_fixed P f xs r.1 ]

-- the order
stands-before : (w v : Planned) → stands_before v w ≡ false → (v.flight ≡ w.flight → ⊥) → stands_before w v ≡ true
stands-before w v h ne = grind (arith, nat_tests)

stands-transitive : (w v u : Planned) → stands_before w v ≡ true → stands_before v u ≡ true → stands_before w u ≡ true
stands-transitive w v u h g = grind (arith, nat_tests)

InOrder-insert : (w : Planned) (ws : List Planned) → NoneIs w.flight ws → InOrder ws → InOrder (insert w ws)
InOrder-insert w [] n o = (tt, tt)
InOrder-insert w (v ∷ ws) n o = cases (InOrder-insert w ws n.1 o.1) (stands_before v w) refl where
  cases : InOrder (insert w ws) → (b : Bool) → stands_before v w ≡ b → InOrder (cond b (v ∷ insert w ws) (w ∷ v ∷ ws))
  cases again true q = (all-insert (λ u. stands_before v u ≡ true) w ws q o.0, again)
  cases again false q =
      let first : stands_before w v ≡ true = stands-before w v q n.0 in
      ((first, in-all (λ u. stands_before w u ≡ true) ws (λ u i. stands-transitive w v u first (all-in (λ t. stands_before v t ≡ true) ws u o.0 i))), o)

InOrder-without : (f : ℕ) (ws : List Planned) → InOrder ws → InOrder (without f ws)
InOrder-without f [] o = tt
InOrder-without f (w ∷ ws) o =
    elim (not (eqb w.flight f)) as (λ b. InOrder (cond b (w ∷ without f ws) (without f ws))) [ true ↦ (all-without (λ u. stands_before w u ≡ true) f ws o.0, InOrder-without f ws o.1) | false ↦ InOrder-without f ws o.1 ]

pub BySlot-insert : (a : Placed) (xs : List Placed) → AllByRecursion (λ b. b.slot ≢ a.slot) xs → BySlot xs → BySlot (insert_fixed a xs)
BySlot-insert a [] n s = (tt, tt)
BySlot-insert a (x ∷ xs) n s = cases (BySlot-insert a xs n.1 s.1) (ltb x.slot a.slot) refl where
  cases : BySlot (insert_fixed a xs) → (b : Bool) → ltb x.slot a.slot ≡ b → BySlot (cond b (x ∷ insert_fixed a xs) (a ∷ x ∷ xs))
  cases again true q =
      (all-insert_fixed (λ b. x.slot < b.slot) a xs (ltb-true x.slot a.slot q) s.0, again)
  cases again false q =
      let other : x.slot ≡ a.slot → ⊥ = n.0 in
      let low : a.slot < x.slot = grind (arith, nat_tests) in
      ((low, in-all (λ b. a.slot < b.slot) xs (λ b i. omega (arith, all-in (λ c. x.slot < c.slot) xs b s.0 i))), s)

BySlot-without : (f : ℕ) (xs : List Placed) → BySlot xs → BySlot (without_fixed f xs)
BySlot-without f [] s = tt
BySlot-without f (x ∷ xs) s =
    elim (not (eqb x.flight f)) as (λ b. BySlot (cond b (x ∷ without_fixed f xs) (without_fixed f xs))) [ true ↦ (all-without_fixed (λ b. x.slot < b.slot) f xs s.0, BySlot-without f xs s.1) | false ↦ BySlot-without f xs s.1 ]

pub FixedApart-insert : (a : Placed) (xs : List Placed) → NoneFixed a.flight xs → FixedApart xs → FixedApart (insert_fixed a xs)
FixedApart-insert a [] n d = (tt, tt)
FixedApart-insert a (x ∷ xs) n d =
    elim (ltb x.slot a.slot) as (λ b. FixedApart (cond b (x ∷ insert_fixed a xs) (a ∷ x ∷ xs))) [ true ↦ (all-insert_fixed (λ b. b.flight ≡ x.flight → ⊥) a xs (λ q. n.0 (sym q)) d.0, FixedApart-insert a xs n.1 d.1) | false ↦ (n, d) ]

FixedApart-without : (f : ℕ) (xs : List Placed) → FixedApart xs → FixedApart (without_fixed f xs)
FixedApart-without f [] d = tt
FixedApart-without f (x ∷ xs) d =
    elim (not (eqb x.flight f)) as (λ b. FixedApart (cond b (x ∷ without_fixed f xs) (without_fixed f xs))) [ true ↦ (all-without_fixed (λ b. b.flight ≡ x.flight → ⊥) f xs d.0, FixedApart-without f xs d.1) | false ↦ FixedApart-without f xs d.1 ]

WaitingApart-insert : (fixed : List Placed) (w : Planned) (ws : List Planned) → NoneFixed w.flight fixed → NoneIs w.flight ws → WaitingApart fixed ws → WaitingApart fixed (insert w ws)
WaitingApart-insert fixed w [] g n h = (g, tt, tt)
WaitingApart-insert fixed w (v ∷ ws) g n h =
    elim (stands_before v w) as (λ b. WaitingApart fixed (cond b (v ∷ insert w ws) (w ∷ v ∷ ws))) [ true ↦ (h.0, all-insert (λ u. u.flight ≡ v.flight → ⊥) w ws (λ q. n.0 (sym q)) h.1, WaitingApart-insert fixed w ws g n.1 h.2) | false ↦ (g, n, h) ]

WaitingApart-without : (fixed : List Placed) (f : ℕ) (ws : List Planned) → WaitingApart fixed ws → WaitingApart fixed (without f ws)
WaitingApart-without fixed f [] h = tt
WaitingApart-without fixed f (w ∷ ws) h =
    elim (not (eqb w.flight f)) as (λ b. WaitingApart fixed (cond b (w ∷ without f ws) (without f ws))) [ true ↦ (h.0, all-without (λ u. u.flight ≡ w.flight → ⊥) f ws h.1, WaitingApart-without fixed f ws h.2) | false ↦ WaitingApart-without fixed f ws h.2 ]

WaitingApart-other : (old new : List Placed) (ws : List Planned) → ((w : Planned) → In w ws → NoneFixed w.flight old → NoneFixed w.flight new) → WaitingApart old ws → WaitingApart new ws
WaitingApart-other old new [] more h = tt
WaitingApart-other old new (w ∷ ws) more h =
    (more w (inl refl) h.0, h.1, WaitingApart-other old new ws (λ v i. more v (inr i)) h.2)

-- the changes
pub sound-insert : (l : Lineup) (w : Planned) → IsSound l → NoneIs w.flight l.waiting → NoneFixed w.flight l.fixed → IsNumber l w.flight → IsWithin l.period w.entry → IsSound (with_waiting w l)
sound-insert l w s n g number entry =
    record {
      lined = record {
        in_order = InOrder-insert w l.waiting n s.lined.in_order;
        by_slot = s.lined.by_slot;
        fixed_apart = s.lined.fixed_apart;
        waiting_apart = WaitingApart-insert l.fixed w l.waiting g n s.lined.waiting_apart;
      };
      regular = s.regular;
      entries = all-insert (λ v. IsWithin l.period v.entry) w l.waiting entry s.entries;
      waiting_numbers = all-insert (λ v. IsNumber l v.flight) w l.waiting number s.waiting_numbers;
      fixed_numbers = s.fixed_numbers;
      fixed_slots = s.fixed_slots;
    }

-- the provisional flights but one
abbrev not_waiting : ℕ → Lineup → Lineup
not_waiting f l = record { period = l.period; capacity = l.capacity; waiting = without f l.waiting; fixed = l.fixed }

sound-not_waiting : (l : Lineup) (f : ℕ) → IsSound l → IsSound (not_waiting f l)
sound-not_waiting l f s =
    record {
      lined = record {
        in_order = InOrder-without f l.waiting s.lined.in_order;
        by_slot = s.lined.by_slot;
        fixed_apart = s.lined.fixed_apart;
        waiting_apart = WaitingApart-without l.fixed f l.waiting s.lined.waiting_apart;
      };
      regular = s.regular;
      entries = all-without (λ v. IsWithin l.period v.entry) f l.waiting s.entries;
      waiting_numbers = all-without (λ v. IsNumber l v.flight) f l.waiting s.waiting_numbers;
      fixed_numbers = s.fixed_numbers;
      fixed_slots = s.fixed_slots;
    }

pub sound-remove : (l : Lineup) (f : ℕ) → IsSound l → IsSound (without_flight f l)
sound-remove l f s =
    let m = sound-not_waiting l f s in
    record {
      lined = record {
        in_order = m.lined.in_order;
        by_slot = BySlot-without f l.fixed s.lined.by_slot;
        fixed_apart = FixedApart-without f l.fixed s.lined.fixed_apart;
        waiting_apart = WaitingApart-other l.fixed (without_fixed f l.fixed) (without f l.waiting) (λ w i n. all-without_fixed (λ b. b.flight ≡ w.flight → ⊥) f l.fixed n) m.lined.waiting_apart;
      };
      regular = s.regular;
      entries = m.entries;
      waiting_numbers = m.waiting_numbers;
      fixed_numbers = all-without_fixed (λ b. IsNumber l b.flight) f l.fixed s.fixed_numbers;
      fixed_slots = all-without_fixed (λ b. b.slot < len_of l) f l.fixed s.fixed_slots;
    }

sound-put : (l : Lineup) (a : Placed) → IsSound l → NoneIs a.flight l.waiting → NoneFixed a.flight l.fixed → AllByRecursion (λ b. b.slot ≢ a.slot) l.fixed → IsNumber l a.flight → a.slot < len_of l → IsSound (with_fixed a l)
sound-put l a s n g unkept number slot =
    record {
      lined = record {
        in_order = s.lined.in_order;
        by_slot = BySlot-insert a l.fixed unkept s.lined.by_slot;
        fixed_apart = FixedApart-insert a l.fixed g s.lined.fixed_apart;
        waiting_apart = WaitingApart-other l.fixed (insert_fixed a l.fixed) l.waiting (λ w i m. all-insert_fixed (λ b. b.flight ≡ w.flight → ⊥) a l.fixed (λ q. all-in (λ v. v.flight ≡ a.flight → ⊥) l.waiting w n i (sym q)) m) s.lined.waiting_apart;
      };
      regular = s.regular;
      entries = s.entries;
      waiting_numbers = s.waiting_numbers;
      fixed_numbers = all-insert_fixed (λ b. IsNumber l b.flight) a l.fixed number s.fixed_numbers;
      fixed_slots = all-insert_fixed (λ b. b.slot < len_of l) a l.fixed slot s.fixed_slots;
    }

-- nobody has a frozen slot that may be taken
unkept_slot : (l : Lineup) (k : ℕ) → IsLineup l → IfSome (held_flight l k) (λ holder. fixed_slot l holder ≡ None) → AllByRecursion (λ b. b.slot ≢ k) l.fixed
unkept_slot l k i unkept = in-all (λ b. b.slot ≢ k) l.fixed (λ b j. taken b j) where
  taken : (b : Placed) → In b l.fixed → b.slot ≢ k
  taken b j q =
      let held : held_flight l b.slot ≡ Some b.flight = in-flight_in b (assigned l) (none_twice l i) (in-left b l.fixed (served l) j) in
      let here : held_flight l k ≡ Some b.flight = subst (λ n. held_flight l n ≡ Some b.flight) q held in
      let none : fixed_slot l b.flight ≡ None = subst (λ o. IfSome o (λ holder. fixed_slot l holder ≡ None)) here unkept in
      let some : fixed_slot l b.flight ≡ Some b.slot = fixed_only l b.flight b.slot i j in
      cc

pub none_found : (f : ℕ) (xs : List Placed) → slot_in f xs ≡ None → NoneFixed f xs
none_found f [] e = tt
none_found f (x ∷ xs) e = cases (none_found f xs) (eqb x.flight f) refl e where
  cases : (slot_in f xs ≡ None → NoneFixed f xs) → (b : Bool) → eqb x.flight f ≡ b → cond b (Some x.slot) (slot_in f xs) ≡ None → NoneFixed f (x ∷ xs)
  cases again true q h = cc
  cases again false q h = (eqb-false x.flight f q, again h)

without-none_is : (f : ℕ) (ws : List Planned) → NoneIs f (without f ws)
without-none_is f [] = tt
without-none_is f (w ∷ ws) =
    elim (eqb w.flight f) as (λ b. eqb w.flight f ≡ b → NoneIs f (cond (not b) (w ∷ without f ws) (without f ws))) [ true ↦ λ q. without-none_is f ws | false ↦ λ q. (eqb-false w.flight f q, without-none_is f ws) ] refl

-- a provisional flight is frozen in its slot
pub sound-fix : (l : Lineup) (f k : ℕ) → IsSound l → held_slot l f ≡ Some k → fixed_slot l f ≡ None → IsSound (fixed_at (pair f k) l)
sound-fix l f k s h e =
    sound-put (not_waiting f l) (pair f k) (sound-not_waiting l f s) (without-none_is f l.waiting) (none_found f l.fixed e) unkept number (held_within l f k s h) where
      one : In (pair f k) l.fixed ⊎ In (pair f k) (served l) → In (pair f k) (served l)
      one (inl j) = absurd (let found : fixed_slot l f ≡ Some k = fixed_only l f k s.lined j in cc)
      one (inr j) = j

      holds : In (pair f k) (served l)
      holds = one (in-either (pair f k) l.fixed (served l) (slot_in-in f k (assigned l) h))

      unkept : AllByRecursion (λ b. b.slot ≢ k) l.fixed
      unkept = in-all (λ b. b.slot ≢ k) l.fixed (λ b i q. false≢true (sym (greedy-free (λ t. first_slot l.period t) (slots l.fixed) l.waiting (pair f k) holds) ∙ is_in-slots k b l.fixed i q))

      number : IsNumber l f
      number =
          let r = greedy-serves (λ t. first_slot l.period t) (slots l.fixed) l.waiting (pair f k) holds in
          subst (IsNumber l) r.flight (all-in (λ w. IsNumber l w.flight) l.waiting r.waits s.waiting_numbers r.one)

fixed-number : (l : Lineup) (f : ℕ) (o : Option ℕ) → IsSound l → fixed_slot l f ≡ o → IsSome o → IsNumber l f
fixed-number l f None s e h = absurd (false≢true h)
fixed-number l f (Some k) s e h =
    all-in (λ a. IsNumber l a.flight) l.fixed (pair f k) s.fixed_numbers (slot_in-in f k l.fixed e)

sound-fixed_there : (l : Lineup) (f : ℕ) (o : Option ℕ) → IsSound l → held_slot l f ≡ o → fixed_slot l f ≡ None → IsSound (fixed_there o f l)
sound-fixed_there l f None s h e = s
sound-fixed_there l f (Some k) s h e = sound-fix l f k s h e

pub sound-changed : (c : Change) (l : Lineup) → IsSound l → May c l → IsSound (changed c l)
sound-changed (Insert f e) l s m =
    sound-insert l (planned e f) s (absent-waiting l f m.0.absent) (absent-fixed l f m.0.absent) (m.0.first, m.0.last) m.1
sound-changed (Remove f) l s m = sound-remove l f s
sound-changed (Fix f) l s m = sound-fixed_there l f (held_slot l f) s refl m.1
sound-changed (Release f e) l s m =
    let gone = held_slot-without f l in
    sound-insert (without_flight f l) (planned e f) (sound-remove l f s) (absent-waiting (without_flight f l) f gone) (absent-fixed (without_flight f l) f gone) (fixed-number l f (fixed_slot l f) s refl m.0) m.1
sound-changed (PutFixed f k) l s m =
    sound-put l (pair f k) s (absent-waiting l f m.0.absent) (absent-fixed l f m.0.absent) (unkept_slot l k s.lined m.2) (m.0.first, m.0.last) m.1

pub sound-changed_by : (cs : List Change) (l : Lineup) → IsSound l → MayAll cs l → IsSound (changed_by cs l)
sound-changed_by [] l s m = s
sound-changed_by (c ∷ cs) l s m = sound-changed_by cs (changed c l) (sound-changed c l s m.0) m.1

-- an empty list that takes flights in at once
pub sound-filled : (ws : List Planned) (l : Lineup) → IsSound l → MayFill ws l → IsSound (with_all_waiting ws l)
sound-filled ws l s m =
    record {
      lined = m.lined;
      regular = s.regular;
      entries = m.entries;
      waiting_numbers = m.numbers;
      fixed_numbers = tt;
      fixed_slots = tt;
    }

-- a list of no flights
pub sound-none : (p : Period) (n : ℕ) → IsRegular p → IsSound (record { period = p; capacity = n; waiting = []; fixed = [] })
sound-none p n r =
    record {
      lined = record { in_order = tt; by_slot = tt; fixed_apart = tt; waiting_apart = tt };
      regular = r;
      entries = tt;
      waiting_numbers = tt;
      fixed_numbers = tt;
      fixed_slots = tt;
    }

-- the lineup of a row
all-waiting_of : (P : ℕ → Type 0) (row : List Cell) → ((k f : ℕ) → flight_at row k ≡ Some f → P f) → AllByRecursion (λ w. P w.flight) (waiting_of row)
all-waiting_of P [] h = tt
all-waiting_of P (Empty ∷ cs) h = all-waiting_of P cs (λ k f e. h (suc k) f e)
all-waiting_of P (Fixed g ∷ cs) h = all-waiting_of P cs (λ k f e. h (suc k) f e)
all-waiting_of P (Waiting w ∷ cs) h = (h 0 w.flight refl, all-waiting_of P cs (λ k f e. h (suc k) f e))

all-fixed_of : (P : ℕ → Type 0) (o : ℕ) (row : List Cell) → ((k f : ℕ) → flight_at row k ≡ Some f → P f) → AllByRecursion (λ a. P a.flight) (fixed_of o row)
all-fixed_of P o [] h = tt
all-fixed_of P o (Empty ∷ cs) h = all-fixed_of P (o + 1) cs (λ k f e. h (suc k) f e)
all-fixed_of P o (Waiting w ∷ cs) h = all-fixed_of P (o + 1) cs (λ k f e. h (suc k) f e)
all-fixed_of P o (Fixed g ∷ cs) h = (h 0 g refl, all-fixed_of P (o + 1) cs (λ k f e. h (suc k) f e))

fixed_of-below : (n o : ℕ) (row : List Cell) → o + length row ≤ n → AllByRecursion (λ a. a.slot < n) (fixed_of o row)
fixed_of-below n o [] h = tt
fixed_of-below n o (Empty ∷ cs) h = fixed_of-below n (o + 1) cs (omega arith)
fixed_of-below n o (Waiting w ∷ cs) h = fixed_of-below n (o + 1) cs (omega arith)
fixed_of-below n o (Fixed g ∷ cs) h = (omega arith, fixed_of-below n (o + 1) cs (omega arith))

pub row-sound : (p : Period) (capacity : ℕ) (row : List Cell) (places : List (Option ℕ)) → IsKept p capacity row places → IsSound (lineup_of p capacity row)
row-sound p capacity row places kept =
    record {
      lined = row-lineup (λ e. first_slot p e) p capacity places row kept.settled kept.tied;
      regular = kept.regular;
      entries = kept.entries;
      waiting_numbers = all-waiting_of (λ f. (0 < f) × (f ≤ capacity)) row number;
      fixed_numbers = all-fixed_of (λ f. (0 < f) × (f ≤ capacity)) 0 row number;
      fixed_slots = fixed_of-below (slots_before_end p + capacity) 0 row (omega (arith, kept.len));
    } where
      number : (k f : ℕ) → flight_at row k ≡ Some f → (0 < f) × (f ≤ capacity)
      number k f e =
          let at : place_at places f ≡ Some k = (kept.tied.each f k).1 e in
          (IsTied-some places row k f kept.tied e, omega (arith, kept.places_len, place_at-within places f k at))
