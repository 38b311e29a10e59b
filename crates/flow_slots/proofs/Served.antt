-- The fresh assignment of a lineup, read as a list: which pairs it has, that none has a flight or a
-- slot of another, and what lies before the slot of a flight.
use Rattle.std.proofs.Common.{◌≡◌, ◌≢◌, ℕ, zero, suc, ◌+◌, ◌<◌, ◌≤◌, ◌⊎◌, inl, inr, ◌||◌, Bool, true, false, cond, eqb, nat_le, List, [], ◌∷◌, ◌++◌, length, Some, refl, sym, ap, subst, ◌∙◌, arith}
use Rattle.std.specs.List.{AllByRecursion}
use Rattle.std.specs.Option.{is_some}
use Rattle.std.proofs.lemmas.Bool.{eq-eqb, ne_eqb, eqb-true, false≢true, or_cases, or_right}
use Rattle.std.proofs.lemmas.Bool.Decides.{nat_tests}
use Rattle.flow_slots.specs.declared.cell.Planned.{Planned}
use Rattle.flow_slots.specs.Order.{stands_before}
use Rattle.flow_slots.specs.Assignment.{Placed, is_in, above, first_free_within, first_free, greedy, slots}
use Rattle.flow_slots.specs.Delay.{Rise}
use Rattle.flow_slots.specs.Lineup.{InOrder, BySlot, NoneIs, FixedApart, WaitingApart, slot_in, flight_in, entry_in}
use Rattle.flow_slots.specs.LineupLaws.{NoneTwice}
use Rattle.flow_slots.proofs.Chain.{IsMonotone}
use Rattle.flow_slots.proofs.Held.{slot_in-here, slot_in-other, flight_in-here, flight_in-other}
use Rattle.flow_slots.proofs.Optimal.{first_free_within-free, first_free_within-from, first_free_within-least}

-- one of a list
abbrev pub In : {A : Type 0} → A → List A → Type 0
In a [] = ⊥
In a (x ∷ xs) = (x ≡ a) ⊎ In a xs

pub all-in : {A : Type 0} (P : A → Type 0) (xs : List A) (a : A) → AllByRecursion P xs → In a xs → P a
all-in P [] a h i = absurd i
all-in P (x ∷ xs) a h (inl e) = subst P e h.0
all-in P (x ∷ xs) a h (inr i) = all-in P xs a h.1 i

pub in-all : {A : Type 0} (P : A → Type 0) (xs : List A) → ((a : A) → In a xs → P a) → AllByRecursion P xs
in-all P [] h = tt
in-all P (x ∷ xs) h = (h x (inl refl), in-all P xs (λ a i. h a (inr i)))

pub in-left : {A : Type 0} (a : A) (xs ys : List A) → In a xs → In a (xs ++ ys)
in-left a [] ys i = absurd i
in-left a (x ∷ xs) ys (inl e) = inl e
in-left a (x ∷ xs) ys (inr i) = inr (in-left a xs ys i)

pub in-right : {A : Type 0} (a : A) (xs ys : List A) → In a ys → In a (xs ++ ys)
in-right a [] ys i = i
in-right a (x ∷ xs) ys i = inr (in-right a xs ys i)

pub in-either : {A : Type 0} (a : A) (xs ys : List A) → In a (xs ++ ys) → In a xs ⊎ In a ys
in-either a [] ys i = inr i
in-either a (x ∷ xs) ys (inl e) = inl (inl e)
in-either a (x ∷ xs) ys (inr i) = more (in-either a xs ys i) where
  more : In a xs ⊎ In a ys → In a (x ∷ xs) ⊎ In a ys
  more (inl h) = inl (inr h)
  more (inr h) = inr h

abbrev pub pair : ℕ → ℕ → Placed
pair f k = record { flight = f; slot = k }

abbrev pub planned : ℕ → ℕ → Planned
planned e f = record { entry = e; flight = f }

-- what a look-up finds is one of the list
pub slot_in-in : (f k : ℕ) (xs : List Placed) → slot_in f xs ≡ Some k → In (pair f k) xs
slot_in-in f k [] e = cc
slot_in-in f k (x ∷ xs) e = cases (slot_in-in f k xs) (eqb x.flight f) refl e where
  cases : (slot_in f xs ≡ Some k → In (pair f k) xs) → (b : Bool) → eqb x.flight f ≡ b → cond b (Some x.slot) (slot_in f xs) ≡ Some k → In (pair f k) (x ∷ xs)
  cases again true q h =
      let at : x.slot ≡ k = cc in
      inl (ap (λ g. pair g x.slot) (eqb-true x.flight f q) ∙ ap (pair f) at)
  cases again false q h = inr (again h)

pub flight_in-in : (f k : ℕ) (xs : List Placed) → flight_in k xs ≡ Some f → In (pair f k) xs
flight_in-in f k [] e = cc
flight_in-in f k (x ∷ xs) e = cases (flight_in-in f k xs) (eqb x.slot k) refl e where
  cases : (flight_in k xs ≡ Some f → In (pair f k) xs) → (b : Bool) → eqb x.slot k ≡ b → cond b (Some x.flight) (flight_in k xs) ≡ Some f → In (pair f k) (x ∷ xs)
  cases again true q h =
      let number : x.flight ≡ f = cc in
      inl (ap (λ g. pair g x.slot) number ∙ ap (pair f) (eqb-true x.slot k q))
  cases again false q h = inr (again h)

pub entry_in-in : (f e : ℕ) (ws : List Planned) → entry_in f ws ≡ Some e → In (planned e f) ws
entry_in-in f e [] h = cc
entry_in-in f e (w ∷ ws) h = cases (entry_in-in f e ws) (eqb w.flight f) refl h where
  cases : (entry_in f ws ≡ Some e → In (planned e f) ws) → (b : Bool) → eqb w.flight f ≡ b → cond b (Some w.entry) (entry_in f ws) ≡ Some e → In (planned e f) (w ∷ ws)
  cases again true q h =
      let time : w.entry ≡ e = cc in
      inl (ap (planned w.entry) (eqb-true w.flight f q) ∙ ap (λ t. planned t f) time)
  cases again false q h = inr (again h)

-- and one of the list is found, if none is twice
pub in-slot_in : (a : Placed) (xs : List Placed) → NoneTwice xs → In a xs → slot_in a.flight xs ≡ Some a.slot
in-slot_in a [] n i = absurd i
in-slot_in a (x ∷ xs) n (inl e) =
    slot_in-here a.flight x xs (ap (λ p. p.flight) e) ∙ ap (λ p. Some p.slot) e
in-slot_in a (x ∷ xs) n (inr i) =
    let other = all-in (λ b. (b.flight ≢ x.flight) × (b.slot ≢ x.slot)) xs a n.0 i in
    slot_in-other a.flight x xs (λ q. other.0 (sym q)) ∙ in-slot_in a xs n.1 i

pub in-flight_in : (a : Placed) (xs : List Placed) → NoneTwice xs → In a xs → flight_in a.slot xs ≡ Some a.flight
in-flight_in a [] n i = absurd i
in-flight_in a (x ∷ xs) n (inl e) =
    flight_in-here a.slot x xs (ap (λ p. p.slot) e) ∙ ap (λ p. Some p.flight) e
in-flight_in a (x ∷ xs) n (inr i) =
    let other = all-in (λ b. (b.flight ≢ x.flight) × (b.slot ≢ x.slot)) xs a n.0 i in
    flight_in-other a.slot x xs (λ q. other.1 (sym q)) ∙ in-flight_in a xs n.1 i

pub in-entry_in : (fixed : List Placed) (w : Planned) (ws : List Planned) → WaitingApart fixed ws → In w ws → entry_in w.flight ws ≡ Some w.entry
in-entry_in fixed w [] a i = absurd i
in-entry_in fixed w (x ∷ xs) a (inl e) =
    ap (λ b. cond b (Some x.entry) (entry_in w.flight xs)) (eq-eqb x.flight w.flight (ap (λ v. v.flight) e)) ∙ ap (λ v. Some v.entry) e
in-entry_in fixed w (x ∷ xs) a (inr i) =
    let other = all-in (λ v. v.flight ≡ x.flight → ⊥) xs w a.1 i in
    ap (λ b. cond b (Some x.entry) (entry_in w.flight xs)) (ne_eqb x.flight w.flight (λ q. other (sym q))) ∙ in-entry_in fixed w xs a.2 i

-- the provisional flights are none of the frozen ones
pub waiting_not_fixed : (fixed : List Placed) (ws : List Planned) (w : Planned) (a : Placed) → WaitingApart fixed ws → In w ws → In a fixed → a.flight ≡ w.flight → ⊥
waiting_not_fixed fixed [] w a h i j q = absurd i
waiting_not_fixed fixed (x ∷ xs) w a h (inl e) j q =
    all-in (λ b. b.flight ≡ x.flight → ⊥) fixed a h.0 j (q ∙ sym (ap (λ v. v.flight) e))
waiting_not_fixed fixed (x ∷ xs) w a h (inr i) j q = waiting_not_fixed fixed xs w a h.2 i j q

-- two lists with none twice, which share nothing
pub NoneTwice-append : (xs ys : List Placed) → NoneTwice xs → NoneTwice ys → ((a b : Placed) → In a xs → In b ys → (b.flight ≢ a.flight) × (b.slot ≢ a.slot)) → NoneTwice (xs ++ ys)
NoneTwice-append [] ys n m h = m
NoneTwice-append (x ∷ xs) ys n m h =
    (in-all (λ b. (b.flight ≢ x.flight) × (b.slot ≢ x.slot)) (xs ++ ys) (λ b i. each b (in-either b xs ys i)), NoneTwice-append xs ys n.1 m (λ a b i j. h a b (inr i) j)) where
      each : (b : Placed) → In b xs ⊎ In b ys → (b.flight ≢ x.flight) × (b.slot ≢ x.slot)
      each b (inl i) = all-in (λ c. (c.flight ≢ x.flight) × (c.slot ≢ x.slot)) xs b n.0 i
      each b (inr i) = h x b (inl refl) i

pub NoneTwice-fixed : (xs : List Placed) → BySlot xs → FixedApart xs → NoneTwice xs
NoneTwice-fixed [] s d = tt
NoneTwice-fixed (x ∷ xs) s d =
    (in-all (λ b. (b.flight ≢ x.flight) × (b.slot ≢ x.slot)) xs (λ b i. (all-in (λ c. c.flight ≡ x.flight → ⊥) xs b d.0 i, (λ q. absurd (omega (arith, q, all-in (λ c. x.slot < c.slot) xs b s.0 i))))), NoneTwice-fixed xs s.1 d.1)

false_right : (b c : Bool) → (b || c) ≡ false → c ≡ false
false_right true c e = cc
false_right false c e = e

false_left : (b c : Bool) → (b || c) ≡ false → b ≡ false
false_left true c e = cc
false_left false c e = refl

pub not_taken : (j k : ℕ) (taken : List ℕ) → is_in j (k ∷ taken) ≡ false → j ≢ k
not_taken j k taken e q = false≢true (sym (false_left (eqb k j) (is_in j taken) e) ∙ eq-eqb k j (sym q))

pub first_free-free : (taken : List ℕ) (k : ℕ) → is_in (first_free taken k) taken ≡ false
first_free-free taken k = first_free_within-free (above taken) k taken (omega arith)

-- the slots that are given are not taken
pub greedy-free : (first : ℕ → ℕ) (taken : List ℕ) (ws : List Planned) (a : Placed) → In a (greedy first taken ws) → is_in a.slot taken ≡ false
greedy-free first taken [] a i = absurd i
greedy-free first taken (w ∷ ws) a (inl e) =
    subst (λ b. is_in b.slot taken ≡ false) e (first_free-free taken (first w.entry))
greedy-free first taken (w ∷ ws) a (inr i) =
    let k = first_free taken (first w.entry) in
    false_right (eqb k a.slot) (is_in a.slot taken) (greedy-free first (k ∷ taken) ws a i)

-- and go to provisional flights
pub record Serves (ws : List Planned) (a : Placed) : Type 0 where
  pub waits : Planned
  pub one : In waits ws
  pub flight : waits.flight ≡ a.flight

pub greedy-serves : (first : ℕ → ℕ) (taken : List ℕ) (ws : List Planned) (a : Placed) → In a (greedy first taken ws) → Serves ws a
greedy-serves first taken [] a i = absurd i
greedy-serves first taken (w ∷ ws) a (inl e) = record { waits = w; one = inl refl; flight = ap (λ b. b.flight) e }
greedy-serves first taken (w ∷ ws) a (inr i) =
    let r = greedy-serves first (first_free taken (first w.entry) ∷ taken) ws a i in
    record { waits = r.waits; one = inr r.one; flight = r.flight }

none_serves : (f : ℕ) (ws : List Planned) (a : Placed) → NoneIs f ws → Serves ws a → a.flight ≢ f
none_serves f ws a n s q = all-in (λ w. w.flight ≡ f → ⊥) ws s.waits n s.one (s.flight ∙ q)

pub NoneTwice-greedy : (first : ℕ → ℕ) (fixed : List Placed) (taken : List ℕ) (ws : List Planned) → WaitingApart fixed ws → NoneTwice (greedy first taken ws)
NoneTwice-greedy first fixed taken [] h = tt
NoneTwice-greedy first fixed taken (w ∷ ws) h =
    let k = first_free taken (first w.entry) in
    (in-all (λ b. (b.flight ≢ w.flight) × (b.slot ≢ k)) (greedy first (k ∷ taken) ws) (λ b i. (none_serves w.flight ws b h.1 (greedy-serves first (k ∷ taken) ws b i), not_taken b.slot k taken (greedy-free first (k ∷ taken) ws b i))), NoneTwice-greedy first fixed (k ∷ taken) ws h.2)

-- each provisional flight is given a slot
pub greedy-found : (first : ℕ → ℕ) (f : ℕ) (taken : List ℕ) (ws : List Planned) → is_some (slot_in f (greedy first taken ws)) ≡ is_some (entry_in f ws)
greedy-found first f taken [] = refl
greedy-found first f taken (w ∷ ws) =
    let k = first_free taken (first w.entry) in
    elim (eqb w.flight f) as (λ b. is_some (cond b (Some k) (slot_in f (greedy first (k ∷ taken) ws))) ≡ is_some (cond b (Some w.entry) (entry_in f ws))) [ true ↦ refl | false ↦ greedy-found first f (k ∷ taken) ws ]

pub is_in-slots : (k : ℕ) (a : Placed) (xs : List Placed) → In a xs → a.slot ≡ k → is_in k (slots xs) ≡ true
is_in-slots k a [] i q = absurd i
is_in-slots k a (x ∷ xs) (inl e) q =
    ap (λ b. b || is_in k (slots xs)) (eq-eqb x.slot k (ap (λ b. b.slot) e ∙ q))
is_in-slots k a (x ∷ xs) (inr i) q = or_right (eqb x.slot k) (is_in k (slots xs)) (is_in-slots k a xs i q)

-- a slot that is one of them is the slot of a pair
pub record Holds (xs : List Placed) (k : ℕ) : Type 0 where
  pub flight : ℕ
  pub one : In (pair flight k) xs

pub slots-holds : (k : ℕ) (xs : List Placed) → is_in k (slots xs) ≡ true → Holds xs k
slots-holds k [] h = cc
slots-holds k (x ∷ xs) h =
    cases (slots-holds k xs) (or_cases (eqb x.slot k) (is_in k (slots xs)) h) where
      cases : (is_in k (slots xs) ≡ true → Holds xs k) → (eqb x.slot k ≡ true) ⊎ (is_in k (slots xs) ≡ true) → Holds (x ∷ xs) k
      cases again (inl e) = record { flight = x.flight; one = inl (ap (pair x.flight) (eqb-true x.slot k e)) }
      cases again (inr e) = let r = again e in record { flight = r.flight; one = inr r.one }

-- the whole assignment
pub NoneTwice-assigned : (first : ℕ → ℕ) (fixed : List Placed) (ws : List Planned) → BySlot fixed → FixedApart fixed → WaitingApart fixed ws → NoneTwice (fixed ++ greedy first (slots fixed) ws)
NoneTwice-assigned first fixed ws s d h =
    NoneTwice-append fixed (greedy first (slots fixed) ws) (NoneTwice-fixed fixed s d) (NoneTwice-greedy first fixed (slots fixed) ws h) (λ a b i j. (let r = greedy-serves first (slots fixed) ws b j in ((λ q. waiting_not_fixed fixed ws r.waits a h r.one i (sym q ∙ sym r.flight)), (λ q. false≢true (sym (greedy-free first (slots fixed) ws b j) ∙ is_in-slots b.slot a fixed i (sym q))))))

-- the slot of the first flight, and that of another one
first-slot : (first : ℕ → ℕ) (taken : List ℕ) (x : Planned) (ws : List Planned) (a : Placed) → NoneIs x.flight ws → x.flight ≡ a.flight → In a (greedy first taken (x ∷ ws)) → first_free taken (first x.entry) ≡ a.slot
first-slot first taken x ws a n q (inl e) = ap (λ b. b.slot) e
first-slot first taken x ws a n q (inr i) =
    absurd (none_serves x.flight ws a n (greedy-serves first (first_free taken (first x.entry) ∷ taken) ws a i) (sym q))

later-slot : (first : ℕ → ℕ) (taken : List ℕ) (x : Planned) (ws : List Planned) (a : Placed) → (x.flight ≡ a.flight → ⊥) → In a (greedy first taken (x ∷ ws)) → In a (greedy first (first_free taken (first x.entry) ∷ taken) ws)
later-slot first taken x ws a ne (inl e) = absurd (ne (ap (λ b. b.flight) e))
later-slot first taken x ws a ne (inr i) = i

-- a flight's slot isn't before its first one
pub greedy-from : (first : ℕ → ℕ) (fixed : List Placed) (taken : List ℕ) (ws : List Planned) (w : Planned) (k : ℕ) → WaitingApart fixed ws → In w ws → In (pair w.flight k) (greedy first taken ws) → first w.entry ≤ k
greedy-from first fixed taken [] w k h i j = absurd i
greedy-from first fixed taken (x ∷ ws) w k h (inl e) j =
    let at : first_free taken (first x.entry) ≡ k = first-slot first taken x ws (pair w.flight k) h.1 (ap (λ v. v.flight) e) j in
    let same : x.entry ≡ w.entry = ap (λ v. v.entry) e in
    subst (λ n. first n ≤ k) same (subst (λ n. first x.entry ≤ n) at (first_free_within-from (above taken) (first x.entry) taken))
greedy-from first fixed taken (x ∷ ws) w k h (inr i) j =
    let other = all-in (λ v. v.flight ≡ x.flight → ⊥) ws w h.1 i in
    greedy-from first fixed (first_free taken (first x.entry) ∷ taken) ws w k h.2 i (later-slot first taken x ws (pair w.flight k) (λ q. other (sym q)) j)

-- what is in a slot before that of `w`: a taken one, or a provisional flight that precedes `w`
pub record Earlier (first : ℕ → ℕ) (taken : List ℕ) (ws : List Planned) (w : Planned) (j : ℕ) : Type 0 where
  pub waits : Planned
  pub one : In waits ws
  pub before : stands_before waits w ≡ true
  pub holds : In (pair waits.flight j) (greedy first taken ws)

pub is_in-before : (j k : ℕ) (taken : List ℕ) → k ≤ j → j < first_free taken k → (b : Bool) → is_in j taken ≡ b → is_in j taken ≡ true
is_in-before j k taken l h true e = e
is_in-before j k taken l h false e = absurd (omega (arith, first_free_within-least (above taken) k j taken l e))

pub greedy-gap : (first : ℕ → ℕ) (fixed : List Placed) (taken : List ℕ) (ws : List Planned) (w : Planned) (k j : ℕ) → InOrder ws → WaitingApart fixed ws → In w ws → In (pair w.flight k) (greedy first taken ws) → first w.entry ≤ j → j < k → (is_in j taken ≡ true) ⊎ Earlier first taken ws w j
greedy-gap first fixed taken [] w k j o h i g l m = absurd i
greedy-gap first fixed taken (x ∷ ws) w k j o h (inl e) g l m =
    let at : first_free taken (first x.entry) ≡ k = first-slot first taken x ws (pair w.flight k) h.1 (ap (λ v. v.flight) e) g in
    let low : first x.entry ≤ j = subst (λ v. first v.entry ≤ j) (sym e) l in
    inl (is_in-before j (first x.entry) taken low (subst (λ n. j < n) (sym at) m) (is_in j taken) refl)
greedy-gap first fixed taken (x ∷ ws) w k j o h (inr i) g l m =
    cases (greedy-gap first fixed (first_free taken (first x.entry) ∷ taken) ws w k j o.1 h.2 i (later-slot first taken x ws (pair w.flight k) (λ q. all-in (λ v. v.flight ≡ x.flight → ⊥) ws w h.1 i (sym q)) g) l m) where
      x_before : stands_before x w ≡ true
      x_before = all-in (λ v. stands_before x v ≡ true) ws w o.0 i

      here : (eqb (first_free taken (first x.entry)) j ≡ true) ⊎ (is_in j taken ≡ true) → (is_in j taken ≡ true) ⊎ Earlier first taken (x ∷ ws) w j
      here (inl q) =
          inr (record { waits = x; one = inl refl; before = x_before; holds = inl (ap (pair x.flight) (eqb-true (first_free taken (first x.entry)) j q)) })
      here (inr q) = inl q

      cases : (is_in j (first_free taken (first x.entry) ∷ taken) ≡ true) ⊎ Earlier first (first_free taken (first x.entry) ∷ taken) ws w j → (is_in j taken ≡ true) ⊎ Earlier first taken (x ∷ ws) w j
      cases (inl q) = here (or_cases (eqb (first_free taken (first x.entry)) j) (is_in j taken) q)
      cases (inr r) = inr (record { waits = r.waits; one = inr r.one; before = r.before; holds = inr r.holds })

-- slots rise in the order
behind : (first : ℕ → ℕ) (k from : ℕ) (old taken : List ℕ) (ws : List Planned) → ((j : ℕ) → from ≤ j → is_in j old ≡ false → k ≤ j) → ((j : ℕ) → is_in j taken ≡ false → (is_in j old ≡ false) × (j ≢ k)) → AllByRecursion (λ v. from ≤ first v.entry) ws → AllByRecursion (λ j. k < j) (slots (greedy first taken ws))
behind first k from old taken [] least more late = tt
behind first k from old taken (v ∷ ws) least more late =
    let j = first_free taken (first v.entry) in
    let up = first_free_within-from (above taken) (first v.entry) taken in
    let free = more j (first_free-free taken (first v.entry)) in
    let low : k ≤ j = least j (omega (arith, up, late.0)) free.0 in
    let other : j ≡ k → ⊥ = free.1 in
    (omega (arith, low, other), behind first k from old (j ∷ taken) ws least (λ i f. more i (false_right (eqb j i) (is_in i taken) f)) late.1)

entry-later : (w v : Planned) → stands_before w v ≡ true → w.entry ≤ v.entry
entry-later w v h = grind (arith, nat_tests)

pub greedy-rise : (first : ℕ → ℕ) (mono : IsMonotone first) (taken : List ℕ) (ws : List Planned) → InOrder ws → Rise (slots (greedy first taken ws))
greedy-rise first mono taken [] o = tt
greedy-rise first mono taken (w ∷ ws) o =
    let k = first_free taken (first w.entry) in
    let late = in-all (λ v. first w.entry ≤ first v.entry) ws (λ v i. mono w.entry v.entry (entry-later w v (all-in (λ u. stands_before w u ≡ true) ws v o.0 i))) in
    (behind first k (first w.entry) taken (k ∷ taken) ws (λ j l f. first_free_within-least (above taken) (first w.entry) j taken l f) (λ j f. (false_right (eqb k j) (is_in j taken) f, not_taken j k taken f)) late, greedy-rise first mono (k ∷ taken) ws o.1)

stands_before-not : (v w : Planned) → stands_before v w ≡ true → stands_before w v ≡ true → ⊥
stands_before-not v w h g = grind (arith, nat_tests)

slots-behind : (k : ℕ) (xs : List Placed) (a : Placed) → AllByRecursion (λ j. k < j) (slots xs) → In a xs → k < a.slot
slots-behind k [] a h i = absurd i
slots-behind k (x ∷ xs) a h (inl e) = subst (λ b. k < b.slot) e h.0
slots-behind k (x ∷ xs) a h (inr i) = slots-behind k xs a h.1 i

pub greedy-order : (first : ℕ → ℕ) (mono : IsMonotone first) (fixed : List Placed) (taken : List ℕ) (ws : List Planned) (v w : Planned) (j k : ℕ) → InOrder ws → WaitingApart fixed ws → In v ws → In w ws → stands_before v w ≡ true → In (pair v.flight j) (greedy first taken ws) → In (pair w.flight k) (greedy first taken ws) → j < k
greedy-order first mono fixed taken [] v w j k o h i m b p q = absurd i
greedy-order first mono fixed taken (x ∷ ws) v w j k o h (inl e) (inl g) b p q =
    absurd (let same : v ≡ w = sym e ∙ g in let back : stands_before w v ≡ true = subst (λ u. stands_before u v ≡ true) same (subst (λ u. stands_before v u ≡ true) (sym same) b) in stands_before-not v w b back)
greedy-order first mono fixed taken (x ∷ ws) v w j k o h (inl e) (inr m) b p q =
    let at : first_free taken (first x.entry) ≡ j = first-slot first taken x ws (pair v.flight j) h.1 (ap (λ u. u.flight) e) p in
    let other = all-in (λ u. u.flight ≡ x.flight → ⊥) ws w h.1 m in
    let there = later-slot first taken x ws (pair w.flight k) (λ r. other (sym r)) q in
    let rise = greedy-rise first mono taken (x ∷ ws) o in
    subst (λ n. n < k) at (slots-behind (first_free taken (first x.entry)) (greedy first (first_free taken (first x.entry) ∷ taken) ws) (pair w.flight k) rise.0 there)
greedy-order first mono fixed taken (x ∷ ws) v w j k o h (inr i) (inl g) b p q =
    absurd (stands_before-not v w b (subst (λ u. stands_before u v ≡ true) g (all-in (λ u. stands_before x u ≡ true) ws v o.0 i)))
greedy-order first mono fixed taken (x ∷ ws) v w j k o h (inr i) (inr m) b p q =
    let v_other = all-in (λ u. u.flight ≡ x.flight → ⊥) ws v h.1 i in
    let w_other = all-in (λ u. u.flight ≡ x.flight → ⊥) ws w h.1 m in
    greedy-order first mono fixed (first_free taken (first x.entry) ∷ taken) ws v w j k o.1 h.2 i m b (later-slot first taken x ws (pair v.flight j) (λ r. v_other (sym r)) p) (later-slot first taken x ws (pair w.flight k) (λ r. w_other (sym r)) q)

-- the first free number is at most the count of the taken ones away
abbrev from_count : ℕ → List ℕ → ℕ
from_count k [] = 0
from_count k (x ∷ xs) = cond (nat_le k x) 1 0 + from_count k xs

counts-next : (k x : ℕ) → cond (nat_le (k + 1) x) 1 0 ≤ cond (nat_le k x) 1 0
counts-next k x = grind (arith, nat_tests)

counts-here : (k x : ℕ) → x ≡ k → cond (nat_le (k + 1) x) 1 0 + 1 ≤ cond (nat_le k x) 1 0
counts-here k x e = grind (arith, nat_tests)

counts-one : (k x : ℕ) → cond (nat_le k x) 1 0 ≤ 1
counts-one k x = grind (arith, nat_tests)

from_count-le : (k : ℕ) (xs : List ℕ) → from_count (k + 1) xs ≤ from_count k xs
from_count-le k [] = omega arith
from_count-le k (x ∷ xs) = omega (arith, counts-next k x, from_count-le k xs)

from_count-next : (k : ℕ) (xs : List ℕ) → is_in k xs ≡ true → from_count (k + 1) xs + 1 ≤ from_count k xs
from_count-next k [] h = cc
from_count-next k (x ∷ xs) h =
    cases (from_count-next k xs) (or_cases (eqb x k) (is_in k xs) h) where
      cases : (is_in k xs ≡ true → from_count (k + 1) xs + 1 ≤ from_count k xs) → (eqb x k ≡ true) ⊎ (is_in k xs ≡ true) → from_count (k + 1) (x ∷ xs) + 1 ≤ from_count k (x ∷ xs)
      cases again (inl e) = omega (arith, counts-here k x (eqb-true x k e), from_count-le k xs)
      cases again (inr e) = omega (arith, counts-next k x, again e)

from_count-length : (k : ℕ) (xs : List ℕ) → from_count k xs ≤ length xs
from_count-length k [] = omega arith
from_count-length k (x ∷ xs) = omega (arith, counts-one k x, from_count-length k xs)

first_free_within-near : (n k : ℕ) (taken : List ℕ) → first_free_within n taken k ≤ k + from_count k taken
first_free_within-near zero k taken = omega arith
first_free_within-near (suc n) k taken = cases (first_free_within-near n (k + 1) taken) (is_in k taken) refl where
  cases : first_free_within n taken (k + 1) ≤ k + 1 + from_count (k + 1) taken → (b : Bool) → is_in k taken ≡ b → cond b (first_free_within n taken (k + 1)) k ≤ k + from_count k taken
  cases again true e = omega (arith, from_count-next k taken e)
  cases again false e = omega arith

pub greedy-near : (first : ℕ → ℕ) (most : ℕ) (taken : List ℕ) (ws : List Planned) (a : Placed) → AllByRecursion (λ w. first w.entry ≤ most) ws → In a (greedy first taken ws) → a.slot < most + length taken + length ws
greedy-near first most taken [] a h i = absurd i
greedy-near first most taken (w ∷ ws) a h (inl e) =
    let k = first_free taken (first w.entry) in
    let near = first_free_within-near (above taken) (first w.entry) taken in
    let few = from_count-length (first w.entry) taken in
    let low : k < most + length taken + length (w ∷ ws) = omega (arith, near, few, h.0) in
    subst (λ b. b.slot < most + length taken + length (w ∷ ws)) e low
greedy-near first most taken (w ∷ ws) a h (inr i) =
    omega (arith, greedy-near first most (first_free taken (first w.entry) ∷ taken) ws a h.1 i)

pub length-greedy : (first : ℕ → ℕ) (taken : List ℕ) (ws : List Planned) → length (greedy first taken ws) ≡ length ws
length-greedy first taken [] = refl
length-greedy first taken (w ∷ ws) = ap suc (length-greedy first (first_free taken (first w.entry) ∷ taken) ws)

pub length-slots : (xs : List Placed) → length (slots xs) ≡ length xs
length-slots [] = refl
length-slots (x ∷ xs) = ap suc (length-slots xs)
