-- The queue of the flights that aren't due yet.
use Rattle.std.proofs.Common.{◌≡◌, ℕ, zero, suc, ◌+◌, ◌-◌, ◌<◌, ◌≤◌, ◌⊎◌, inl, inr, ◌||◌, ◌&&◌, Bool, true, false, cond, eqb, ltb, leb, List, [], ◌∷◌, length, map, get_or, Option, Some, None, refl, sym, ap, subst, ◌∙◌, arith, ⊎_elim}
use Rattle.std.specs.List.{All, AllByRecursion, Contains, slice_get}
use Rattle.std.specs.List.Sorted.{IsPermutation}
use Rattle.std.specs.Option.{option_map_or}
use Rattle.std.specs.BinaryHeap.{IsUpperBound}
use Rattle.std.specs.Ordering.{nat_cmp, ordering_then, is_lt}
use Rattle.std.specs.declared.cmp.Ordering.{Ordering}
use Rattle.std.specs.declared.cmp.Ordering.TheVariants.{Less, Equal, Greater}
use Rattle.std.specs.declared.cmp.Reverse.{Reverse}
use Rattle.std.proofs.lemmas.Bool.{and_parts, and_from, eqb-true, eq-eqb, leb-true, le-leb, ltb-true, lt-ltb, lt-leb, leb-false, true≢false, cases_lt, cases_eq}
use Rattle.std.proofs.lemmas.List.Sorted.{Contains-permutation}
use Rattle.flow_plans.specs.Plans.{PlanView, plan_at, is_filed}
use Rattle.flow_slots.specs.Assignment.{is_in}
use Rattle.flow_regulations.specs.declared.due_queue.PendingFlight.{PendingFlight}
use Rattle.flow_regulations.specs.Settling.{is_due, is_due_flight}
use Rattle.flow_regulations.specs.Listing.{AreSameBut, AreDue, HoldNewlyDue}
use Rattle.flow_regulations.specs.Awaiting.{Covers, awaits, BecameDue, AreHeld, earlier_first}

-- no time is before the first one's
pub later-all : (limit : ℕ) (x : Reverse PendingFlight) (xs : List (Reverse PendingFlight)) → limit < x.0.off_block → IsUpperBound earlier_first x xs → AllByRecursion (λ y. limit < y.0.off_block) xs
later-all limit x [] h u = tt
later-all limit x (y ∷ ys) h u = (omega (arith, h, first y.0.off_block x.0.off_block (nat_cmp y.0.number x.0.number) u.0), later-all limit x ys h u.1) where
  first : (a b : ℕ) (o : Ordering) → is_lt (ordering_then (nat_cmp a b) o) ≡ false → b ≤ a
  first a b o e = ⊎_elim (λ (l : a < b). absurd (true≢false (sym (ap (λ t. is_lt (ordering_then (cond t Less (cond (eqb a b) Equal Greater)) o)) (lt-ltb a b l)) ∙ e))) (λ (l : b ≤ a). l) (cases_lt a b)

-- a flight that the view shows is in the heap, and the other way round
unmapped : (k : ℕ) (xs : List (Reverse PendingFlight)) (a : PendingFlight) → k < length (map (λ x. x.0) xs) → get_or (map (λ x. x.0) xs) k a ≡ a → (k < length xs) × (get_or xs k (record { 0 = a }) ≡ record { 0 = a })
unmapped k [] a h e = absurd (omega arith)
unmapped zero (x ∷ xs) a h e = (omega arith, ap (λ v. (let r : Reverse PendingFlight = record { 0 = v } in r)) e)
unmapped (suc k) (x ∷ xs) a h e = (let r = unmapped k xs a (omega (arith, h)) e in (omega (arith, r.0), r.1))

mapped : (k : ℕ) (xs : List (Reverse PendingFlight)) (x : Reverse PendingFlight) → k < length xs → get_or xs k x ≡ x → (k < length (map (λ x. x.0) xs)) × (get_or (map (λ x. x.0) xs) k x.0 ≡ x.0)
mapped k [] x h e = absurd (omega arith)
mapped zero (y ∷ xs) x h e = (omega arith, ap (λ v. v.0) e)
mapped (suc k) (y ∷ xs) x h e = (let r = mapped k xs x (omega (arith, h)) e in (omega (arith, r.0), r.1))

pub from-view : (xs : List (Reverse PendingFlight)) (a : PendingFlight) → Contains (map (λ x. x.0) xs) a → Contains xs (record { 0 = a })
from-view xs a c = (let r = unmapped c.0 xs a c.1 c.2 in (c.0, r.0, r.1))

pub to-view : (xs : List (Reverse PendingFlight)) (x : Reverse PendingFlight) → Contains xs x → Contains (map (λ x. x.0) xs) x.0
to-view xs x c = (let r = mapped c.0 xs x c.1 c.2 in (c.0, r.0, r.1))

-- each flight at first is still there, or it was taken or dropped
abbrev pub TakenSoFar : ℕ → ℕ → List PlanView → List (Reverse PendingFlight) → List (Reverse PendingFlight) → List ℕ → Type 0
TakenSoFar limit earlier plans first rest due =
    (x : Reverse PendingFlight) → Contains first x → Contains rest x ⊎ ((x.0.off_block ≤ limit) × (awaits earlier plans x.0 ≡ true → Contains due x.0.number))

cons-cases : (y x : Reverse PendingFlight) (xs : List (Reverse PendingFlight)) → Contains (y ∷ xs) x → (y ≡ x) ⊎ Contains xs x
cons-cases y x xs (zero, h, e) = inl e
cons-cases y x xs (suc k, h, e) = inr (k, omega (arith, h), e)

-- the next flight is taken out
pub taken-step : (limit earlier : ℕ) (plans : List PlanView) (first rest new : List (Reverse PendingFlight)) (a : PendingFlight) (due due_new : List ℕ) → TakenSoFar limit earlier plans first rest due → IsPermutation rest (record { 0 = a } ∷ new) → a.off_block ≤ limit → ((n : ℕ) → Contains due n → Contains due_new n) → (awaits earlier plans a ≡ true → Contains due_new a.number) → TakenSoFar limit earlier plans first new due_new
taken-step limit earlier plans first rest new a due due_new t p h more here x c = ⊎_elim still gone (t x c) where
  gone : (x.0.off_block ≤ limit) × (awaits earlier plans x.0 ≡ true → Contains due x.0.number) → Contains new x ⊎ ((x.0.off_block ≤ limit) × (awaits earlier plans x.0 ≡ true → Contains due_new x.0.number))
  gone q = inr (q.0, λ e. more x.0.number (q.1 e))

  taken : (record { 0 = a } ≡ x) → Contains new x ⊎ ((x.0.off_block ≤ limit) × (awaits earlier plans x.0 ≡ true → Contains due_new x.0.number))
  taken e =
      let T : Reverse PendingFlight → Type 0 = λ v. Contains new v ⊎ ((v.0.off_block ≤ limit) × (awaits earlier plans v.0 ≡ true → Contains due_new v.0.number)) in
      subst T e (inr (h, here))

  still : Contains rest x → Contains new x ⊎ ((x.0.off_block ≤ limit) × (awaits earlier plans x.0 ≡ true → Contains due_new x.0.number))
  still q = ⊎_elim taken (λ (r : Contains new x). inl r) (cons-cases (record { 0 = a }) x new (Contains-permutation rest (record { 0 = a } ∷ new) x p q))

-- a flight that was awaited becomes due
pub became : (earlier now : ℕ) (plans : List PlanView) (a : PendingFlight) → 0 < a.number → a.off_block ≤ now + 120 → awaits earlier plans a ≡ true → BecameDue earlier now plans a.number
became earlier now plans a some h e = (some, (cases (plan_at plans a.number) e).0, (cases (plan_at plans a.number) e).1) where
  cases : (o : Option PlanView) → option_map_or (λ p. is_filed p.state && eqb p.off_block a.off_block && ltb (earlier + 120) p.off_block) o false ≡ true → (option_map_or (is_due now) o false ≡ true) × (option_map_or (is_due earlier) o false ≡ false)
  cases None e = absurd (true≢false (sym e))
  cases (Some p) e =
      let both = and_parts (is_filed p.state && eqb p.off_block a.off_block) (ltb (earlier + 120) p.off_block) e in
      let parts = and_parts (is_filed p.state) (eqb p.off_block a.off_block) both.0 in
      let same = eqb-true p.off_block a.off_block parts.1 in
      let late = ltb-true (earlier + 120) p.off_block both.1 in (
        and_from (is_filed p.state) (leb p.off_block (now + 120)) parts.0 (le-leb p.off_block (now + 120) (omega (arith, same, h))),
        not-due p late,
      )
    where
      and-false : (b : Bool) → (b && false) ≡ false
      and-false true = refl
      and-false false = refl

      not-due : (p : PlanView) → earlier + 120 < p.off_block → is_due earlier p ≡ false
      not-due p late = ap (λ b. is_filed p.state && b) (lt-leb p.off_block (earlier + 120) late) ∙ and-false (is_filed p.state)

-- and each that became due was awaited
pub became-awaits : (earlier now number : ℕ) (plans : List PlanView) (p : PlanView) → plan_at plans number ≡ Some p → is_due_flight now plans number ≡ true → is_due_flight earlier plans number ≡ false → (is_filed p.state ≡ true) × (p.off_block ≤ now + 120) × (earlier + 120 < p.off_block)
became-awaits earlier now number plans p at is was =
    let due : is_due now p ≡ true = sym (ap (λ o. option_map_or (is_due now) o false) at) ∙ is in
    let undue : is_due earlier p ≡ false = sym (ap (λ o. option_map_or (is_due earlier) o false) at) ∙ was in
    let parts = and_parts (is_filed p.state) (leb p.off_block (now + 120)) due in
    let late : leb p.off_block (earlier + 120) ≡ false = sym (ap (λ b. b && leb p.off_block (earlier + 120)) parts.0) ∙ undue in
    (parts.0, leb-true p.off_block (now + 120) parts.1, leb-false p.off_block (earlier + 120) late)

pub due-there : (now number : ℕ) (plans : List PlanView) → is_due_flight now plans number ≡ true → (p : PlanView) × (plan_at plans number ≡ Some p)
due-there now number plans e = cases (plan_at plans number) refl e where
  cases : (o : Option PlanView) → plan_at plans number ≡ o → option_map_or (is_due now) o false ≡ true → (p : PlanView) × (plan_at plans number ≡ Some p)
  cases None at e = absurd (true≢false (sym e))
  cases (Some p) at e = (p, at)

pub awaits-is : (earlier number : ℕ) (plans : List PlanView) (p : PlanView) → plan_at plans number ≡ Some p → is_filed p.state ≡ true → earlier + 120 < p.off_block → awaits earlier plans (record { off_block = p.off_block; number = number }) ≡ true
awaits-is earlier number plans p at filed late =
    ap (λ o. option_map_or (λ q. is_filed q.state && eqb q.off_block p.off_block && ltb (earlier + 120) q.off_block) o false) at
    ∙ and_from (is_filed p.state && eqb p.off_block p.off_block) (ltb (earlier + 120) p.off_block) (and_from (is_filed p.state) (eqb p.off_block p.off_block) filed (eq-eqb p.off_block p.off_block refl)) (lt-ltb (earlier + 120) p.off_block late)

pub contains-in : (xs : List ℕ) (n : ℕ) → Contains xs n → is_in n xs ≡ true
contains-in [] n (k, h, e) = absurd (omega arith)
contains-in (x ∷ xs) n (zero, h, e) = ap (λ b. b || is_in n xs) (eq-eqb x n e)
contains-in (x ∷ xs) n (suc k, h, e) = or-true (eqb x n) (is_in n xs) (contains-in xs n (k, omega (arith, h), e)) where
  or-true : (b c : Bool) → c ≡ true → (b || c) ≡ true
  or-true true c q = refl
  or-true false c q = q

-- one more flight of a list is put in
pub held-more : (plans : List PlanView) (j : ℕ) (numbers : List ℕ) (heap new : List (Reverse PendingFlight)) → AreHeld plans j numbers heap → ((x : Reverse PendingFlight) → Contains heap x → Contains new x)
    → ((p : PlanView) → plan_at plans (get_or numbers j 0) ≡ Some p → Contains new (record { 0 = record { off_block = p.off_block; number = get_or numbers j 0 } })) → AreHeld plans (j + 1) numbers new
held-more plans j numbers heap new held kept here k p within at = ⊎_elim earlier last (cases_eq k j) where
  last : (k ≡ j → ⊥) → Contains new (record { 0 = record { off_block = p.off_block; number = get_or numbers k 0 } })
  last ne = kept (record { 0 = record { off_block = p.off_block; number = get_or numbers k 0 } }) (held k p (omega (arith, within, ne)) at)

  earlier : k ≡ j → Contains new (record { 0 = record { off_block = p.off_block; number = get_or numbers k 0 } })
  earlier e =
      let C : ℕ → Type 0 = λ i. Contains new (record { 0 = record { off_block = p.off_block; number = get_or numbers i 0 } }) in
      subst C (sym e) (here p (sym (ap (λ i. plan_at plans (get_or numbers i 0)) e) ∙ at))

pub in-at : (numbers : List ℕ) (n : ℕ) → is_in n numbers ≡ true → (k : ℕ) × (k < length numbers) × (get_or numbers k 0 ≡ n)
in-at [] n e = absurd (true≢false (sym e))
in-at (x ∷ xs) n e = cases (eqb x n) refl (λ h. in-at xs n h) e where
  cases : (b : Bool) → eqb x n ≡ b → (is_in n xs ≡ true → (k : ℕ) × (k < length xs) × (get_or xs k 0 ≡ n)) → (b || is_in n xs) ≡ true → (k : ℕ) × (k < length (x ∷ xs)) × (get_or (x ∷ xs) k 0 ≡ n)
  cases true q again h = (zero, omega arith, eqb-true x n q)
  cases false q again h = (let r = again h in (suc r.0, omega (arith, r.1), r.2))

-- the flights that became due are put back, and the queue covers what it did before that
pub covers-back : (earlier now : ℕ) (plans : List PlanView) (due : List ℕ) (flights : List PendingFlight) (new : List (Reverse PendingFlight)) → HoldNewlyDue earlier now plans due → Covers now plans flights
    → ((a : PendingFlight) → Contains flights a → Contains (map (λ x. x.0) new) a) → AreHeld plans (length due) due new → Covers earlier plans (map (λ x. x.0) new)
covers-back earlier now plans due flights new holds covers kept held number p some at filed late = ⊎_elim then became_due (cases_lt (now + 120) p.off_block) where
  then : now + 120 < p.off_block → Contains (map (λ x. x.0) new) (record { off_block = p.off_block; number = number })
  then h = kept (record { off_block = p.off_block; number = number }) (covers number p some at filed h)

  became_due : p.off_block ≤ now + 120 → Contains (map (λ x. x.0) new) (record { off_block = p.off_block; number = number })
  became_due h =
      let now_due : is_due_flight now plans number ≡ true = ap (λ o. option_map_or (is_due now) o false) at ∙ and_from (is_filed p.state) (leb p.off_block (now + 120)) filed (le-leb p.off_block (now + 120) h) in
      let not_then : is_due_flight earlier plans number ≡ false = ap (λ o. option_map_or (is_due earlier) o false) at ∙ (ap (λ b. b && leb p.off_block (earlier + 120)) filed ∙ lt-leb p.off_block (earlier + 120) late) in
      let k = in-at due number (holds number some now_due not_then) in
      let C : ℕ → Type 0 = λ n. Contains new (record { 0 = record { off_block = p.off_block; number = n } }) in
      to-view new (record { 0 = record { off_block = p.off_block; number = number } }) (subst C k.2 (held k.0 p k.1 (ap (plan_at plans) k.2 ∙ at)))

pub contains-first : (x : Reverse PendingFlight) (xs : List (Reverse PendingFlight)) → Contains (x ∷ xs) x
contains-first x xs = (zero, omega arith, refl)

pub contains-later : (y x : Reverse PendingFlight) (xs : List (Reverse PendingFlight)) → Contains xs x → Contains (y ∷ xs) x
contains-later y x xs (k, h, e) = (suc k, omega (arith, h), e)

-- and when it holds more flights
pub covers-more : (now : ℕ) (plans : List PlanView) (flights new : List PendingFlight) → ((a : PendingFlight) → Contains flights a → Contains new a) → Covers now plans flights → Covers now plans new
covers-more now plans flights new more covers number p some at filed late = more (record { off_block = p.off_block; number = number }) (covers number p some at filed late)

pub noted-kept : (a : PendingFlight) (flights new : List PendingFlight) → IsPermutation (a ∷ flights) new → (b : PendingFlight) → Contains flights b → Contains new b
noted-kept a flights new moved b (k, h, e) = Contains-permutation (a ∷ flights) new b moved (suc k, omega (arith, h), e)

-- a flight is put in, and the queue covers the plans with that of the flight changed or added, and
-- those before
pub covers-noted : (now n off_block : ℕ) (before plans : List PlanView) (flights new : List PendingFlight) → AreSameBut n before plans → ((p : PlanView) → plan_at plans n ≡ Some p → p.off_block ≡ off_block)
    → IsPermutation (record { off_block = off_block; number = n } ∷ flights) new → Covers now before flights → Covers now plans new
covers-noted now n off_block before plans flights new same is moved covers number p some at filed late = ⊎_elim own other (cases_eq number n) where
  other : (number ≡ n → ⊥) → Contains new (record { off_block = p.off_block; number = number })
  other ne = noted-kept (record { off_block = off_block; number = n }) flights new moved (record { off_block = p.off_block; number = number }) (covers number p some (sym (same number some ne) ∙ at) filed late)

  own : number ≡ n → Contains new (record { off_block = p.off_block; number = number })
  own e =
      let a : PendingFlight = record { off_block = off_block; number = n } in
      let time : p.off_block ≡ off_block = is p (ap (plan_at plans) (sym e) ∙ at) in
      let pair : a ≡ record { off_block = p.off_block; number = number } = ap (λ b. (let v : PendingFlight = record { off_block = b; number = n } in v)) (sym time) ∙ ap (λ m. (let v : PendingFlight = record { off_block = p.off_block; number = m } in v)) (sym e) in
      let C : PendingFlight → Type 0 = λ v. Contains new v in
      subst C pair (Contains-permutation (a ∷ flights) new a moved (zero, omega arith, refl))

-- no plans, no flights
pub covers-none : (now : ℕ) (flights : List PendingFlight) → Covers now [] flights
covers-none now flights number p some at filed late = absurd cc

-- the flights that became due are due, and have plans
pub became-due : (earlier now : ℕ) (plans : List PlanView) (due : List ℕ) → All (BecameDue earlier now plans) due → AreDue now plans due
became-due earlier now plans due all k d h = (let r = all k d h in (r.0, r.1))

pub at-within : (plans : List PlanView) (i : ℕ) (p : PlanView) → slice_get plans i ≡ Some p → i < length plans
at-within [] i p e = absurd cc
at-within (q ∷ ps) zero p e = omega arith
at-within (q ∷ ps) (suc i) p e = (let r = at-within ps i p e in omega (arith, r))

pub became-within : (earlier now : ℕ) (plans : List PlanView) (due : List ℕ) → All (BecameDue earlier now plans) due → All (λ n. (0 < n) × (n ≤ length plans)) due
became-within earlier now plans due all k d h =
    (let r = all k d h in
    let p = due-there now (get_or due k d) plans r.1 in
    let w = at-within plans (get_or due k d - 1) p.0 p.1 in
    (r.0, omega (arith, w, r.0)))
