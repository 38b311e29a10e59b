-- The fixed flights of a regulation, with one of them and without.
use Rattle.std.proofs.Common.{◌≡◌, ℕ, ◌⊎◌, inl, inr, ◌||◌, Bool, true, false, not, cond, eqb, ltb, List, [], ◌∷◌, Some, None, refl, sym, ap, ◌∙◌}
use Rattle.std.specs.List.{AllByRecursion, filter}
use Rattle.std.proofs.lemmas.Bool.{eq-eqb, ne_eqb, eqb-false, cases_eq}
use Rattle.flow_slots.specs.Assignment.{Placed}
use Rattle.flow_slots.specs.Lineup.{NoneFixed, FixedApart, slot_in, without_fixed, insert_fixed}
use Rattle.flow_regulations.specs.Regulations.{has_flight}
use Rattle.flow_regulations.proofs.Waiting.{mark, has-other, has-here}
use Rattle.flow_regulations.proofs.Served.{slot_in-here, slot_in-other}

pub all-map : {X : Type 0} (P Q : X → Type 0) (xs : List X) → ((x : X) → P x → Q x) → AllByRecursion P xs → AllByRecursion Q xs
all-map P Q [] f a = tt
all-map P Q (x ∷ xs) f a = (f x a.0, all-map P Q xs f a.1)

pub all-both : {X : Type 0} (P Q : X → Type 0) (xs : List X) → AllByRecursion P xs → AllByRecursion Q xs → AllByRecursion (λ x. P x × Q x) xs
all-both P Q [] a b = tt
all-both P Q (x ∷ xs) a b = ((a.0, b.0), all-both P Q xs a.1 b.1)

pub without_fixed-here : (f : ℕ) (x : Placed) (xs : List Placed) → x.flight ≡ f → without_fixed f (x ∷ xs) ≡ without_fixed f xs
without_fixed-here f x xs e = ap (λ b. cond (not b) (x ∷ without_fixed f xs) (without_fixed f xs)) (eq-eqb x.flight f e)

pub without_fixed-other : (f : ℕ) (x : Placed) (xs : List Placed) → (x.flight ≡ f → ⊥) → without_fixed f (x ∷ xs) ≡ x ∷ without_fixed f xs
without_fixed-other f x xs ne = ap (λ b. cond (not b) (x ∷ without_fixed f xs) (without_fixed f xs)) (ne_eqb x.flight f ne)

pub without_fixed-none : (f : ℕ) (xs : List Placed) → NoneFixed f xs → without_fixed f xs ≡ xs
without_fixed-none f [] a = refl
without_fixed-none f (x ∷ xs) a = without_fixed-other f x xs a.0 ∙ ap (λ v. x ∷ v) (without_fixed-none f xs a.1)

-- a fact of the others
pub all-without : (P : Placed → Type 0) (f : ℕ) (xs : List Placed) → AllByRecursion P xs → AllByRecursion (λ a. (a.flight ≡ f → ⊥) × P a) (without_fixed f xs)
all-without P f [] a = tt
all-without P f (x ∷ xs) a = cases (all-without P f xs a.1) (eqb x.flight f) refl where
  cases : AllByRecursion (λ a. (a.flight ≡ f → ⊥) × P a) (without_fixed f xs) → (b : Bool) → eqb x.flight f ≡ b → AllByRecursion (λ a. (a.flight ≡ f → ⊥) × P a) (cond (not b) (x ∷ without_fixed f xs) (without_fixed f xs))
  cases again true e = again
  cases again false e = ((eqb-false x.flight f e, a.0), again)

pub none-without : (f : ℕ) (xs : List Placed) → NoneFixed f (without_fixed f xs)
none-without f xs = all-map (λ a. (a.flight ≡ f → ⊥) × Unit {0}) (λ a. a.flight ≡ f → ⊥) (without_fixed f xs) (λ _ h. h.0) (all-without (λ _. Unit {0}) f xs (all-unit xs)) where
  all-unit : (xs : List Placed) → AllByRecursion (λ _. Unit {0}) xs
  all-unit [] = tt
  all-unit (x ∷ xs) = (tt, all-unit xs)

pub has-none : (f : ℕ) (xs : List Placed) → NoneFixed f xs → has_flight f xs ≡ false
has-none f [] h = refl
has-none f (x ∷ xs) h = ap (λ b. b || has_flight f xs) (ne_eqb x.flight f h.0) ∙ has-none f xs h.1

has-cons-other : (f : ℕ) (x : Placed) (xs : List Placed) → (x.flight ≡ f → ⊥) → has_flight f (x ∷ xs) ≡ has_flight f xs
has-cons-other f x xs ne = ap (λ b. b || has_flight f xs) (ne_eqb x.flight f ne)

has-without : (f n : ℕ) (xs : List Placed) → (n ≡ f → ⊥) → has_flight f (without_fixed n xs) ≡ has_flight f xs
has-without f n [] ne = refl
has-without f n (x ∷ xs) ne = cases (has-without f n xs ne) (cases_eq x.flight n) where
  cases : has_flight f (without_fixed n xs) ≡ has_flight f xs → (x.flight ≡ n) ⊎ (x.flight ≡ n → ⊥) → has_flight f (without_fixed n (x ∷ xs)) ≡ has_flight f (x ∷ xs)
  cases again (inl e) = ap (has_flight f) (without_fixed-here n x xs e) ∙ (again ∙ sym (has-cons-other f x xs (λ q. ne (sym e ∙ q))))
  cases again (inr e) = ap (has_flight f) (without_fixed-other n x xs e) ∙ ap (λ b. eqb x.flight f || b) again

-- beside a pair of the flight, it does not matter whether it is among the others
pub has-mark_without : (f n : ℕ) (xs : List Placed) → has_flight f (mark n ∷ without_fixed n xs) ≡ has_flight f (mark n ∷ xs)
has-mark_without f n xs = cases (cases_eq n f) where
  cases : (n ≡ f) ⊎ (n ≡ f → ⊥) → has_flight f (mark n ∷ without_fixed n xs) ≡ has_flight f (mark n ∷ xs)
  cases (inl e) = has-here f n (without_fixed n xs) e ∙ sym (has-here f n xs e)
  cases (inr e) = has-other f n (without_fixed n xs) e ∙ (has-without f n xs e ∙ sym (has-other f n xs e))

pub has-insert : (f : ℕ) (x : Placed) (xs : List Placed) → has_flight f (insert_fixed x xs) ≡ has_flight f (x ∷ xs)
has-insert f x [] = refl
has-insert f x (y ∷ ys) = cases (has-insert f x ys) (ltb y.slot x.slot) where
  swap : (a b c : Bool) → (a || (b || c)) ≡ (b || (a || c))
  swap true true c = refl
  swap true false c = refl
  swap false true c = refl
  swap false false c = refl

  cases : has_flight f (insert_fixed x ys) ≡ has_flight f (x ∷ ys) → (b : Bool) → has_flight f (cond b (y ∷ insert_fixed x ys) (x ∷ y ∷ ys)) ≡ has_flight f (x ∷ y ∷ ys)
  cases again true = ap (λ b. eqb y.flight f || b) again ∙ swap (eqb y.flight f) (eqb x.flight f) (has_flight f ys)
  cases again false = refl

pub all-insert_fixed : (P : Placed → Type 0) (x : Placed) (xs : List Placed) → P x → AllByRecursion P xs → AllByRecursion P (insert_fixed x xs)
all-insert_fixed P x [] h a = (h, tt)
all-insert_fixed P x (y ∷ ys) h a = cases (all-insert_fixed P x ys h a.1) (ltb y.slot x.slot) where
  cases : AllByRecursion P (insert_fixed x ys) → (b : Bool) → AllByRecursion P (cond b (y ∷ insert_fixed x ys) (x ∷ y ∷ ys))
  cases again true = (a.0, again)
  cases again false = (h, a)

-- what a search finds is the flight's only slot
pub slot_in-none : (f : ℕ) (xs : List Placed) → slot_in f xs ≡ None → NoneFixed f xs
slot_in-none f [] e = tt
slot_in-none f (x ∷ xs) e = cases (λ h. slot_in-none f xs h) (cases_eq x.flight f) where
  cases : (slot_in f xs ≡ None → NoneFixed f xs) → (x.flight ≡ f) ⊎ (x.flight ≡ f → ⊥) → NoneFixed f (x ∷ xs)
  cases again (inl q) = (let no = sym (slot_in-here f x xs q) ∙ e in absurd cc)
  cases again (inr q) = (q, again (sym (slot_in-other f x xs q) ∙ e))

pub has-some : (f k : ℕ) (xs : List Placed) → slot_in f xs ≡ Some k → has_flight f xs ≡ true
has-some f k [] e = absurd cc
has-some f k (x ∷ xs) e = cases (λ h. has-some f k xs h) (cases_eq x.flight f) where
  or-true : (b c : Bool) → c ≡ true → (b || c) ≡ true
  or-true true c e = refl
  or-true false c e = e

  cases : (slot_in f xs ≡ Some k → has_flight f xs ≡ true) → (x.flight ≡ f) ⊎ (x.flight ≡ f → ⊥) → has_flight f (x ∷ xs) ≡ true
  cases again (inl q) = ap (λ b. b || has_flight f xs) (eq-eqb x.flight f q)
  cases again (inr q) = or-true (eqb x.flight f) (has_flight f xs) (again (sym (slot_in-other f x xs q) ∙ e))

pub one-slot : (f k : ℕ) (xs : List Placed) → FixedApart xs → slot_in f xs ≡ Some k → AllByRecursion (λ a. a.flight ≡ f → a.slot ≡ k) xs
one-slot f k [] a e = tt
one-slot f k (x ∷ xs) a e = cases (λ h. one-slot f k xs a.1 h) (cases_eq x.flight f) where
  cases : (slot_in f xs ≡ Some k → AllByRecursion (λ a. a.flight ≡ f → a.slot ≡ k) xs) → (x.flight ≡ f) ⊎ (x.flight ≡ f → ⊥) → AllByRecursion (λ a. a.flight ≡ f → a.slot ≡ k) (x ∷ xs)
  cases again (inl q) =
      let found : Some x.slot ≡ Some k = sym (slot_in-here f x xs q) ∙ e in
      let slot : x.slot ≡ k = cc in
      (λ _. slot, all-map (λ y. y.flight ≡ x.flight → ⊥) (λ y. y.flight ≡ f → y.slot ≡ k) xs (λ y ne h. absurd (ne (h ∙ sym q))) a.0)
  cases again (inr q) = (λ h. absurd (q h), again (sym (slot_in-other f x xs q) ∙ e))

pub filter-all : (T : Placed → Bool) (xs : List Placed) → AllByRecursion (λ a. T a ≡ true) xs → filter T xs ≡ xs
filter-all T [] h = refl
filter-all T (x ∷ xs) h = ap (λ b. cond b (x ∷ filter T xs) (filter T xs)) h.0 ∙ ap (λ v. x ∷ v) (filter-all T xs h.1)

-- those of which a test holds are all but one
pub filter-without : (T : Placed → Bool) (f : ℕ) (xs : List Placed) → AllByRecursion (λ a. ((a.flight ≡ f → ⊥) → T a ≡ true) × (a.flight ≡ f → T a ≡ false)) xs → filter T xs ≡ without_fixed f xs
filter-without T f [] h = refl
filter-without T f (x ∷ xs) h = cases (filter-without T f xs h.1) (cases_eq x.flight f) where
  cases : filter T xs ≡ without_fixed f xs → (x.flight ≡ f) ⊎ (x.flight ≡ f → ⊥) → filter T (x ∷ xs) ≡ without_fixed f (x ∷ xs)
  cases again (inl e) = ap (λ b. cond b (x ∷ filter T xs) (filter T xs)) (h.0.1 e) ∙ (again ∙ sym (without_fixed-here f x xs e))
  cases again (inr e) = ap (λ b. cond b (x ∷ filter T xs) (filter T xs)) (h.0.0 e) ∙ (ap (λ v. x ∷ v) again ∙ sym (without_fixed-other f x xs e))
