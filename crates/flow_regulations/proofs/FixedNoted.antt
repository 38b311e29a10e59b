-- Collecting the flights with frozen slots, one number after the other.
use Rattle.std.proofs.Common.{◌≡◌, ◌<◌, ◌≤◌, ◌+◌, ℕ, List, [], ◌∷◌, ◌++◌, length, length-append, get_or, refl, arith, Bool, true, false, nat_le, Option, None, Some, ◌⊎◌, inl, inr}
use Rattle.std.specs.Prelude.{IsSome}
use Rattle.std.specs.List.{All, Contains}
use Rattle.std.specs.List.Sorted.{IsStrictlyIncreasing}
use Rattle.std.proofs.lemmas.Bool.{leb-true, leb-false, cases_lt, false≢true}
use Rattle.std.proofs.lemmas.List.{get_or_append_left, get_or_push}
use Rattle.std.proofs.lemmas.List.Elements.{All-nil, All-push, All-weaker, Contains-push, Contains-append_left}
use Rattle.flow_slots.specs.Period.{first_slot}
use Rattle.flow_slots.specs.Assignment.{greedy, slots}
use Rattle.flow_slots.specs.Lineup.{Lineup, fixed_slot, held_slot}
use Rattle.flow_regulations.proofs.Looks.{slot_in-before}

-- of the flights with numbers below this one, all that have frozen slots
pub record AreFixed (l : Lineup) (next : ℕ) (flights : List ℕ) : Type 0 where
  pub rising : IsStrictlyIncreasing flights
  pub numbers : All (λ n. n < next) flights
  pub each : All (λ n. IsSome (fixed_slot l n)) flights
  pub all : (n : ℕ) → 0 < n → n < next → IsSome (fixed_slot l n) → Contains flights n

pub fixed-none : (l : Lineup) → AreFixed l 1 []
fixed-none l = record {
  rising = λ k within. absurd (omega (arith, within));
  numbers = All-nil (λ n. n < 1);
  each = All-nil (λ n. IsSome (fixed_slot l n));
  all = λ n some below keeps. absurd (omega (arith, some, below));
}

rises-push : (xs : List ℕ) (i : ℕ) → IsStrictlyIncreasing xs → All (λ n. n < i) xs → IsStrictlyIncreasing (xs ++ i ∷ [])
rises-push xs i h below k within = by (nat_le (length xs) (k + 1)) refl where
  by : (b : Bool) → nat_le (length xs) (k + 1) ≡ b → get_or (xs ++ i ∷ []) k 0 < get_or (xs ++ i ∷ []) (k + 1) 0
  by true e =
      let last : length xs ≡ k + 1 = omega (arith, leb-true (length xs) (k + 1) e, within, length-append xs (i ∷ [])) in
      let before : get_or (xs ++ i ∷ []) k 0 ≡ get_or xs k 0 = get_or_append_left xs (i ∷ []) 0 k (omega (arith, last)) in
      let end : get_or (xs ++ i ∷ []) (k + 1) 0 ≡ i = get_or_push xs i 0 (k + 1) last in
      let less : get_or xs k 0 < i = below k 0 (omega (arith, last)) in
      omega (arith, before, end, less)
  by false e =
      let inside : k + 1 < length xs = leb-false (length xs) (k + 1) e in
      let before : get_or (xs ++ i ∷ []) k 0 ≡ get_or xs k 0 = get_or_append_left xs (i ∷ []) 0 k (omega (arith, inside)) in
      let next : get_or (xs ++ i ∷ []) (k + 1) 0 ≡ get_or xs (k + 1) 0 = get_or_append_left xs (i ∷ []) 0 (k + 1) inside in
      let step : get_or xs k 0 < get_or xs (k + 1) 0 = h k inside in
      omega (arith, before, next, step)

widen : (i j : ℕ) (xs : List ℕ) → i ≤ j → All (λ n. n < i) xs → All (λ n. n < j) xs
widen i j xs le h = All-weaker (λ n. n < i) (λ n. n < j) (λ n less. omega (arith, le, less)) xs h

pub fixed-one : (l : Lineup) (i : ℕ) (xs : List ℕ) → AreFixed l i xs → IsSome (fixed_slot l i) → AreFixed l (i + 1) (xs ++ i ∷ [])
fixed-one l i xs h here = record {
  rising = rises-push xs i h.rising h.numbers;
  numbers = All-push (λ n. n < i + 1) xs i (widen i (i + 1) xs (omega arith) h.numbers) (omega arith);
  each = All-push (λ n. IsSome (fixed_slot l n)) xs i h.each here;
  all = λ n some below keeps. by n some below keeps (cases_lt n i);
}
  where
    by : (n : ℕ) → 0 < n → n < i + 1 → IsSome (fixed_slot l n) → (n < i) ⊎ (i ≤ n) → Contains (xs ++ i ∷ []) n
    by n some below keeps (inl before) = Contains-append_left xs (i ∷ []) n (h.all n some before keeps)
    by n some below keeps (inr after) =
        let last : n ≡ i = omega (arith, below, after) in
        rw last (Contains-push xs i)

-- flights without a frozen slot are skipped
pub fixed-past : (l : Lineup) (i j : ℕ) (xs : List ℕ) → i ≤ j → ((n : ℕ) → i ≤ n → n < j → IsSome (fixed_slot l n) → ⊥) → AreFixed l i xs → AreFixed l j xs
fixed-past l i j xs le none h = record {
  rising = h.rising;
  numbers = widen i j xs le h.numbers;
  each = h.each;
  all = λ n some below keeps. by n some below keeps (cases_lt n i);
}
  where
    by : (n : ℕ) → 0 < n → n < j → IsSome (fixed_slot l n) → (n < i) ⊎ (i ≤ n) → Contains xs n
    by n some below keeps (inl before) = h.all n some before keeps
    by n some below keeps (inr after) = absurd (none n after below keeps)

pub fixed-not : (l : Lineup) (i : ℕ) (xs : List ℕ) → AreFixed l i xs → (IsSome (fixed_slot l i) → ⊥) → AreFixed l (i + 1) xs
fixed-not l i xs h not = fixed-past l i (i + 1) xs (omega arith) (λ n a b keeps. (let same : n ≡ i = omega (arith, a, b) in not (rw same at keeps))) h

-- a flight with a frozen slot is held in it
held-there : (l : Lineup) (n k : ℕ) → fixed_slot l n ≡ Some k → held_slot l n ≡ Some k
held-there l n k e = slot_in-before n k l.fixed (greedy (λ x. first_slot l.period x) (slots l.fixed) l.waiting) e

some-is : (o : Option ℕ) → IsSome o → (k : ℕ) × (o ≡ Some k)
some-is None h = absurd (false≢true h)
some-is (Some k) h = (k, refl)

pub kept-there : (l : Lineup) (n : ℕ) → IsSome (fixed_slot l n) → (k : ℕ) × (held_slot l n ≡ Some k)
kept-there l n keeps = (let k = some-is (fixed_slot l n) keeps in (k.0, held-there l n k.0 k.1))

-- and so does one that holds no slot
pub unheld-unfixed : (l : Lineup) (n : ℕ) → held_slot l n ≡ None → IsSome (fixed_slot l n) → ⊥
unheld-unfixed l n none keeps = (let there = kept-there l n keeps in let is : held_slot l n ≡ Some there.0 = there.1 in cc)
