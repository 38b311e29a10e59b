-- The last index that passes a test, and how it changes when one index passes no more, or passes
-- now.
use Rattle.std.proofs.Common.{◌≡◌, ℕ, zero, suc, ◌+◌, ◌<◌, ◌≤◌, Bool, true, false, if◌then◌else◌, ◌⊎◌, inl, inr, refl, sym, subst, ◌∙◌, arith}
use Rattle.std.proofs.lemmas.Bool.{cases_eq, cases_lt}
use Rattle.flow_plans.specs.Chains.{last_number}

pub last-le : (h : ℕ → Bool) (n : ℕ) → last_number h n ≤ n
unfolding last_number
last-le h zero = omega arith
last-le h (suc n) =
    elim (h n) as (λ b. (if b then n + 1 else last_number h n) ≤ suc n) [ true ↦ omega arith | false ↦ omega (arith, last-le h n) ]

-- it passes
pub last-passes : (h : ℕ → Bool) (n k : ℕ) → last_number h n ≡ k + 1 → h k ≡ true
unfolding last_number
last-passes h zero k e = absurd (omega (arith, e))
last-passes h (suc n) k e = split (h n) refl e (λ f. last-passes h n k f) where
  split : (b : Bool) → h n ≡ b → (if b then n + 1 else last_number h n) ≡ k + 1 → (last_number h n ≡ k + 1 → h k ≡ true) → h k ≡ true
  split true t f again = let same : n ≡ k = omega (arith, f) in subst (λ m. h m ≡ true) same t
  split false t f again = again f

-- and none after it does
pub last-above : (h : ℕ → Bool) (n k : ℕ) → k < n → h k ≡ true → k < last_number h n
unfolding last_number
last-above h zero k l t = absurd (omega (arith, l))
last-above h (suc n) k l t = split (h n) refl (cases_eq k n) (λ a. last-above h n k a t) where
  split : (b : Bool) → h n ≡ b → (k ≡ n) ⊎ (k ≡ n → ⊥) → (k < n → k < last_number h n) → k < (if b then n + 1 else last_number h n)
  split true e s again = omega (arith, l)
  split false e (inl same) again = let no : false ≡ true = sym e ∙ subst (λ m. h m ≡ true) same t in absurd (cc)
  split false e (inr apart) again = again (omega (arith, l, apart))

pub last-none : (h : ℕ → Bool) (n k : ℕ) → last_number h n ≤ k → k < n → h k ≡ false
last-none h n k a l = split (h k) refl where
  split : (b : Bool) → h k ≡ b → h k ≡ false
  split true e = absurd (omega (arith, last-above h n k l e, a))
  split false e = e

-- which says what it is
pub last-is : (h : ℕ → Bool) (n r : ℕ) → r ≤ n → ((k : ℕ) → r ≡ k + 1 → h k ≡ true) → ((k : ℕ) → r ≤ k → k < n → h k ≡ false) → last_number h n ≡ r
unfolding last_number
last-is h zero r a p q = omega (arith, a)
last-is h (suc n) r a p q = split (h n) refl (cases_lt n r) (λ b. last-is h n r b p (λ k c l. q k c (omega (arith, l)))) where
  split : (b : Bool) → h n ≡ b → (n < r) ⊎ (r ≤ n) → (r ≤ n → last_number h n ≡ r) → (if b then n + 1 else last_number h n) ≡ r
  split true e (inl over) again = omega (arith, over, a)
  split true e (inr within) again = let no : true ≡ false = sym e ∙ q n within (omega arith) in absurd (cc)
  split false e (inl over) again = let no : false ≡ true = sym e ∙ p n (omega (arith, over, a)) in absurd (cc)
  split false e (inr within) again = again within

pub last-same : (h g : ℕ → Bool) (n : ℕ) → ((k : ℕ) → k < n → g k ≡ h k) → last_number g n ≡ last_number h n
last-same h g n same =
    last-is g n (last_number h n) (last-le h n)
    (λ k e. same k (omega (arith, e, last-le h n)) ∙ last-passes h n k e)
    (λ k a l. same k l ∙ last-none h n k a l)

-- the last of fewer indices, if it is among them
pub last-lower : (h : ℕ → Bool) (n m : ℕ) → m ≤ n → last_number h n ≤ m → last_number h m ≡ last_number h n
last-lower h n m a b =
    last-is h m (last_number h n) b (λ k e. last-passes h n k e) (λ k c l. last-none h n k c (omega (arith, l, a)))

-- all indices but one pass as before
module _ (h g : ℕ → Bool) (i : ℕ) (same : (k : ℕ) → (k ≡ i → ⊥) → g k ≡ h k) where
  pub last-low : (m : ℕ) → m ≤ i → last_number g m ≡ last_number h m
  last-low m a = last-same h g m (λ k l. same k (λ e. omega (arith, e, l, a)))

  -- it passes no more
  pub last-skipped : g i ≡ false → (m : ℕ) → last_number h m ≡ i + 1 → last_number g m ≡ last_number h i
  last-skipped gone m e =
      last-is g m (last_number h i) (omega (arith, last-le h i, last-le h m, e))
      (λ k s. same k (λ t. omega (arith, s, t, last-le h i)) ∙ last-passes h i k s)
      (λ k a l. above k a l (cases_eq k i)) where
        above : (k : ℕ) → last_number h i ≤ k → k < m → (k ≡ i) ⊎ (k ≡ i → ⊥) → g k ≡ false
        above k a l (inl s) = subst (λ j. g j ≡ false) (sym s) gone
        above k a l (inr apart) = same k apart ∙ by (cases_lt k i) where
          by : (k < i) ⊎ (i ≤ k) → h k ≡ false
          by (inl below) = last-none h i k a below
          by (inr over) = last-none h m k (omega (arith, e, over, apart)) l

  pub last-stays : g i ≡ false → (m : ℕ) → (last_number h m ≡ i + 1 → ⊥) → last_number g m ≡ last_number h m
  last-stays gone m other =
      last-is g m (last_number h m) (last-le h m)
      (λ k s. same k (λ t. other (omega (arith, s, t))) ∙ last-passes h m k s)
      (λ k a l. above k a l (cases_eq k i)) where
        above : (k : ℕ) → last_number h m ≤ k → k < m → (k ≡ i) ⊎ (k ≡ i → ⊥) → g k ≡ false
        above k a l (inl s) = subst (λ j. g j ≡ false) (sym s) gone
        above k a l (inr apart) = same k apart ∙ last-none h m k a l

  -- it passes now
  pub last-high : (m : ℕ) → i + 1 < last_number h m → last_number g m ≡ last_number h m
  last-high m b =
      last-is g m (last_number h m) (last-le h m)
      (λ k s. same k (λ t. omega (arith, s, t, b)) ∙ last-passes h m k s)
      (λ k a l. same k (λ t. omega (arith, a, t, b)) ∙ last-none h m k a l)

  pub last-new : g i ≡ true → (m : ℕ) → i < m → last_number h m ≤ i + 1 → last_number g m ≡ i + 1
  last-new here m a b =
      last-is g m (i + 1) (omega (arith, a))
      (λ k s. let e : i ≡ k = omega (arith, s) in subst (λ j. g j ≡ true) e here)
      (λ k c l. same k (λ t. omega (arith, c, t)) ∙ last-none h m k (omega (arith, b, c)) l)

-- one index more
pub last-more : (h : ℕ → Bool) (n : ℕ) (b : Bool) → h n ≡ b → last_number h (n + 1) ≡ (if b then n + 1 else last_number h n)
unfolding last_number
last-more h n b e =
    let s : suc n ≡ n + 1 = omega arith in
    subst (λ m. last_number h m ≡ (if b then n + 1 else last_number h n)) s (rw e refl)
