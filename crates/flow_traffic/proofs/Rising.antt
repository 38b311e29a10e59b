-- Numbers that rise, each above the one before.
use Rattle.std.proofs.Common.{◌≡◌, ◌≤◌, ◌<◌, ◌+◌, ◌-◌, ℕ, zero, suc, List, length, get_or, refl, arith, Bool, true, false, nat_le}
use Rattle.std.specs.List.{All}
use Rattle.std.specs.List.Sorted.{IsNonDecreasing, IsStrictlyIncreasing}
use Rattle.std.proofs.lemmas.Bool.{leb-true, leb-false}
use Rattle.std.proofs.lemmas.List.Sorted.{IsNonDecreasingBy-from_all_adjacent}
use Rattle.std.proofs.lemmas.Grind.{get_or_default_zero}

-- they do not fall
pub rises-on : (xs : List ℕ) → IsStrictlyIncreasing xs → IsNonDecreasing xs
rises-on xs h = IsNonDecreasingBy-from_all_adjacent (λ x. x) xs (λ k d within.
    let step : get_or xs k 0 < get_or xs (k + 1) 0 = h k within in
    let here : get_or xs k d ≡ get_or xs k 0 = get_or_default_zero xs k d (omega (arith, within)) in
    let next : get_or xs (k + 1) d ≡ get_or xs (k + 1) 0 = get_or_default_zero xs (k + 1) d within in
    omega (arith, step, here, next))

rises-above : (xs : List ℕ) → IsStrictlyIncreasing xs → (0 < length xs → 0 < get_or xs 0 0) → (k : ℕ) → k < length xs → k + 1 ≤ get_or xs k 0
rises-above xs h first zero within = omega (arith, first within)
rises-above xs h first (suc k) within =
    let next : suc k ≡ k + 1 = omega arith in
    let step : get_or xs k 0 < get_or xs (suc k) 0 = rw next (h k (omega (arith, within))) in
    let before : k + 1 ≤ get_or xs k 0 = rises-above xs h first k (omega (arith, within)) in
    omega (arith, step, before)

-- as many at most as numbers from 1
pub few-rising : (m : ℕ) (xs : List ℕ) → IsStrictlyIncreasing xs → All (λ n. (0 < n) × (n ≤ m)) xs → length xs ≤ m
few-rising m xs h all = by (nat_le (length xs) 0) refl where
  by : (b : Bool) → nat_le (length xs) 0 ≡ b → length xs ≤ m
  by true e = omega (arith, leb-true (length xs) 0 e)
  by false e =
      let some : 0 < length xs = leb-false (length xs) 0 e in
      let last = rises-above xs h (λ w. (all 0 0 w).0) (length xs - 1) (omega (arith, some)) in
      let most = (all (length xs - 1) 0 (omega (arith, some))).1 in
      omega (arith, last, most, some)
