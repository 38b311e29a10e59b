-- The table of the numbers below 100.
use Rattle.std.proofs.Common.{◌≡◌, ℕ, ◌+◌, ◌*◌, ◌/◌, ◌%◌, ◌<◌, get_or, eqb, true, refl}
use Rattle.std.proofs.lemmas.Bool.{agree_below_at, eqb-true}
use Rattle.flow_core.specs.declared.answer.TheConstants.{PAIRS}

pub tens_of : (n : ℕ) → n < 100 → get_or PAIRS (2 * n) 0 ≡ 48 + n / 10
tens_of n l = eqb-true _ _ (agree_below_at (λ k. eqb (get_or PAIRS (2 * k) 0) (48 + k / 10)) (λ k. true) 100 n refl l)

pub units_of : (n : ℕ) → n < 100 → get_or PAIRS (2 * n + 1) 0 ≡ 48 + n % 10
units_of n l = eqb-true _ _ (agree_below_at (λ k. eqb (get_or PAIRS (2 * k + 1) 0) (48 + k % 10)) (λ k. true) 100 n refl l)
