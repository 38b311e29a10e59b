-- The next bit of a word.
use Rattle.std.proofs.Common.{◌≡◌, ℕ, zero, suc, ◌+◌, ◌-◌, ◌*◌, ◌/◌, ◌%◌, ◌^◌, ◌<◌, ◌≤◌, Bool, true, false, ltb, refl, sym, ap, ◌∙◌, arith}
use Rattle.std.specs.Int.{bit_at, trailing_zeros, w64}
use Rattle.std.proofs.Math.Nat.{mod-lt, div-add-mod, div-le_self}
use Rattle.std.proofs.lemmas.Nat.{pow_pos}
use Rattle.std.proofs.lemmas.Bool.{ltb-true, ltb-false}
use Rattle.std.proofs.lemmas.Nat.Bits.{bit_at-zero, bit_at_above, bit_at-trailing_zeros, bit_at_cat_low, bit_at_cat_high}

-- a word by its bits below an index, and from there on
parts : (w k : ℕ) → (w / 2 ^ k) * 2 ^ k + w % 2 ^ k ≡ w
parts w k = omega (arith, div-add-mod w (2 ^ k))

pub low-bit : (w k i : ℕ) → i < k → bit_at (w % 2 ^ k) i ≡ bit_at w i
low-bit w k i h = sym (bit_at_cat_low (w / 2 ^ k) k (w % 2 ^ k) i h) ∙ ap (λ v. bit_at v i) (parts w k)

pub high-bit : (w k i : ℕ) → k ≤ i → bit_at (w / 2 ^ k) (i - k) ≡ bit_at w i
high-bit w k i h = sym (bit_at_cat_high (w / 2 ^ k) k (w % 2 ^ k) i (mod-lt w (pow_pos k)) h) ∙ ap (λ v. bit_at v i) (parts w k)

-- a word without a later bit
pub none-later : (w k i : ℕ) → k ≤ i → w / 2 ^ k ≡ 0 → bit_at w i ≡ 0
none-later w k i h none = sym (high-bit w k i h) ∙ (ap (λ v. bit_at v (i - k)) none ∙ bit_at-zero (i - k))

module _ (w k : ℕ) (fits : w < 2 ^ 64) (some : w / 2 ^ k ≡ 0 → ⊥) where
  less : w / 2 ^ k < 2 ^ 64
  less = (let h : w / 2 ^ k ≤ w = div-le_self w (2 ^ k) in omega (arith, h, fits))

  positive : 0 < w / 2 ^ k
  positive = cases (w / 2 ^ k) some where
    cases : (n : ℕ) → (n ≡ 0 → ⊥) → 0 < n
    cases zero f = absurd (f refl)
    cases (suc n) f = omega arith

  pub next-bit : bit_at w (k + trailing_zeros w64 (w / 2 ^ k)) ≡ 1
  next-bit =
      let t : ℕ = trailing_zeros w64 (w / 2 ^ k) in
      let back : k + t - k ≡ t = omega arith in
      sym (high-bit w k (k + t) (omega arith)) ∙ (ap (bit_at (w / 2 ^ k)) back ∙ (bit_at-trailing_zeros w64 (w / 2 ^ k) positive less).1)

  pub next-within : k + trailing_zeros w64 (w / 2 ^ k) < 64
  next-within = cases (ltb (k + trailing_zeros w64 (w / 2 ^ k)) 64) refl where
    cases : (b : Bool) → ltb (k + trailing_zeros w64 (w / 2 ^ k)) 64 ≡ b → k + trailing_zeros w64 (w / 2 ^ k) < 64
    cases true q = ltb-true (k + trailing_zeros w64 (w / 2 ^ k)) 64 q
    cases false q =
        let none = bit_at_above w 64 (k + trailing_zeros w64 (w / 2 ^ k)) fits (ltb-false (k + trailing_zeros w64 (w / 2 ^ k)) 64 q) in
        let no : 1 ≡ 0 = sym next-bit ∙ none in
        absurd (omega (arith, no))

  pub next-later : (i : ℕ) → k ≤ i → i < k + trailing_zeros w64 (w / 2 ^ k) → bit_at w i ≡ 0
  next-later i h l =
      let within : i - k < trailing_zeros w64 (w / 2 ^ k) = omega (arith, h, l) in
      sym (high-bit w k i h) ∙ (bit_at-trailing_zeros w64 (w / 2 ^ k) positive less).2 (i - k) within
