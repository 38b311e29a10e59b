-- The bits of the masks that say which regulations may hold flights.
use Rattle.std.proofs.Common.{◌≡◌, ℕ, suc, ◌+◌, ◌*◌, ◌/◌, ◌%◌, ◌^◌, ◌<◌, ◌≤◌, Bool, true, false, cond, eqb, ltb, refl, sym, ap, subst, ◌∙◌, arith}
use Rattle.std.specs.Int.{bit_at, trailing_zeros, w64}
use Rattle.std.specs.Prelude.{bit_or}
use Rattle.std.proofs.lemmas.Nat.{pow_pos, one_shl}
use Rattle.std.proofs.lemmas.Bool.{eq-eqb, eqb-true, lt-ltb, le-ltb, ltb-true, ltb-false}
use Rattle.std.proofs.lemmas.Nat.Bits.{bit_at-lt, bit_at-suc, bit_at_or, bit_at_ones, bit_at_set_same, bit_at_cat_high}
use Rattle.flow_plans.proofs.NextBits.{low-bit, high-bit, next-bit, next-within, none-later as bits-none-later, next-later as bits-next-later}
use Rattle.flow_regulations.specs.Marks.{may_stand, KeepsMask, KeepsBelow, MaskMovesUp}

pub stands-bit : (w i : ℕ) → i < 64 → bit_at w i ≡ 1 → may_stand w i ≡ true
unfolding may_stand
stands-bit w i h e = ap (λ b. cond b (eqb (bit_at w i) 1) true) (lt-ltb i 64 h) ∙ eq-eqb (bit_at w i) 1 e

pub bit-stands : (w i : ℕ) → i < 64 → may_stand w i ≡ true → bit_at w i ≡ 1
unfolding may_stand
bit-stands w i h s = eqb-true (bit_at w i) 1 (sym (ap (λ b. cond b (eqb (bit_at w i) 1) true) (lt-ltb i 64 h)) ∙ s)

pub stands-late : (w i : ℕ) → 64 ≤ i → may_stand w i ≡ true
unfolding may_stand
stands-late w i h = ap (λ b. cond b (eqb (bit_at w i) 1) true) (le-ltb i 64 h)

-- what holds below 64, and from there on
by-place : (w i : ℕ) → (i < 64 → may_stand w i ≡ true) → may_stand w i ≡ true
by-place w i f = cases (ltb i 64) refl where
  cases : (b : Bool) → ltb i 64 ≡ b → may_stand w i ≡ true
  cases true q = f (ltb-true i 64 q)
  cases false q = stands-late w i (ltb-false i 64 q)

-- a word of ones has each bit set
pub ones-stand : (i : ℕ) → may_stand 18_446_744_073_709_551_615 i ≡ true
ones-stand i = by-place 18_446_744_073_709_551_615 i (λ h. stands-bit 18_446_744_073_709_551_615 i h (bit_at_ones 64 i h))

pub or-first : (a b : ℕ) → KeepsMask a (bit_or a b)
or-first a b i s = by-place (bit_or a b) i (λ h. stands-bit (bit_or a b) i h (let e = bit-stands a i h s in omega (arith, bit_at_or a b i, bit_at-lt b i, e)))

pub or-second : (a b : ℕ) → KeepsMask b (bit_or a b)
or-second a b i s = by-place (bit_or a b) i (λ h. stands-bit (bit_or a b) i h (let e = bit-stands b i h s in omega (arith, bit_at_or a b i, bit_at-lt a i, e)))

pub set-stands : (w k : ℕ) → k < 64 → may_stand (bit_or w (1 * 2 ^ k % 18_446_744_073_709_551_616)) k ≡ true
set-stands w k h = stands-bit (bit_or w (1 * 2 ^ k % 18_446_744_073_709_551_616)) k h (bit_at_set_same w64 w k h)

moved-bit : (w k i : ℕ) → k ≤ i → i < 64 → bit_at ((w / 2 / 2 ^ k) * 2 ^ k % 18_446_744_073_709_551_616) i ≡ bit_at w (suc i)
moved-bit w k i h l =
    let v : ℕ = w / 2 / 2 ^ k in
    let none : v * 2 ^ k + 0 ≡ v * 2 ^ k = omega arith in
    low-bit (v * 2 ^ k) 64 i l ∙ (ap (λ x. bit_at x i) (sym none) ∙ (bit_at_cat_high v k 0 i (pow_pos k) h
    ∙ (high-bit (w / 2) k i h ∙ sym (bit_at-suc w i))))

pub low-stands : (w k m : ℕ) → k < 64 → m ≡ 2 ^ k → KeepsBelow k w (w % m)
low-stands w k m h e i l s =
    let below : i < k = ltb-true i k l in
    let first : i < 64 = omega arith in
    stands-bit (w % m) i first (ap (λ v. bit_at (w % v) i) e ∙ (low-bit w k i below ∙ bit-stands w i first s))

pub moved-stands : (w k i : ℕ) → k ≤ i → i < 63 → may_stand w (suc i) ≡ true → may_stand ((w / 2 / 2 ^ k) * 2 ^ k % 18_446_744_073_709_551_616) i ≡ true
moved-stands w k i h l s =
    let first : i < 64 = omega arith in
    stands-bit ((w / 2 / 2 ^ k) * 2 ^ k % 18_446_744_073_709_551_616) i first (moved-bit w k i h first ∙ bit-stands w (suc i) (omega arith) s)

-- an index after which no bit is set
pub cut-stands : (w k : ℕ) → k < 64 → KeepsBelow k w (w % (1 * 2 ^ k % 18_446_744_073_709_551_616))
cut-stands w k h = low-stands w k (1 * 2 ^ k % 18_446_744_073_709_551_616) h (one_shl k 64 h)

-- an index that is gone
pub moved-up : (w k r : ℕ) → k < 64 → KeepsMask (bit_or ((w / 2 / 2 ^ k) * 2 ^ k % 18_446_744_073_709_551_616) (w % (1 * 2 ^ k % 18_446_744_073_709_551_616))) r → may_stand r 63 ≡ true → MaskMovesUp k w r
moved-up w k r h keeps last =
    let high : ℕ = (w / 2 / 2 ^ k) * 2 ^ k % 18_446_744_073_709_551_616 in
    let low : ℕ = w % (1 * 2 ^ k % 18_446_744_073_709_551_616) in
    (λ i l s. keeps i (or-second high low i (cut-stands w k h i l s)), λ i l s. later i (ltb-false i k l) s)
  where
    later : (i : ℕ) → k ≤ i → may_stand w (suc i) ≡ true → may_stand r i ≡ true
    later i l s = by-place r i (λ first. cases first (ltb i 63) refl) where
      cases : i < 64 → (b : Bool) → ltb i 63 ≡ b → may_stand r i ≡ true
      cases first true q = keeps i (or-first ((w / 2 / 2 ^ k) * 2 ^ k % 18_446_744_073_709_551_616) (w % (1 * 2 ^ k % 18_446_744_073_709_551_616)) i (moved-stands w k i l (ltb-true i 63 q) s))
      cases first false q =
          let past : 63 ≤ i = ltb-false i 63 q in
          let same : 63 ≡ i = omega arith in
          let M : ℕ → Type 0 = λ p. may_stand r p ≡ true in
          subst M same last

pub late-moves : (w k : ℕ) → 64 ≤ k → MaskMovesUp k w w
late-moves w k h = (λ i l s. s, λ i l s. stands-late w i (let past : k ≤ i = ltb-false i k l in omega arith))

clear-stands : (w i : ℕ) → i < 64 → bit_at w i ≡ 0 → may_stand w i ≡ false
unfolding may_stand
clear-stands w i h e = ap (λ b. cond b (eqb (bit_at w i) 1) true) (lt-ltb i 64 h) ∙ ap (λ n. eqb n 1) e

-- a word without a later bit
pub none-later : (w k i : ℕ) → k ≤ i → i < 64 → w / 2 ^ k ≡ 0 → may_stand w i ≡ false
none-later w k i h l none = clear-stands w i l (bits-none-later w k i h none)

-- the next bit of a word
module _ (w k : ℕ) (fits : w < 2 ^ 64) (some : w / 2 ^ k ≡ 0 → ⊥) where
  pub next-stands : may_stand w (k + trailing_zeros w64 (w / 2 ^ k)) ≡ true
  next-stands = stands-bit w (k + trailing_zeros w64 (w / 2 ^ k)) (next-within w k fits some) (next-bit w k fits some)

  pub next-later : (i : ℕ) → k ≤ i → i < k + trailing_zeros w64 (w / 2 ^ k) → may_stand w i ≡ false
  next-later i h l = clear-stands w i (omega (arith, l, next-within w k fits some)) (bits-next-later w k fits some i h l)
