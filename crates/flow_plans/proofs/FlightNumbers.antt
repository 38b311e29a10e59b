-- Bytes as one number: one byte more, and how large it gets.
use Rattle.std.proofs.Common.{◌≡◌, ℕ, suc, ◌+◌, ◌-◌, ◌*◌, ◌^◌, ◌<◌, ◌≤◌, List, [], ◌∷◌, length, take, get_or, slice_range, ap, sym, ◌∙◌, arith}
use Rattle.std.specs.List.{fold}
use Rattle.std.proofs.lemmas.Bool.{le-ltb}
use Rattle.flow_plans.specs.Letters.{letters_of}
use Rattle.std.proofs.Math.Nat.{pow-suc, pow-le-pow_right}
use Rattle.std.proofs.lemmas.List.{take_more, take_all}
use Rattle.std.proofs.lemmas.List.Sums.{fold_push}
use Rattle.flow_plans.specs.Chains.{base_256}

pub number-more : (start : ℕ) (bytes : List ℕ) (k : ℕ) → k < length bytes
    → 256 * fold (λ number byte. 256 * number + byte) start (take k bytes) + get_or bytes k 0 ≡ fold (λ number byte. 256 * number + byte) start (take (k + 1) bytes)
number-more start bytes k within =
    sym (ap (λ (bs : List ℕ). fold (λ number byte. 256 * number + byte) start bs) (take_more bytes k 0 within)
    ∙ fold_push (λ number byte. 256 * number + byte) start (take k bytes) (get_or bytes k 0))

-- the first four bytes are the letters of a name
pub number-front : (bytes : List ℕ) → 4 ≤ length bytes → fold (λ number byte. 256 * number + byte) (letters_of bytes) (slice_range bytes 4 (length bytes)) ≡ base_256 bytes
unfolding base_256 letters_of
number-front [] h = absurd (omega (arith, h))
number-front (a ∷ []) h = absurd (omega (arith, h))
number-front (a ∷ b ∷ []) h = absurd (omega (arith, h))
number-front (a ∷ b ∷ c ∷ []) h = absurd (omega (arith, h))
number-front (a ∷ b ∷ c ∷ d ∷ rest) h =
    let same : 16_777_216 * a + 65_536 * b + 256 * c + d ≡ 256 * (256 * (256 * (256 * 0 + a) + b) + c) + d = omega arith in
    let all : take (length (a ∷ b ∷ c ∷ d ∷ rest) - 4) rest ≡ rest = take_all (length (a ∷ b ∷ c ∷ d ∷ rest) - 4) rest (omega arith) in
    rw (all, le-ltb (length (a ∷ b ∷ c ∷ d ∷ rest)) 4 h) (ap (λ (n : ℕ). fold (λ number byte. 256 * number + byte) n rest) same)

power-more : (k : ℕ) → 256 ^ (k + 1) ≡ 256 ^ k * 256
power-more k = let on : k + 1 ≡ suc k = omega arith in ap (λ n. 256 ^ n) on ∙ pow-suc 256 k

pub bound-more : (number byte k : ℕ) → number < 256 ^ k → byte < 256 → 256 * number + byte < 256 ^ (k + 1)
bound-more number byte k n b = rw (power-more k) (omega (arith, n, b))

pub power-within : (k n : ℕ) → k ≤ n → 256 ^ k ≤ 256 ^ n
power-within k n h = pow-le-pow_right (omega arith) h
