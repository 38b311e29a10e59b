-- The test of four digits in one word.
use Rattle.std.proofs.Common.{◌≡◌, ◌<◌, ◌≤◌, ◌+◌, ◌-◌, ◌*◌, ◌/◌, ◌%◌, ◌^◌, ℕ, Bool, true, false, ◌&&◌, leb, eqb, List, [], ◌∷◌, length, get_or, refl, sym, ap, ◌∙◌, arith, w8, Fits, bit_and, bit_or, take, drop, ◌++◌, codes}
use Rattle.std.specs.List.{list_all}
use Rattle.std.proofs.lemmas.Bool.{eqb-true, eq-eqb, leb-true, le-leb, and_parts}
use Rattle.std.proofs.lemmas.Nat.{and_block, le_or_l, le_or_r}
use Rattle.std.proofs.lemmas.Nat.Bits.{and_high_mask}
use Rattle.fpl_text.specs.Bytes.{is_digit}
use Rattle.fpl_text.specs.Times.{two_digits}

abbrev word : ℕ → ℕ → ℕ → ℕ → ℕ
word a b c d = ((d * 2 ^ 8 + c) * 2 ^ 8 + b) * 2 ^ 8 + a

-- the upper halves of four bytes
uppers-word : (a b c d : ℕ) → a < 2 ^ 8 → b < 2 ^ 8 → c < 2 ^ 8 → d < 2 ^ 8
    → bit_and (word a b c d) 4_042_322_160 ≡ word (a / 16 * 16) (b / 16 * 16) (c / 16 * 16) (d / 16 * 16)
uppers-word a b c d p q r s =
    let upper : (n : ℕ) → n < 2 ^ 8 → bit_and n 240 ≡ n / 16 * 16 = (λ n small. and_high_mask 8 4 (omega arith) n small) in
    and_block 8 ((d * 2 ^ 8 + c) * 2 ^ 8 + b) 15_790_320 a 240 p (omega arith)
    ∙ ap (λ n. n * 2 ^ 8 + bit_and a 240) (and_block 8 (d * 2 ^ 8 + c) 61_680 b 240 q (omega arith)
    ∙ ap (λ n. n * 2 ^ 8 + bit_and b 240) (and_block 8 d 240 c 240 r (omega arith)))
    ∙ (λ i. word (upper a p i) (upper b q i) (upper c r i) (upper d s i))

abbrev AreBelow : ℕ → ℕ → ℕ → ℕ → ℕ → Type 0
AreBelow n a b c d = (a < n) × (b < n) × (c < n) × (d < n)

no_uppers : (a b c d : ℕ) → AreBelow 16 a b c d → bit_and (word a b c d) 4_042_322_160 ≡ 0
no_uppers a b c d h = uppers-word a b c d (omega (arith, h)) (omega (arith, h)) (omega (arith, h)) (omega (arith, h)) ∙ omega (arith, h)

from_no_uppers : (a b c d : ℕ) → AreBelow 256 a b c d → bit_and (word a b c d) 4_042_322_160 ≡ 0 → AreBelow 16 a b c d
from_no_uppers a b c d h none =
    let parts = sym (uppers-word a b c d h.0 h.1 h.2 h.3) ∙ none in
    (omega (arith, parts), omega (arith, parts), omega (arith, parts), omega (arith, parts))

-- the word of four bytes, less '0' in each
abbrev pub less_zeros : ℕ → ℕ
less_zeros n = (n + 3_486_502_864) % 4_294_967_296

-- what the word has beyond digits
abbrev pub beyond_digits : ℕ → ℕ
beyond_digits n = bit_or (bit_and n 4_042_322_160) (bit_and ((n + 101_058_054) % 4_294_967_296) 4_042_322_160)

beyond-none : (a b c d : ℕ) → AreBelow 10 a b c d → beyond_digits (less_zeros (word (a + 48) (b + 48) (c + 48) (d + 48))) ≡ 0
beyond-none a b c d h =
    let low : less_zeros (word (a + 48) (b + 48) (c + 48) (d + 48)) ≡ word a b c d = omega (arith, h) in
    let high : (word a b c d + 101_058_054) % 4_294_967_296 ≡ word (a + 6) (b + 6) (c + 6) (d + 6) = omega (arith, h) in
    ap beyond_digits low
    ∙ rw high (rw (no_uppers a b c d (omega (arith, h), omega (arith, h), omega (arith, h), omega (arith, h)), no_uppers (a + 6) (b + 6) (c + 6) (d + 6) (omega (arith, h), omega (arith, h), omega (arith, h), omega (arith, h))) refl)

from_beyond : (a b c d : ℕ) → AreBelow 256 a b c d → beyond_digits (word a b c d) ≡ 0 → AreBelow 10 a b c d
from_beyond a b c d h none =
    let low : bit_and (word a b c d) 4_042_322_160 ≡ 0 = omega (arith, none, le_or_l (bit_and (word a b c d) 4_042_322_160) (bit_and ((word a b c d + 101_058_054) % 4_294_967_296) 4_042_322_160)) in
    let high : bit_and ((word a b c d + 101_058_054) % 4_294_967_296) 4_042_322_160 ≡ 0 = omega (arith, none, le_or_r (bit_and (word a b c d) 4_042_322_160) (bit_and ((word a b c d + 101_058_054) % 4_294_967_296) 4_042_322_160)) in
    let few = from_no_uppers a b c d h low in
    let more : (word a b c d + 101_058_054) % 4_294_967_296 ≡ word (a + 6) (b + 6) (c + 6) (d + 6) = omega (arith, few) in
    let sums = from_no_uppers (a + 6) (b + 6) (c + 6) (d + 6) (omega (arith, few), omega (arith, few), omega (arith, few), omega (arith, few)) (ap (λ n. bit_and n 4_042_322_160) (sym more) ∙ high) in
    (omega (arith, sums), omega (arith, sums), omega (arith, sums), omega (arith, sums))

both_ways : (p q : Bool) → (p ≡ true → q ≡ true) → (q ≡ true → p ≡ true) → p ≡ q
both_ways true q to from = sym (to refl)
both_ways false true to from = from refl
both_ways false false to from = refl

-- the word of four bytes has nothing beyond digits exactly if they are digits
pub digits-tested : (text : List ℕ) (n : ℕ) → length text ≡ 4 → ((i : ℕ) → Fits w8 (get_or text i 0)) → n ≡ word (get_or text 0 0) (get_or text 1 0) (get_or text 2 0) (get_or text 3 0)
    → eqb (beyond_digits (less_zeros n)) 0 ≡ list_all is_digit text
unfolding is_digit
digits-tested [] n long fits is = absurd (omega (arith, long))
digits-tested (a ∷ []) n long fits is = absurd (omega (arith, long))
digits-tested (a ∷ b ∷ []) n long fits is = absurd (omega (arith, long))
digits-tested (a ∷ b ∷ c ∷ []) n long fits is = absurd (omega (arith, long))
digits-tested (a ∷ b ∷ c ∷ d ∷ []) n long fits is =
    rw is (both_ways _ _ (only a b c d (fits 0).fits (fits 1).fits (fits 2).fits (fits 3).fits) (all a b c d))
  where
    is-digit : (b : ℕ) → leb 48 b && leb b 57 ≡ true → (48 ≤ b) × (b ≤ 57)
    is-digit b h = let parts = and_parts (leb 48 b) (leb b 57) h in (leb-true 48 b parts.0, leb-true b 57 parts.1)

    digit-is : (b : ℕ) → 48 ≤ b → b < 58 → leb 48 b && leb b 57 ≡ true
    digit-is b low high = rw (le-leb 48 b low, le-leb b 57 (omega arith)) refl

    all : (a b c d : ℕ) → list_all is_digit (a ∷ b ∷ c ∷ d ∷ []) ≡ true → eqb (beyond_digits (less_zeros (word a b c d))) 0 ≡ true
    all a b c d h =
        let p = and_parts (leb 48 a && leb a 57) _ h in
        let q = and_parts (leb 48 b && leb b 57) _ p.1 in
        let r = and_parts (leb 48 c && leb c 57) _ q.1 in
        let s = and_parts (leb 48 d && leb d 57) _ r.1 in
        let e = is-digit a p.0 in
        let f = is-digit b q.0 in
        let g = is-digit c r.0 in
        let h = is-digit d s.0 in
        let same : word a b c d ≡ word (a - 48 + 48) (b - 48 + 48) (c - 48 + 48) (d - 48 + 48) = omega (arith, e, f, g, h) in
        rw same (eq-eqb _ 0 (beyond-none (a - 48) (b - 48) (c - 48) (d - 48) (omega (arith, e), omega (arith, f), omega (arith, g), omega (arith, h))))

    only : (a b c d : ℕ) → a < 256 → b < 256 → c < 256 → d < 256 → eqb (beyond_digits (less_zeros (word a b c d))) 0 ≡ true → list_all is_digit (a ∷ b ∷ c ∷ d ∷ []) ≡ true
    only a b c d k l m o h =
        let x = less_zeros (word a b c d) in
        let split : x ≡ word (x % 256) (x / 256 % 256) (x / 65_536 % 256) (x / 16_777_216) = omega arith in
        let few = from_beyond (x % 256) (x / 256 % 256) (x / 65_536 % 256) (x / 16_777_216) (omega arith, omega arith, omega arith, omega arith) (ap beyond_digits (sym split) ∙ eqb-true _ 0 h) in
        let sum : word a b c d ≡ word (x % 256 + 48) (x / 256 % 256 + 48) (x / 65_536 % 256 + 48) (x / 16_777_216 + 48) = omega (arith, few, split) in
        let e : a ≡ x % 256 + 48 = omega (arith, sum, few) in
        let f : b ≡ x / 256 % 256 + 48 = omega (arith, sum, few) in
        let g : c ≡ x / 65_536 % 256 + 48 = omega (arith, sum, few) in
        let i : d ≡ x / 16_777_216 + 48 = omega (arith, sum, few) in
        rw (digit-is a (omega (arith, e)) (omega (arith, e, few)), digit-is b (omega (arith, f)) (omega (arith, f, few)), digit-is c (omega (arith, g)) (omega (arith, g, few)), digit-is d (omega (arith, i)) (omega (arith, i, few))) refl
digits-tested (a ∷ b ∷ c ∷ d ∷ e ∷ text) n long fits is = absurd (omega (arith, long))

-- two tests at once
pub both_none : (m n : ℕ) → eqb (bit_or m n) 0 ≡ eqb m 0 && eqb n 0
both_none m n =
    both_ways _ _
    (λ h.
    let none = eqb-true _ 0 h in
    let first : m ≡ 0 = omega (arith, none, le_or_l m n) in
    let last : n ≡ 0 = omega (arith, none, le_or_r m n) in
    rw (eq-eqb m 0 first, eq-eqb n 0 last) refl)
    (λ h.
    let parts = and_parts (eqb m 0) (eqb n 0) h in
    rw (eqb-true m 0 parts.0, eqb-true n 0 parts.1) refl)

-- six digits are four and two of them
pub six-digits : (text : List ℕ) → length text ≡ 6 → list_all is_digit text ≡ list_all is_digit (take 4 text) && list_all is_digit (drop 4 text ++ codes "00")
unfolding is_digit
six-digits [] long = absurd (omega (arith, long))
six-digits (a ∷ []) long = absurd (omega (arith, long))
six-digits (a ∷ b ∷ []) long = absurd (omega (arith, long))
six-digits (a ∷ b ∷ c ∷ []) long = absurd (omega (arith, long))
six-digits (a ∷ b ∷ c ∷ d ∷ []) long = absurd (omega (arith, long))
six-digits (a ∷ b ∷ c ∷ d ∷ e ∷ []) long = absurd (omega (arith, long))
six-digits (a ∷ b ∷ c ∷ d ∷ e ∷ f ∷ []) long = all (is_digit a) (is_digit b) (is_digit c) (is_digit d) (list_all is_digit (e ∷ f ∷ []))
  where
    all : (a b c d e : Bool) → (a && (b && (c && (d && e)))) ≡ (a && (b && (c && (d && true)))) && e
    all true true true true e = refl
    all true true true false e = refl
    all true true false d e = refl
    all true false c d e = refl
    all false b c d e = refl
six-digits (a ∷ b ∷ c ∷ d ∷ e ∷ f ∷ g ∷ text) long = absurd (omega (arith, long))

-- and their pairs
pub six-pairs : (text : List ℕ) → length text ≡ 6 → (two_digits (take 4 text) 0 ≡ two_digits text 0) × (two_digits (take 4 text) 2 ≡ two_digits text 2) × (two_digits (drop 4 text ++ codes "00") 0 ≡ two_digits text 4)
unfolding two_digits
six-pairs [] long = absurd (omega (arith, long))
six-pairs (a ∷ []) long = absurd (omega (arith, long))
six-pairs (a ∷ b ∷ []) long = absurd (omega (arith, long))
six-pairs (a ∷ b ∷ c ∷ []) long = absurd (omega (arith, long))
six-pairs (a ∷ b ∷ c ∷ d ∷ []) long = absurd (omega (arith, long))
six-pairs (a ∷ b ∷ c ∷ d ∷ e ∷ []) long = absurd (omega (arith, long))
six-pairs (a ∷ b ∷ c ∷ d ∷ e ∷ f ∷ []) long = (refl, refl, refl)
six-pairs (a ∷ b ∷ c ∷ d ∷ e ∷ f ∷ g ∷ text) long = absurd (omega (arith, long))

-- the test of a date's digits
pub six-tested : (text front back : List ℕ) → length text ≡ 6 → front ≡ take 4 text → back ≡ drop 4 text ++ codes "00" → list_all is_digit front && list_all is_digit back ≡ list_all is_digit text
six-tested text front back long first last = (λ i. list_all is_digit (first i) && list_all is_digit (last i)) ∙ sym (six-digits text long)
