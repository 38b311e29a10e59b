-- What the operations on vectors of 16 bytes hold at each lane.
use Rattle.std.proofs.Common.{◌+◌, ◌≡◌, ◌↔◌, ℕ, ◌%◌, ◌^◌, ◌<◌, ◌≤◌, ◌-◌, List, [], ◌∷◌, Bool, true, false, cond, not, leb, eqb, ◌&&◌, ◌||◌, length, get_or, map, replicate, take, refl, sym, ap, ◌∙◌, arith, w8, w64, Fits, bit_and, bit_or, ⊎_elim, shr-shr, ◌/◌, zero, suc, ◌*◌, ◌++◌, drop}
use Rattle.std.specs.Int.{bit_at, trailing_ones, trailing_zeros}
use Rattle.std.specs.Int.RustNames.{count_ones}
use Rattle.std.specs.List.{count_by, list_all}
use Rattle.std.specs.Simd.Lanes.{Each1, zip2, sel_l, mask_l, top}
use Rattle.std.specs.Cmp.{both_ways}
use Rattle.std.proofs.lemmas.Simd.{bitmask_splat, ones-mask_l, length-zip2, get_or-zip2, get_or-replicate, length-sel_l, get_or-sel_l, bit_mask_l, tops_compared, mask_l-mod, mask_l-lt, length-chunk, chunk-fits}
use Rattle.std.proofs.lemmas.Nat.Bits.{bit_at-trailing_ones, bit_at-trailing_zeros, bit_at-pow_same, bit_at-pow_other, bit_at_or}
use Rattle.std.proofs.lemmas.Nat.{and_le_l, shr_le}
use lib.Bits.{or_add_and}
use Rattle.std.specs.Prelude.{max}
use Rattle.std.proofs.lemmas.Bool.{cases_lt, leb-true, leb-false, lt-leb, le-leb, and_parts, eqb-true, eq-eqb, agree_below_at}
use Rattle.std.proofs.lemmas.List.{length-map, get_or_past, length-append, length-take}
use Rattle.std.proofs.Math.ListN.{get_or-map}
use Rattle.fpl_text.specs.Bytes.{is_digit, is_letter, is_letter_or_digit}
use Rattle.fpl_text.specs.Lanes.{HasLanes, HasFlags, flag}

and_flags : (p q : Bool) → bit_and (flag p) (flag q) ≡ flag (p && q)
and_flags true true = refl
and_flags true false = refl
and_flags false true = refl
and_flags false false = refl

or_flags : (p q : Bool) → bit_or (flag p) (flag q) ≡ flag (p || q)
or_flags true true = refl
or_flags true false = refl
or_flags false true = refl
or_flags false false = refl

-- an operator on two vectors
pub lanes-zip2 : (f : ℕ → ℕ → ℕ) (a b : List ℕ) → length a ≡ 16 → length b ≡ 16 → HasLanes (zip2 f a b) (λ k. f (get_or a k 0) (get_or b k 0))
lanes-zip2 f a b p q = record {
  long = length-zip2 f a b (p ∙ sym q) ∙ p;
  each = λ k l. get_or-zip2 f a b k 0 0 0 (omega arith) (omega arith);
}

pub lanes-both : (a b : List ℕ) (p q : ℕ → Bool) → HasFlags a p → HasFlags b q → HasFlags (zip2 bit_and a b) (λ k. p k && q k)
lanes-both a b p q h i = record {
  long = (lanes-zip2 bit_and a b h.long i.long).long;
  each = λ k l. (lanes-zip2 bit_and a b h.long i.long).each k l ∙ rw (h.each k l, i.each k l) (and_flags (p k) (q k));
}

pub lanes-either : (a b : List ℕ) (p q : ℕ → Bool) → HasFlags a p → HasFlags b q → HasFlags (zip2 bit_or a b) (λ k. p k || q k)
lanes-either a b p q h i = record {
  long = (lanes-zip2 bit_or a b h.long i.long).long;
  each = λ k l. (lanes-zip2 bit_or a b h.long i.long).each k l ∙ rw (h.each k l, i.each k l) (or_flags (p k) (q k));
}

-- a choice of two vectors by the comparison of two others
pub lanes-compared : (t : ℕ → ℕ → Bool) (a b ys zs : List ℕ) → length a ≡ 16 → length b ≡ 16 → length ys ≡ 16 → length zs ≡ 16
    → HasLanes (sel_l (zip2 t a b) ys zs) (λ k. cond (t (get_or a k 0) (get_or b k 0)) (get_or ys k 0) (get_or zs k 0))
lanes-compared t a b ys zs p q r s =
    let long : length (zip2 t a b) ≡ 16 = length-zip2 t a b (p ∙ sym q) ∙ p in
    record {
      long = length-sel_l _ ys zs (long ∙ sym r) (long ∙ sym s) ∙ long;
      each = λ k l.
          get_or-sel_l _ ys zs k 0 (omega arith) (omega arith) (omega arith)
          ∙ ap (λ c. cond c (get_or ys k 0) (get_or zs k 0)) (get_or-zip2 t a b k 0 0 false (omega arith) (omega arith));
    }

-- other lanes of the same values
pub lanes-same : (v : List ℕ) (f g : ℕ → ℕ) → ((k : ℕ) → k < 16 → f k ≡ g k) → HasLanes v f → HasLanes v g
lanes-same v f g same h = record { long = h.long; each = λ k l. h.each k l ∙ same k l }

-- flags by the comparison with a splat, on either side
pub flags-right : (t : ℕ → ℕ → Bool) (v : List ℕ) (x : ℕ) → length v ≡ 16
    → HasFlags (sel_l (zip2 t v (replicate 16 x)) (replicate 16 255) (replicate 16 0)) (λ k. t (get_or v k 0) x)
flags-right t v x long =
    lanes-same _ _ _
    (λ k l. λ i. cond (t (get_or v k 0) (get_or-replicate 16 k x 0 l i)) (get_or-replicate 16 k 255 0 l i) (get_or-replicate 16 k 0 0 l i))
    (lanes-compared t v (replicate 16 x) (replicate 16 255) (replicate 16 0) long refl refl refl)

pub flags-left : (t : ℕ → ℕ → Bool) (v : List ℕ) (x : ℕ) → length v ≡ 16
    → HasFlags (sel_l (zip2 t (replicate 16 x) v) (replicate 16 255) (replicate 16 0)) (λ k. t x (get_or v k 0))
flags-left t v x long =
    lanes-same _ _ _
    (λ k l. λ i. cond (t (get_or-replicate 16 k x 0 l i) (get_or v k 0)) (get_or-replicate 16 k 255 0 l i) (get_or-replicate 16 k 0 0 l i))
    (lanes-compared t (replicate 16 x) v (replicate 16 255) (replicate 16 0) refl long refl refl)

unlike : (p : Bool) → cond p 0 255 ≡ flag (not p)
unlike true = refl
unlike false = refl

-- flags by the comparison of two vectors
pub flags-each : (t : ℕ → ℕ → Bool) (a b : List ℕ) → length a ≡ 16 → length b ≡ 16
    → HasFlags (sel_l (zip2 t a b) (replicate 16 255) (replicate 16 0)) (λ k. t (get_or a k 0) (get_or b k 0))
flags-each t a b p q =
    lanes-same _ _ _
    (λ k l. λ i. cond (t (get_or a k 0) (get_or b k 0)) (get_or-replicate 16 k 255 0 l i) (get_or-replicate 16 k 0 0 l i))
    (lanes-compared t a b (replicate 16 255) (replicate 16 0) p q refl refl)

-- flags if the comparison with a splat fails
pub flags-other : (t : ℕ → ℕ → Bool) (v : List ℕ) (x : ℕ) → length v ≡ 16
    → HasFlags (sel_l (zip2 t v (replicate 16 x)) (replicate 16 0) (replicate 16 255)) (λ k. not (t (get_or v k 0) x))
flags-other t v x long =
    lanes-same _ _ _
    (λ k l. (λ i. cond (t (get_or v k 0) (get_or-replicate 16 k x 0 l i)) (get_or-replicate 16 k 0 0 l i) (get_or-replicate 16 k 255 0 l i)) ∙ unlike (t (get_or v k 0) x))
    (lanes-compared t v (replicate 16 x) (replicate 16 0) (replicate 16 255) long refl refl refl)

abbrev pub is_set : ℕ → Bool
is_set x = leb 128 x

set_tells : (x : ℕ) (b : Bool) → leb 128 x ≡ b → (cond {A = ℕ} b 1 0 ≡ 1) ↔ (128 ≤ x)
set_tells x true e = (λ h. leb-true 128 x e, λ h. refl)
set_tells x false e = (λ h. absurd (omega arith), λ h. omega (arith, leb-false 128 x e))

bit_at-mask_l : (v : List ℕ) (k : ℕ) → (bit_at (mask_l (map is_set v)) k ≡ 1) ↔ (128 ≤ get_or v k 0)
bit_at-mask_l v k =
    let e : bit_at (mask_l (map is_set v)) k ≡ cond (is_set (get_or v k 0)) 1 0 = bit_mask_l (map is_set v) k ∙ ap (λ b. cond b 1 0) (get_or-map is_set v k 0) in
    let t = set_tells (get_or v k 0) _ refl in
    (λ h. t.0 (sym e ∙ h), λ h. e ∙ t.1 h)

splat_zip2 : {Z : Type 0} (f : ℕ → ℕ → Z) (x : ℕ) (ys : List ℕ) → zip2 f (replicate (length ys) x) ys ≡ map (f x) ys
splat_zip2 f x [] = refl
splat_zip2 f x (y ∷ ys) = ap (λ rest. f x y ∷ rest) (splat_zip2 f x ys)

-- `to_bitmask` of `simd_ge` with 128
pub top_bitmask : (v : List ℕ) (n : ℕ) → length v ≡ n → n ≤ 64
    → mask_l (map (top 7) (zip2 (λ a b. cond (leb a b) 255 0) (replicate n 128) v)) % 2 ^ 64 ≡ mask_l (map is_set v)
top_bitmask v n long small =
    ap (λ ms. mask_l ms % 2 ^ 64) (tops_compared w8 leb (replicate n 128) v ∙ ap (λ m. zip2 leb (replicate m 128) v) (sym long) ∙ splat_zip2 leb 128 v)
    ∙ mask_l-mod (map is_set v) 64 (omega (arith, length-map v is_set))

-- the mask of the lanes' top bits
pub record IsMask (v : List ℕ) (m : ℕ) : Type 0 where
  pub bits : (k : ℕ) → (bit_at m k ≡ 1) ↔ (128 ≤ get_or v k 0)
  pub small : m < 65536

pub mask-tops : (v : List ℕ) → length v ≡ 16 → IsMask v (mask_l (map is_set v))
mask-tops v long = record {
  bits = bit_at-mask_l v;
  small = rw (length-map v is_set, long) at (mask_l-lt (map is_set v));
}

set_flag : (p : Bool) → 128 ≤ flag p → p ≡ true
set_flag true h = refl
set_flag false h = absurd (omega arith)

unset_flag : (p : Bool) → (128 ≤ flag p → ⊥) → p ≡ false
unset_flag true h = absurd (h (omega arith))
unset_flag false h = refl

-- how many consecutive bits of a mask are set from an index on
pub record IsFrontFrom (v : List ℕ) (place n : ℕ) : Type 0 where
  pub bound : place + n ≤ 16
  pub set : (p : ℕ → Bool) → HasFlags v p → (k : ℕ) → k < n → p (place + k) ≡ true
  pub stops : (p : ℕ → Bool) → HasFlags v p → place + n < 16 → p (place + n) ≡ false

pub front-from : (v : List ℕ) (m place : ℕ) → length v ≡ 16 → place ≤ 16 → ((k : ℕ) → (bit_at m k ≡ 1) ↔ (128 ≤ get_or v k 0)) → m < 65536
    → IsFrontFrom v place (trailing_ones w64 (m / 2 ^ place))
front-from v m place long few bits small =
    let low : m / 2 ^ place ≤ m = shr_le m place in
    let t = bit_at-trailing_ones w64 (m / 2 ^ place) (omega arith) in
    let n = trailing_ones w64 (m / 2 ^ place) in
    let shifted : (k : ℕ) → bit_at (m / 2 ^ place) k ≡ bit_at m (place + k) = (λ k. ap (λ x. x % 2) (shr-shr m place k)) in
    let inside : (k : ℕ) → k < n → 128 ≤ get_or v (place + k) 0 = (λ k l. (bits (place + k)).0 (sym (shifted k) ∙ t.2 k l)) in
    let bound : place + n ≤ 16 =
    ⊎_elim
    (λ h.
    let last : place + (16 - place) ≡ 16 = omega arith in
    let past : 128 ≤ 0 = rw (last, get_or_past v 16 0 (omega arith)) at (inside (16 - place) (omega arith)) in
    absurd (omega arith))
    (λ h. h)
    (cases_lt 16 (place + n)) in
    record {
      bound = bound;
      set = λ p h k l. set_flag (p (place + k)) (rw (h.each (place + k) (omega arith)) at (inside k l));
      stops = λ p h l.
          unset_flag (p (place + n)) (λ high.
          let one = (bits (place + n)).1 (rw (h.each (place + n) l) high) in
          absurd (omega (arith, t.1, shifted n, one)));
    }

pub one_from : (p : Bool) → cond {A = ℕ} p 1 0 ≡ 1 → p ≡ true
one_from true h = refl
one_from false h = absurd (omega arith)

-- how many lanes hold a byte
pub lanes-count : (v : List ℕ) (byte : ℕ) → length v ≡ 16
    → count_ones (mask_l (map (top 7) (zip2 (λ a b. cond (eqb a b) 255 0) v (replicate 16 byte))) % 2 ^ 64) ≡ count_by (λ b. eqb b byte) v
lanes-count v byte long = ap count_ones (bitmask_splat w8 eqb v 16 byte long (omega arith)) ∙ ones-mask_l (λ b. eqb b byte) v

pub letters_are : (x : ℕ) → (leb 65 x && leb x 90) ≡ is_letter x
unfolding is_letter
letters_are x = refl

pub digits_are : (x : ℕ) → (leb 48 x && leb x 57) ≡ is_digit x
unfolding is_digit
digits_are x = refl

-- how many of 8 lanes precede the first space
pub record IsBeforeSpace (v : List ℕ) (n : ℕ) : Type 0 where
  pub bound : n ≤ 8
  pub none : (k : ℕ) → k < n → eqb (get_or v k 0) 32 ≡ false
  pub found : n < 8 → eqb (get_or v n 0) 32 ≡ true

abbrev is_space : ℕ → Bool
is_space x = eqb x 32

pub zero_from : (p : Bool) → cond {A = ℕ} p 1 0 ≡ 0 → p ≡ false
zero_from true h = absurd (omega arith)
zero_from false h = refl

pub front-space : (v : List ℕ) → length v ≡ 8
    → IsBeforeSpace v (trailing_zeros w64 (bit_or (mask_l (map (top 7) (zip2 (λ a b. cond (eqb a b) 255 0) v (replicate 8 32))) % 2 ^ 64) 256))
front-space v long =
    let m = mask_l (map is_space v) in
    let same = bitmask_splat w8 eqb v 8 32 long (omega arith) in
    let few : m < 256 = rw (length-map v is_space, long) at (mask_l-lt (map is_space v)) in
    let bits : (k : ℕ) → bit_at m k ≡ cond (is_space (get_or v k 0)) 1 0 = (λ k. bit_mask_l (map is_space v) k ∙ ap (λ b. cond b 1 0) (get_or-map is_space v k 0)) in
    let end = bit_at-pow_same 8 in
    let sum = or_add_and m 256 in
    let low = and_le_l m 256 in
    let some : 0 < bit_or m 256 = omega (arith, sum, low, few) in
    let small : bit_or m 256 < 2 ^ 64 = omega (arith, sum, low, few) in
    let t = bit_at-trailing_zeros w64 (bit_or m 256) some small in
    let n = trailing_zeros w64 (bit_or m 256) in
    let bit : (k : ℕ) → bit_at (bit_or m 256) k ≡ max (bit_at m k) (bit_at 256 k) = (λ k. bit_at_or m 256 k) in
    let bound : n ≤ 8 = ⊎_elim (λ h. let none = t.2 8 h in absurd (omega (arith, none, bit 8, end))) (λ h. h) (cases_lt 8 n) in
    rw same (record {
      bound = bound;
      none = λ k l. zero_from (is_space (get_or v k 0)) (let none = t.2 k l in omega (arith, bits k, none, bit k));
      found = λ l.
          let other : bit_at 256 n ≡ 0 = bit_at-pow_other 8 n (λ same. omega (arith, same)) in
          one_from (is_space (get_or v n 0)) (omega (arith, bits n, t.1, bit n, other));
    })

-- ---- four bytes

-- a byte is in a range if what it is above the lowest is no more than the range is wide
in-range : (b low high : ℕ) → b < 256 → low ≤ high → high < 256 → leb ((b + (2 ^ 8 - low)) % 2 ^ 8) (high - low) ≡ (leb low b && leb b high)
in-range b low high few order most =
    ⊎_elim
    (λ below. rw (lt-leb low b below) (lt-leb ((b + (2 ^ 8 - low)) % 2 ^ 8) (high - low) (omega (arith, below, few, order, most))))
    (λ from.
    rw (le-leb low b from)
    (⊎_elim
    (λ above. lt-leb ((b + (2 ^ 8 - low)) % 2 ^ 8) (high - low) (omega (arith, above, from, few, order, most)) ∙ sym (lt-leb b high above))
    (λ within. le-leb ((b + (2 ^ 8 - low)) % 2 ^ 8) (high - low) (omega (arith, within, from, few, order, most)) ∙ sym (le-leb b high within))
    (cases_lt high b)))
    (cases_lt b low)

all-four : (p q r s : Bool) → eqb (mask_l (p ∷ q ∷ r ∷ s ∷ [])) 15 ≡ (p && (q && (r && (s && true))))
all-four false false false false = refl
all-four false false false true = refl
all-four false false true false = refl
all-four false false true true = refl
all-four false true false false = refl
all-four false true false true = refl
all-four false true true false = refl
all-four false true true true = refl
all-four true false false false = refl
all-four true false false true = refl
all-four true false true false = refl
all-four true false true true = refl
all-four true true false false = refl
all-four true true false true = refl
all-four true true true false = refl
all-four true true true true = refl

-- the bitmask of four bytes in a range
pub four-in : (text : List ℕ) (low high : ℕ) → length text ≡ 4 → ((i : ℕ) → Fits w8 (get_or text i 0)) → low ≤ high → high < 256
    → eqb (mask_l (map (top 7) (zip2 (λ a b. cond (leb a b) 255 0) (zip2 (λ a b. (a + (2 ^ 8 - b)) % 2 ^ 8) (take 4 text) (replicate 4 low)) (replicate 4 (high - low)))) % 2 ^ 64) 15
    ≡ list_all (λ b. leb low b && leb b high) text
four-in [] low high long fits order most = absurd (omega (arith, long))
four-in (a ∷ []) low high long fits order most = absurd (omega (arith, long))
four-in (a ∷ b ∷ []) low high long fits order most = absurd (omega (arith, long))
four-in (a ∷ b ∷ c ∷ []) low high long fits order most = absurd (omega (arith, long))
four-in (a ∷ b ∷ c ∷ d ∷ []) low high long fits order most =
    let above : ℕ → ℕ = λ x. (x + (2 ^ 8 - low)) % 2 ^ 8 in
    let test : ℕ → Bool = λ x. leb (above x) (high - low) in
    ap (λ m. eqb m 15) (bitmask_splat w8 leb (above a ∷ above b ∷ above c ∷ above d ∷ []) 4 (high - low) refl (omega arith))
    ∙ all-four (test a) (test b) (test c) (test d)
    ∙ (λ i.
    in-range a low high (fits 0).fits order most i && (in-range b low high (fits 1).fits order most i && (in-range c low high (fits 2).fits order most i && (in-range d low high (fits 3).fits order most i && true))))
four-in (a ∷ b ∷ c ∷ d ∷ e ∷ text) low high long fits order most = absurd (omega (arith, long))

-- ---- four letters, an elapsed time and a space

abbrev pub estimate_low : List ℕ
estimate_low = 65 ∷ 65 ∷ 65 ∷ 65 ∷ 48 ∷ 48 ∷ 48 ∷ 48 ∷ 32 ∷ 0 ∷ 0 ∷ 0 ∷ 0 ∷ 0 ∷ 0 ∷ 0 ∷ []

abbrev pub estimate_width : List ℕ
estimate_width = 25 ∷ 25 ∷ 25 ∷ 25 ∷ 9 ∷ 9 ∷ 5 ∷ 9 ∷ 0 ∷ 255 ∷ 255 ∷ 255 ∷ 255 ∷ 255 ∷ 255 ∷ 255 ∷ []

-- lane k holds a byte that is no more than its width above its lowest
abbrev pub lies : List ℕ → ℕ → Bool
lies v k = leb ((get_or v k 0 + (256 - get_or estimate_low k 0)) % 256) (get_or estimate_width k 0)

pub estimate-letter : (v : List ℕ) (k : ℕ) → k < 4 → get_or v k 0 < 256 → lies v k ≡ true → is_letter (get_or v k 0) ≡ true
unfolding is_letter
estimate-letter v zero l fits h = sym (in-range (get_or v 0 0) 65 90 fits (omega arith) (omega arith)) ∙ h
estimate-letter v (suc zero) l fits h = sym (in-range (get_or v 1 0) 65 90 fits (omega arith) (omega arith)) ∙ h
estimate-letter v (suc (suc zero)) l fits h = sym (in-range (get_or v 2 0) 65 90 fits (omega arith) (omega arith)) ∙ h
estimate-letter v (suc (suc (suc zero))) l fits h = sym (in-range (get_or v 3 0) 65 90 fits (omega arith) (omega arith)) ∙ h
estimate-letter v (suc (suc (suc (suc k)))) l fits h = absurd (omega arith)

-- the tens of the minutes
tens-lie : (v : List ℕ) → get_or v 6 0 < 256 → lies v 6 ≡ true → (leb 48 (get_or v 6 0) ≡ true) × (leb (get_or v 6 0) 53 ≡ true)
tens-lie v fits h = and_parts _ _ (sym (in-range (get_or v 6 0) 48 53 fits (omega arith) (omega arith)) ∙ h)

pub estimate-digit : (v : List ℕ) (k : ℕ) → k < 4 → get_or v (4 + k) 0 < 256 → lies v (4 + k) ≡ true → is_digit (get_or v (4 + k) 0) ≡ true
unfolding is_digit
estimate-digit v zero l fits h = sym (in-range (get_or v 4 0) 48 57 fits (omega arith) (omega arith)) ∙ h
estimate-digit v (suc zero) l fits h = sym (in-range (get_or v 5 0) 48 57 fits (omega arith) (omega arith)) ∙ h
estimate-digit v (suc (suc zero)) l fits h =
    let parts = tens-lie v fits h in
    rw (parts.0, le-leb (get_or v 6 0) 57 (omega (arith, leb-true (get_or v 6 0) 53 parts.1))) refl
estimate-digit v (suc (suc (suc zero))) l fits h = sym (in-range (get_or v 7 0) 48 57 fits (omega arith) (omega arith)) ∙ h
estimate-digit v (suc (suc (suc (suc k)))) l fits h = absurd (omega arith)

pub estimate-tens : (v : List ℕ) → get_or v 6 0 < 256 → lies v 6 ≡ true → get_or v 6 0 ≤ 53
estimate-tens v fits h = leb-true (get_or v 6 0) 53 (tens-lie v fits h).1

pub estimate-space : (v : List ℕ) → get_or v 8 0 < 256 → lies v 8 ≡ true → get_or v 8 0 ≡ 32
estimate-space v fits h =
    let parts : (leb 32 (get_or v 8 0) ≡ true) × (leb (get_or v 8 0) 32 ≡ true) = and_parts _ _ (sym (in-range (get_or v 8 0) 32 32 fits (omega arith) (omega arith)) ∙ h) in
    omega (arith, leb-true 32 (get_or v 8 0) parts.0, leb-true (get_or v 8 0) 32 parts.1)

-- ---- 4 to 8 bytes

double : (n : ℕ) → 2 ^ suc n ≡ 2 * 2 ^ n
double n = omega arith

-- the bitmask of lanes that all pass
all-set : (ms : List Bool) → eqb (mask_l ms) (2 ^ length ms - 1) ≡ list_all (λ m. m) ms
all-set [] = refl
all-set (false ∷ ms) = not_from_ne (eqb (0 + 2 * mask_l ms) (2 ^ suc (length ms) - 1)) (λ e. let same = eqb-true _ _ e in absurd (omega (arith, same, double (length ms), mask_l-lt ms)))
  where
    not_from_ne : (b : Bool) → (b ≡ true → ⊥) → b ≡ false
    not_from_ne true f = absurd (f refl)
    not_from_ne false f = refl
all-set (true ∷ ms) =
    both_ways (eqb (1 + 2 * mask_l ms) (2 ^ suc (length ms) - 1)) (eqb (mask_l ms) (2 ^ length ms - 1))
    (λ e. let same = eqb-true _ _ e in eq-eqb _ _ (omega (arith, same, double (length ms), mask_l-lt ms)))
    (λ e. let same = eqb-true _ _ e in eq-eqb _ _ (omega (arith, same, double (length ms), mask_l-lt ms)))
    ∙ all-set ms

abbrev in_either : ℕ → Bool
in_either x = leb 128 (bit_or (cond (leb ((x + (2 ^ 8 - 65)) % 2 ^ 8) 25) 255 0) (cond (leb ((x + (2 ^ 8 - 48)) % 2 ^ 8) 9) 255 0))

either-is : (x : ℕ) → x < 256 → in_either x ≡ is_letter_or_digit x
unfolding is_letter is_digit
either-is x l = agree_below_at (λ b. in_either b) (λ b. is_letter_or_digit b) 256 x refl l

all-either : (v : List ℕ) → Each1 (Fits w8) v → list_all (λ m. m) (map in_either v) ≡ list_all is_letter_or_digit v
all-either [] fits = refl
all-either (x ∷ v) fits = λ i. either-is x fits.0.fits i && all-either v fits.1 i

-- the two comparisons of eight lanes
pub eight-in : (v : List ℕ) → length v ≡ 8 → Each1 (Fits w8) v
    → eqb (mask_l (map (top 7) (zip2 bit_or
    (zip2 (λ a b. cond (leb a b) 255 0) (zip2 (λ a b. (a + (2 ^ 8 - b)) % 2 ^ 8) v (replicate 8 65)) (replicate 8 25))
    (zip2 (λ a b. cond (leb a b) 255 0) (zip2 (λ a b. (a + (2 ^ 8 - b)) % 2 ^ 8) v (replicate 8 48)) (replicate 8 9)))) % 2 ^ 64) 255
    ≡ list_all is_letter_or_digit v
eight-in (a ∷ b ∷ c ∷ d ∷ e ∷ f ∷ g ∷ h ∷ []) long fits =
    let v : List ℕ = a ∷ b ∷ c ∷ d ∷ e ∷ f ∷ g ∷ h ∷ [] in
    ap (λ m. eqb m 255) (mask_l-mod (map in_either v) 64 (omega arith)) ∙ all-set (map in_either v) ∙ all-either v fits
eight-in [] long fits = absurd (omega (arith, long))
eight-in (a ∷ []) long fits = absurd (omega (arith, long))
eight-in (a ∷ b ∷ []) long fits = absurd (omega (arith, long))
eight-in (a ∷ b ∷ c ∷ []) long fits = absurd (omega (arith, long))
eight-in (a ∷ b ∷ c ∷ d ∷ []) long fits = absurd (omega (arith, long))
eight-in (a ∷ b ∷ c ∷ d ∷ e ∷ []) long fits = absurd (omega (arith, long))
eight-in (a ∷ b ∷ c ∷ d ∷ e ∷ f ∷ []) long fits = absurd (omega (arith, long))
eight-in (a ∷ b ∷ c ∷ d ∷ e ∷ f ∷ g ∷ []) long fits = absurd (omega (arith, long))
eight-in (a ∷ b ∷ c ∷ d ∷ e ∷ f ∷ g ∷ h ∷ i ∷ v) long fits = absurd (omega (arith, long))

-- the first and the last four bytes
abbrev pub ends : List ℕ → List ℕ
ends text = take 4 text ++ take 4 (drop (length text - 4) text)

pub length-ends : (text : List ℕ) → 4 ≤ length text → length (ends text) ≡ 8
length-ends text long =
    length-append (take 4 text) (take 4 (drop (length text - 4) text))
    ∙ omega (arith, length-take 4 text, length-chunk (length text - 4) 4 text (omega (arith, long)), long)

pub ends-all : (p : ℕ → Bool) (text : List ℕ) → 4 ≤ length text → length text ≤ 8 → list_all p (ends text) ≡ list_all p text
ends-all p (a ∷ b ∷ c ∷ d ∷ []) long short = by (p a) (p b) (p c) (p d) where
  by : (a b c d : Bool) → (a && (b && (c && (d && (a && (b && (c && (d && true)))))))) ≡ (a && (b && (c && (d && true))))
  by false b c d = refl
  by true false c d = refl
  by true true false d = refl
  by true true true false = refl
  by true true true true = refl
ends-all p (a ∷ b ∷ c ∷ d ∷ e ∷ []) long short = by (p a) (p b) (p c) (p d) (p e) where
  by : (a b c d e : Bool) → (a && (b && (c && (d && (b && (c && (d && (e && true)))))))) ≡ (a && (b && (c && (d && (e && true)))))
  by false b c d e = refl
  by true false c d e = refl
  by true true false d e = refl
  by true true true false e = refl
  by true true true true e = refl
ends-all p (a ∷ b ∷ c ∷ d ∷ e ∷ f ∷ []) long short = by (p a) (p b) (p c) (p d) (p e) (p f) where
  by : (a b c d e f : Bool) → (a && (b && (c && (d && (c && (d && (e && (f && true)))))))) ≡ (a && (b && (c && (d && (e && (f && true))))))
  by false b c d e f = refl
  by true false c d e f = refl
  by true true false d e f = refl
  by true true true false e f = refl
  by true true true true e f = refl
ends-all p (a ∷ b ∷ c ∷ d ∷ e ∷ f ∷ g ∷ []) long short = by (p a) (p b) (p c) (p d) (p e) (p f) (p g) where
  by : (a b c d e f g : Bool) → (a && (b && (c && (d && (d && (e && (f && (g && true)))))))) ≡ (a && (b && (c && (d && (e && (f && (g && true)))))))
  by false b c d e f g = refl
  by true false c d e f g = refl
  by true true false d e f g = refl
  by true true true false e f g = refl
  by true true true true e f g = refl
ends-all p (a ∷ b ∷ c ∷ d ∷ e ∷ f ∷ g ∷ h ∷ []) long short = refl
ends-all p (a ∷ b ∷ c ∷ d ∷ e ∷ f ∷ g ∷ h ∷ i ∷ text) long short = absurd (omega (arith, short))
ends-all p [] long short = absurd (omega (arith, long))
ends-all p (a ∷ []) long short = absurd (omega (arith, long))
ends-all p (a ∷ b ∷ []) long short = absurd (omega (arith, long))
ends-all p (a ∷ b ∷ c ∷ []) long short = absurd (omega (arith, long))

pub ends-fit : (text : List ℕ) → ((i : ℕ) → Fits w8 (get_or text i 0)) → Each1 (Fits w8) (ends text)
ends-fit text fits = both (take 4 text) _ (chunk-fits w8 0 4 text fits) (chunk-fits w8 (length text - 4) 4 text fits) where
  both : (xs ys : List ℕ) → Each1 (Fits w8) xs → Each1 (Fits w8) ys → Each1 (Fits w8) (xs ++ ys)
  both [] ys f g = g
  both (x ∷ xs) ys f g = (f.0, both xs ys f.1 g)
