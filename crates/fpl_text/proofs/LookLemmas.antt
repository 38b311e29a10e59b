-- What the vectors of a look hold at each lane, and its masks at each bit.
use Rattle.std.proofs.Common.{subst, lt-ltb, le-ltb, ◌≡◌, ℕ, zero, suc, ◌+◌, ◌-◌, ◌*◌, ◌/◌, ◌%◌, ◌^◌, ◌<◌, ◌≤◌, List, [], ◌∷◌, ◌++◌, take, drop, Bool, true, false, not, cond, eqb, leb, ltb, map, ◌&&◌, ◌||◌, length, get_or, replicate, refl, sym, ap, ◌∙◌, arith, ⊎_elim, length-append, w8, w64, Fits, bit_and, bit_or, shr-shr}
use borrow.Rule.Slice.PartMut.{put_mid, post_of}
use Rattle.std.proofs.lemmas.Simd.{take_more_put_chunk}
use Rattle.std.specs.Simd.Lanes.{put_chunk, zip2, sel_l, mask_l, Each1}
use Rattle.std.specs.Int.{bit_at, bit_not, trailing_ones}
use Rattle.std.proofs.lemmas.Nat.Bits.{bit_at-lt, bit_at_and, bit_at_or, bit_at_not, bit_at_ones, bit_at_ones_above, bit_at_above, bit_at_cat_low, bit_at_cat_high, bit_at_lowest, bit_at-suc, bit_at-zero, bit_at-trailing_ones}
use Rattle.std.specs.Prelude.{max, min}
use Rattle.std.proofs.lemmas.Simd.{length-sel_l, get_or-sel_l, bit_mask_l, mask_l-lt, length-zip2, get_or-zip2, get_or-replicate, length-replicate, length-swz_l, get_or-swz_l_below, swz_l, SwzOk, SwzOk-from_below, Each1-from_get_or, Each1-get_or}
use Rattle.std.proofs.lemmas.Nat.{and_mask, and_le_r, one_shl, or_lt, pow_below, pow_pos, shr_le}
use Rattle.std.proofs.lemmas.Bool.{agree_below_at}
use Rattle.fpl_text.specs.Bytes.{is_letter, is_digit, is_blank, is_border, is_other_mark, is_plain, is_accepted}
use Rattle.fpl_text.specs.Looks.{is_solid, IsClass, HasClasses, HasSpaces, IsBits, IsLook, behind, is_kept}
use Rattle.fpl_text.specs.declared.squeezed.Look.{Look}
use Rattle.fpl_text.proofs.ByteLemmas.{accepted-is, plain-no_border}
use Rattle.fpl_text.specs.declared.squeezed.TheConstants.{BY_LOW_HALF, BY_HIGH_HALF}
use Rattle.std.proofs.lemmas.Bool.{false≢true, eqb-true, eqb-false, leb-true, lt-leb, le-leb, cases_lt}
use Rattle.std.proofs.lemmas.List.{get_or-map, get_or-append-add, length-map, get_or-drop, get_or_past, length-drop, length-take, take_all, append-nil, take-append-le, take-take, drop_all, take-append-drop}
use Rattle.fpl_text.proofs.LaneLemmas.{is_set, one_from, zero_from}

-- zeros after a text
zeros-after : (text : List ℕ) (n k : ℕ) → get_or (text ++ replicate n 0) k 0 ≡ get_or text k 0
zeros-after [] n k = ⊎_elim (λ l. get_or-replicate n k 0 0 l) (λ h. get_or_past (replicate n 0) k 0 (omega (arith, h, length-replicate {A = ℕ} n 0))) (cases_lt k n)
zeros-after (b ∷ text) n zero = refl
zeros-after (b ∷ text) n (suc k) = zeros-after text n k

-- the last 32 bytes of a text, and zeros after them
pub last-at : (text last : List ℕ) (k : ℕ) → 32 ≤ length text → length text ≤ k + 32 → last ≡ take (length text - (length text - 32)) (drop (length text - 32) text)
    → get_or (last ++ replicate 32 0) (k + 32 - length text) 0 ≡ get_or text k 0
last-at text last k long from same =
    let all = take_all (length text - (length text - 32)) (drop (length text - 32) text) (omega (arith, length-drop (length text - 32) text, long)) in
    let there : length text - 32 + (k + 32 - length text) ≡ k = omega (arith, long, from) in
    zeros-after last 32 (k + 32 - length text) ∙ ap (λ l. get_or l (k + 32 - length text) 0) (same ∙ all)
    ∙ get_or-drop (length text - 32) text (k + 32 - length text) 0 ∙ ap (λ i. get_or text i 0) there

-- a shorter text after zeros, and zeros after it
pub short-at : (text before last : List ℕ) (k : ℕ) → length before ≡ 32 → length text < 32 → last ≡ take (32 - length text) before ++ text
    → get_or (last ++ replicate 32 0) (k + 32 - length text) 0 ≡ get_or text k 0
short-at text before last k long short same =
    let there : length (take (32 - length text) before) + k ≡ k + 32 - length text = omega (arith, length-take (32 - length text) before, long, short) in
    zeros-after last 32 (k + 32 - length text) ∙ ap (λ l. get_or l (k + 32 - length text) 0) same
    ∙ ap (λ i. get_or (take (32 - length text) before ++ text) i 0) (sym there) ∙ get_or-append-add (take (32 - length text) before) text k 0

-- the first and the last `half` of at most twice as many bytes are all of them
pub ends-cover : (bytes rest first last : List ℕ) (half : ℕ) → half ≤ length bytes → length bytes ≤ half + half → length rest ≡ length bytes - half
    → first ≡ take half bytes → last ≡ take (length bytes - (length bytes - half)) (drop (length bytes - half) bytes)
    → put_mid (length bytes - half) (length bytes - (length bytes - half)) (first ++ rest) last ≡ bytes
ends-cover bytes rest first last half least most others front back =
    let from = length bytes - half in
    let long : length first ≡ half = ap length front ∙ omega (arith, length-take half bytes, least) in
    let begun : take from (first ++ rest) ≡ take from bytes = take-append-le from first rest (omega (arith, long, most)) ∙ ap (λ l. take from l) front ∙ take-take from half bytes (omega (arith, most)) in
    let ended : last ≡ drop from bytes = back ∙ take_all (length bytes - from) (drop from bytes) (omega (arith, length-drop from bytes)) in
    let none : post_of from (length bytes - from) (first ++ rest) ≡ [] = drop_all _ (drop from (first ++ rest)) (omega (arith, length-drop from (first ++ rest), length-append first rest, long, others, least)) in
    ap (λ l. l ++ (last ++ post_of from (length bytes - from) (first ++ rest))) begun
    ∙ ap (λ l. take from bytes ++ (last ++ l)) none
    ∙ ap (λ l. take from bytes ++ l) (append-nil last ∙ ended)
    ∙ take-append-drop from bytes

-- an operator on a vector and a splat
pub splat-at : (f : ℕ → ℕ → ℕ) (v : List ℕ) (x k : ℕ) → length v ≡ 32 → k < 32 → get_or (zip2 f v (replicate 32 x)) k 0 ≡ f (get_or v k 0) x
splat-at f v x k long l = get_or-zip2 f v (replicate 32 x) k 0 0 0 (omega arith) l ∙ ap (f (get_or v k 0)) (get_or-replicate 32 k x 0 l)

-- the halves of the lanes
abbrev pub lower : List ℕ → List ℕ
lower v = zip2 bit_and v (replicate 32 15)

abbrev pub upper : List ℕ → List ℕ
upper v = zip2 (λ a b. a / 2 ^ b) v (replicate 32 4)

lane-fits : (v : List ℕ) (k : ℕ) → length v ≡ 32 → Each1 (Fits w8) v → k < 32 → get_or v k 0 < 256
lane-fits v k long fits l = (Each1-get_or (Fits w8) v k 0 (omega arith) fits).fits

lower-at : (v : List ℕ) (k : ℕ) → length v ≡ 32 → k < 32 → get_or (lower v) k 0 ≡ get_or v k 0 % 16
lower-at v k long l = splat-at bit_and v 15 k long l ∙ and_mask (get_or v k 0) 4

upper-at : (v : List ℕ) (k : ℕ) → length v ≡ 32 → k < 32 → get_or (upper v) k 0 ≡ get_or v k 0 / 16
upper-at v k long l = splat-at (λ a b. a / 2 ^ b) v 4 k long l

pub lower-ok : (v : List ℕ) → length v ≡ 32 → SwzOk w8 16 32 0 (lower v)
lower-ok v long =
    let len : length (lower v) ≡ 32 = length-zip2 bit_and v (replicate 32 15) long ∙ long in
    SwzOk-from_below w8 16 2 32 0 (lower v) refl (omega (arith, len)) (Each1-from_get_or (λ j. j < 16) (lower v) 0 (λ k l. omega (arith, lower-at v k long (omega (arith, l, len)))))

pub upper-ok : (v : List ℕ) → length v ≡ 32 → Each1 (Fits w8) v → SwzOk w8 16 32 0 (upper v)
upper-ok v long fits =
    let len : length (upper v) ≡ 32 = length-zip2 (λ a b. a / 2 ^ b) v (replicate 32 4) long ∙ long in
    SwzOk-from_below w8 16 2 32 0 (upper v) refl (omega (arith, len))
    (Each1-from_get_or (λ j. j < 16) (upper v) 0 (λ k l. let in_range : k < 32 = omega (arith, l, len) in omega (arith, upper-at v k long in_range, lane-fits v k long fits in_range)))

-- a look-up in a table that stands twice in its vector
pub record IsLookUp (table vector : List ℕ) (f : ℕ → ℕ) : Type 0 where
  pub long : length vector ≡ 32
  pub each : (k : ℕ) → k < 32 → get_or vector k 0 ≡ get_or table (f k) 0

looked-up : (table js : List ℕ) (f : ℕ → ℕ) → length js ≡ 32 → ((k : ℕ) → k < 32 → get_or js k 0 ≡ f k) → ((k : ℕ) → k < 32 → f k < 16)
    → ((j : ℕ) → j < 16 → get_or table (16 + j) 0 ≡ get_or table j 0) → IsLookUp table (swz_l w8 16 table 0 js) f
looked-up table js f long same small twice = record {
  long = length-swz_l w8 16 table 0 js ∙ long;
  each = λ k l.
      get_or-swz_l_below w8 16 table 0 js k (omega (arith, long)) (omega (arith, same k l, small k l))
      ∙ ap (λ j. get_or table (16 * ((0 + k) / 16) + j) 0) (same k l)
      ∙ ⊎_elim
      (λ low. let first : 16 * ((0 + k) / 16) + f k ≡ f k = omega arith in rw first refl)
      (λ high. let second : 16 * ((0 + k) / 16) + f k ≡ 16 + f k = omega (arith, l) in rw second (twice (f k) (small k l)))
      (cases_lt k 16);
}

pub by-low : (v : List ℕ) → length v ≡ 32 → IsLookUp BY_LOW_HALF (swz_l w8 16 BY_LOW_HALF 0 (lower v)) (λ k. get_or v k 0 % 16)
by-low v long =
    looked-up BY_LOW_HALF (lower v) (λ k. get_or v k 0 % 16) (length-zip2 bit_and v (replicate 32 15) long ∙ long) (λ k l. lower-at v k long l) (λ k l. omega arith)
    (λ j l. eqb-true _ _ (agree_below_at (λ j. eqb (get_or BY_LOW_HALF (16 + j) 0) (get_or BY_LOW_HALF j 0)) (λ j. true) 16 j refl l))

pub by-high : (v : List ℕ) → length v ≡ 32 → Each1 (Fits w8) v → IsLookUp BY_HIGH_HALF (swz_l w8 16 BY_HIGH_HALF 0 (upper v)) (λ k. get_or v k 0 / 16)
by-high v long fits =
    looked-up BY_HIGH_HALF (upper v) (λ k. get_or v k 0 / 16) (length-zip2 (λ a b. a / 2 ^ b) v (replicate 32 4) long ∙ long) (λ k l. upper-at v k long l)
    (λ k l. omega (arith, lane-fits v k long fits l))
    (λ j l. eqb-true _ _ (agree_below_at (λ j. eqb (get_or BY_HIGH_HALF (16 + j) 0) (get_or BY_HIGH_HALF j 0)) (λ j. true) 16 j refl l))

-- the class of a byte
abbrev pub class_at : ℕ → ℕ
class_at b = bit_and (get_or BY_LOW_HALF (b % 16) 0) (get_or BY_HIGH_HALF (b / 16) 0)

pub class-is : (b : ℕ) → b < 256 → IsClass b (class_at b)
unfolding is_border is_plain is_accepted is_letter is_digit is_other_mark is_blank
class-is b l = record {
  most = leb-true _ _ (agree_below_at (λ x. leb (class_at x) 128) (λ x. true) 256 b refl l);
  border = agree_below_at (λ x. leb 128 (class_at x)) (λ x. is_border x) 256 b refl l;
  solid = agree_below_at (λ x. leb 8 (class_at x)) (λ x. is_solid x) 256 b refl l;
  accepted = agree_below_at (λ x. leb 2 (class_at x)) (λ x. is_accepted x) 256 b refl l;
}

pub classes-are : (v low high : List ℕ) → length v ≡ 32 → Each1 (Fits w8) v → IsLookUp BY_LOW_HALF low (λ k. get_or v k 0 % 16) → IsLookUp BY_HIGH_HALF high (λ k. get_or v k 0 / 16)
    → HasClasses (zip2 bit_and low high) (λ k. get_or v k 0)
classes-are v low high long fits l h = record {
  long = length-zip2 bit_and low high (l.long ∙ sym h.long) ∙ l.long;
  each = λ k few.
      let same : get_or (zip2 bit_and low high) k 0 ≡ class_at (get_or v k 0) =
      get_or-zip2 bit_and low high k 0 0 0 (omega (arith, l.long)) (omega (arith, h.long)) ∙ (λ i. bit_and (l.each k few i) (h.each k few i)) in
      rw same (class-is (get_or v k 0) (lane-fits v k long fits few));
}

-- a space for each lower byte
pub spaces-are : (v : List ℕ) → length v ≡ 32 → HasSpaces (sel_l (zip2 ltb v (replicate 32 32)) (replicate 32 32) v) (λ k. get_or v k 0)
spaces-are v long =
    let len : length (zip2 ltb v (replicate 32 32)) ≡ 32 = length-zip2 ltb v (replicate 32 32) long ∙ long in
    record {
      long = length-sel_l _ (replicate 32 32) v len (len ∙ sym long) ∙ len;
      each = λ k l.
          get_or-sel_l _ (replicate 32 32) v k 0 (omega (arith, len)) l (omega (arith, long))
          ∙ (λ i. cond ((get_or-zip2 ltb v (replicate 32 32) k 0 0 false (omega (arith, long)) l ∙ ap (ltb (get_or v k 0)) (get_or-replicate 32 k 32 0 l)) i) (get_or-replicate 32 k 32 0 l i) (get_or v k 0));
    }

-- what is before a store stays
pub front-stays : (out lanes : List ℕ) (made : ℕ) → made + 32 ≤ length out → length lanes ≡ 32 → take made (put_chunk made out lanes) ≡ take made out
front-stays out lanes made room long =
    sym (take-take made (made + 32) (put_chunk made out lanes) (omega arith))
    ∙ ap (take made) (take_more_put_chunk made out lanes (made + 32) (omega (arith, long)) (omega (arith, room)))
    ∙ take-append-le made (take made out) lanes (omega (arith, length-take made out, room))
    ∙ take-take made made out (omega arith)

-- the classes of the same bytes
pub same-classes : (v : List ℕ) (f g : ℕ → ℕ) → ((k : ℕ) → k < 32 → f k ≡ g k) → HasClasses v f → HasClasses v g
same-classes v f g same held = record {
  long = held.long;
  each = λ k l. subst (λ b. IsClass b (get_or v k 0)) (same k l) (held.each k l);
}

-- the lower of two lanes each
abbrev pub lower_of : List ℕ → List ℕ → List ℕ
lower_of v w = sel_l (zip2 ltb v w) v w

lower-is : (v w : List ℕ) (k : ℕ) → length v ≡ 32 → length w ≡ 32 → k < 32 → get_or (lower_of v w) k 0 ≡ cond (ltb (get_or v k 0) (get_or w k 0)) (get_or v k 0) (get_or w k 0)
lower-is v w k lv lw l =
    let len : length (zip2 ltb v w) ≡ 32 = length-zip2 ltb v w (lv ∙ sym lw) ∙ lv in
    get_or-sel_l _ v w k 0 (omega (arith, len)) (omega (arith, lv)) (omega (arith, lw))
    ∙ ap (λ b. cond b (get_or v k 0) (get_or w k 0)) (get_or-zip2 ltb v w k 0 0 false (omega (arith, lv)) (omega (arith, lw)))

lower-both : (m x y : ℕ) → m ≤ cond (ltb x y) x y → (m ≤ x) × (m ≤ y)
lower-both m x y h =
    ⊎_elim
    (λ l. let least : m ≤ x = rw (lt-ltb x y l) at h in (least, omega (arith, least)))
    (λ g. let least : m ≤ y = rw (le-ltb x y g) at h in (omega (arith, least), least))
    (cases_lt x y)

pub lower-most : (v w : List ℕ) → length v ≡ 32 → length w ≡ 32 → ((k : ℕ) → k < 32 → get_or v k 0 ≤ 128) → ((k : ℕ) → k < 32 → get_or w k 0 ≤ 128)
    → (k : ℕ) → k < 32 → get_or (lower_of v w) k 0 ≤ 128
lower-most v w lv lw mv mw k l = rw (lower-is v w k lv lw l) (either (ltb (get_or v k 0) (get_or w k 0)) (mv k l) (mw k l)) where
  either : (p : Bool) → {x y : ℕ} → x ≤ 128 → y ≤ 128 → cond p x y ≤ 128
  either true a b = a
  either false a b = b

-- all lower lanes are accepted
pub lower-accepted : (v w : List ℕ) (bits k : ℕ) → length v ≡ 32 → length w ≡ 32 → IsBits 32 bits (λ k. leb 2 (get_or (lower_of v w) k 0)) → bits ≡ 4294967295 → k < 32
    → (2 ≤ get_or v k 0) × (2 ≤ get_or w k 0)
lower-accepted v w bits k lv lw are all l =
    let set : eqb (bit_at bits k) 1 ≡ true = ap (λ n. eqb (bit_at n k) 1) all ∙ ap (λ x. eqb x 1) (bit_at_ones 32 k l) in
    let low : 2 ≤ get_or (lower_of v w) k 0 = leb-true 2 (get_or (lower_of v w) k 0) (sym (are k l) ∙ set) in
    lower-both 2 (get_or v k 0) (get_or w k 0) (rw (lower-is v w k lv lw l) at low)

-- the lanes that hold a class or a higher one
same-test : (a b c d : ℕ) → (a ≤ b → c ≤ d) → (c ≤ d → a ≤ b) → leb a b ≡ leb c d
same-test a b c d f g =
    ⊎_elim
    (λ less. lt-leb a b less ∙ sym (⊎_elim (λ l. lt-leb c d l) (λ h. absurd (omega (arith, g h, less))) (cases_lt d c)))
    (λ more. le-leb a b more ∙ sym (le-leb c d (f more)))
    (cases_lt b a)

one-from : (p : Bool) → eqb (cond {A = ℕ} p 1 0) 1 ≡ p
one-from true = refl
one-from false = refl

abbrev pub raised : List ℕ → ℕ → List ℕ
raised v low = zip2 (λ a b. (a + b) % 2 ^ 8) v (replicate 32 (128 - low))

pub length-raised : (v : List ℕ) (low : ℕ) → length v ≡ 32 → length (raised v low) ≡ 32
length-raised v low long = length-zip2 (λ a b. (a + b) % 2 ^ 8) v (replicate 32 (128 - low)) long ∙ long

pub bits-from : (v : List ℕ) (low : ℕ) → length v ≡ 32 → 1 ≤ low → low ≤ 128 → ((k : ℕ) → k < 32 → get_or v k 0 ≤ 128)
    → IsBits 32 (mask_l (map is_set (raised v low))) (λ k. leb low (get_or v k 0))
bits-from v low long some few most k l =
    let len = length-raised v low long in
    let here : get_or (raised v low) k 0 ≡ (get_or v k 0 + (128 - low)) % 2 ^ 8 = splat-at (λ a b. (a + b) % 2 ^ 8) v (128 - low) k long l in
    let sum : (get_or v k 0 + (128 - low)) % 2 ^ 8 ≡ get_or v k 0 + (128 - low) = omega (arith, most k l, some) in
    ap (λ x. eqb x 1) (bit_mask_l (map is_set (raised v low)) k) ∙ one-from (get_or (map is_set (raised v low)) k false)
    ∙ get_or-map is_set (raised v low) k 0 false (omega (arith, len)) ∙ ap (λ x. leb 128 x) (here ∙ sum)
    ∙ same-test 128 (get_or v k 0 + (128 - low)) low (get_or v k 0) (λ h. omega arith) (λ h. omega (arith, few))

pub bits-small : (v : List ℕ) (low : ℕ) → length v ≡ 32 → mask_l (map is_set (raised v low)) < 4294967296
bits-small v low long = rw (length-map (raised v low) is_set, length-raised v low long) at (mask_l-lt (map is_set (raised v low)))

-- the bits of 32 lanes and of 32 more
pub record AreJoined (first second bits : ℕ) : Type 0 where
  pub low : (k : ℕ) → k < 32 → bit_at bits k ≡ bit_at first k
  pub high : (k : ℕ) → bit_at bits (32 + k) ≡ bit_at second k

pub joined-are : (first second : ℕ) → first < 4294967296 → second < 4294967296 → AreJoined first second (bit_or first (second * 2 ^ 32 % 2 ^ 64))
joined-are first second few small =
    let same : second * 2 ^ 32 % 2 ^ 64 ≡ second * 2 ^ 32 + 0 = omega (arith, small) in
    rw same (record {
      low = λ k l.
          let none : bit_at (second * 2 ^ 32 + 0) k ≡ 0 = bit_at_cat_low second 32 0 k l ∙ bit_at-zero k in
          omega (arith, bit_at_or first (second * 2 ^ 32 + 0) k, none);
      high = λ k.
          let none : bit_at first (32 + k) ≡ 0 = bit_at_above first 32 (32 + k) few (omega arith) in
          let there : 32 + k - 32 ≡ k = omega arith in
          let some : bit_at (second * 2 ^ 32 + 0) (32 + k) ≡ bit_at second k = bit_at_cat_high second 32 0 (32 + k) (omega arith) (omega arith) ∙ ap (bit_at second) there in
          omega (arith, bit_at_or first (second * 2 ^ 32 + 0) (32 + k), none, some);
    })

-- what is true of both halves
pub joined-bits : (first second bits : ℕ) (p : ℕ → Bool) → AreJoined first second bits → IsBits 32 first p → IsBits 32 second (λ k. p (32 + k)) → IsBits 64 bits p
joined-bits first second bits p joined low high k l =
    ⊎_elim
    (λ below. ap (λ x. eqb x 1) (joined.low k below) ∙ low k below)
    (λ above.
    let there : 32 + (k - 32) ≡ k = omega (arith, above) in
    rw there at (ap (λ x. eqb x 1) (joined.high (k - 32)) ∙ high (k - 32) (omega (arith, l, above))))
    (cases_lt k 32)

-- ---- what a pass keeps

-- bits shifted up by one
pub record IsBehind (before : Bool) (bits shifted : ℕ) : Type 0 where
  pub first : bit_at shifted 0 ≡ cond before 1 0
  pub others : (k : ℕ) → k < 63 → bit_at shifted (k + 1) ≡ bit_at bits k

pub shifted-is : (before : Bool) (bits : ℕ) → IsBehind before bits (bit_or (bits * 2 ^ 1 % 2 ^ 64) (cond before 1 0))
shifted-is before bits = record {
  first = low;
  others = high;
}
  where
    shifted : ℕ
    shifted = bits * 2 ^ 1 % 2 ^ 64

    low : bit_at (bit_or shifted (cond before 1 0)) 0 ≡ cond before 1 0
    low =
        let even : bit_at shifted 0 ≡ 0 = bit_at_lowest shifted ∙ omega arith in
        omega (arith, bit_at_or shifted (cond before 1 0) 0, even, lowest before)
      where
        lowest : (p : Bool) → bit_at (cond p 1 0) 0 ≡ cond p 1 0
        lowest true = refl
        lowest false = refl

    high : (k : ℕ) → k < 63 → bit_at (bit_or shifted (cond before 1 0)) (k + 1) ≡ bit_at bits k
    high k l =
        let step : k + 1 ≡ suc k = omega arith in
        let none : bit_at (cond before 1 0) (k + 1) ≡ 0 = bit_at_above (cond before 1 0) 1 (k + 1) (one before) (omega arith) in
        let some : bit_at shifted (k + 1) ≡ bit_at bits k =
        mod_bit (bits * 2 ^ 1) (k + 1) (omega (arith, l)) ∙ rw step (bit_at-suc (bits * 2 ^ 1) k ∙ ap (λ n. bit_at n k) (let half : bits * 2 ^ 1 / 2 ≡ bits = omega arith in half)) in
        omega (arith, bit_at_or shifted (cond before 1 0) (k + 1), none, some)
      where
        one : (p : Bool) → cond {A = ℕ} p 1 0 < 2
        one true = omega arith
        one false = omega arith

        mod_bit : (n i : ℕ) → i < 64 → bit_at (n % 2 ^ 64) i ≡ bit_at n i
        mod_bit n i h =
            let parts : n ≡ n / 2 ^ 64 * 2 ^ 64 + n % 2 ^ 64 = omega arith in
            sym (ap (λ m. bit_at m i) parts ∙ bit_at_cat_low (n / 2 ^ 64) 64 (n % 2 ^ 64) i h)

bit-from : (x : ℕ) (p : Bool) → x < 2 → eqb x 1 ≡ p → x ≡ cond p 1 0
bit-from x true l h = eqb-true x 1 h
bit-from x false l h = let other = eqb-false x 1 h in ⊎_elim (λ z. omega arith) (λ o. absurd (other (omega arith))) (cases_lt x 1)

bit-is : (len bits : ℕ) (p : ℕ → Bool) (k : ℕ) → IsBits len bits p → k < len → bit_at bits k ≡ cond (p k) 1 0
bit-is len bits p k are l = bit-from (bit_at bits k) (p k) (bit_at-lt bits k) (are k l)

behind-is : (before : Bool) (len bits shifted : ℕ) (p : ℕ → Bool) (k : ℕ) → IsBits len bits p → IsBehind before bits shifted → len ≤ 64 → k < len → bit_at shifted k ≡ cond (behind before p k) 1 0
behind-is before len bits shifted p zero are up most l = up.first
behind-is before len bits shifted p (suc k) are up most l = let step : suc k ≡ k + 1 = omega arith in rw step (up.others k (omega (arith, most, l))) ∙ bit-is len bits p k are (omega (arith, l))

min-cond : (p q : Bool) → min (cond {A = ℕ} p 1 0) (cond q 1 0) ≡ cond (p && q) 1 0
min-cond true true = refl
min-cond true false = refl
min-cond false true = refl
min-cond false false = refl

max-cond : (p q : Bool) → max (cond {A = ℕ} p 1 0) (cond q 1 0) ≡ cond (p || q) 1 0
max-cond true true = refl
max-cond true false = refl
max-cond false true = refl
max-cond false false = refl

less-cond : (p : Bool) → 1 - cond {A = ℕ} p 1 0 ≡ cond (not p) 1 0
less-cond true = refl
less-cond false = refl

kept-cond : (s w p e d : Bool) → (p ≡ true → e ≡ false) → s || (((s || w) && (p || e)) && not (e || d)) ≡ s || (w && (p && not d))
kept-cond true w p e d apart = refl
kept-cond false false p e d apart = refl
kept-cond false true true true d apart = absurd (false≢true (sym (apart refl)))
kept-cond false true true false d apart = refl
kept-cond false true false true d apart = refl
kept-cond false true false false d apart = refl

-- the bits of what is kept of all bytes but the last
abbrev pub kept_bits : Look → ℕ → ℕ → ℕ
kept_bits look shifted top =
    bit_and (bit_or look.solid (bit_and (bit_and look.accepted (look.solid / 2 ^ 1)) (bit_not w64 (bit_or (look.borders / 2 ^ 1) shifted)))) (top - 1)

next-bit : (len bits : ℕ) (p : ℕ → Bool) (k : ℕ) → IsBits len bits p → k + 1 < len → bit_at (bits / 2 ^ 1) k ≡ cond (p (k + 1)) 1 0
next-bit len bits p k are l = let place : 1 + k ≡ k + 1 = omega arith in ap (λ x. x % 2) (shr-shr bits 1 k) ∙ rw place (bit-is len bits p (k + 1) are l)

kept-bit : (look : Look) (f : ℕ → ℕ) (border : Bool) (shifted k : ℕ) → IsLook look f → IsBehind border look.borders shifted → look.borders < 2 ^ 64 → shifted < 2 ^ 64 → k + 1 < look.len
    → bit_at (kept_bits look shifted (2 ^ (look.len - 1))) k ≡ cond (is_kept border f k) 1 0
kept-bit look f border shifted k is up fits few l =
    let solid = is_solid (f k) in
    let blank = is_blank (f k) in
    let plain = is_plain (f (k + 1)) in
    let edge = is_border (f (k + 1)) in
    let after = behind border (λ j. is_border (f j)) k in
    let here : k < look.len = omega (arith, l) in
    let x = look.solid / 2 ^ 1 in
    let y = bit_or (look.borders / 2 ^ 1) shifted in
    let a : bit_at look.accepted k ≡ cond (solid || blank) 1 0 = bit-is look.len look.accepted (λ j. is_accepted (f j)) k is.accepted here ∙ ap (λ b. cond b 1 0) (accepted-is (f k)) in
    let either : bit_at y k ≡ cond (edge || after) 1 0 =
    bit_at_or (look.borders / 2 ^ 1) shifted k
    ∙ (λ i. max (next-bit look.len look.borders (λ j. is_border (f j)) k is.borders l i) (behind-is border look.len look.borders shifted (λ j. is_border (f j)) k is.borders up is.few here i))
    ∙ max-cond edge after in
    let small : y < 2 ^ 64 = or_lt 64 (look.borders / 2 ^ 1) shifted (omega (arith, fits, shr_le look.borders 1)) few in
    let n : bit_at (bit_not w64 y) k ≡ cond (not (edge || after)) 1 0 =
    bit_at_not w64 y k small (omega (arith, here, is.few)) ∙ ap (λ b. 1 - b) either ∙ less-cond (edge || after) in
    let between : bit_at (bit_and (bit_and look.accepted x) (bit_not w64 y)) k ≡ cond (((solid || blank) && (plain || edge)) && not (edge || after)) 1 0 =
    bit_at_and (bit_and look.accepted x) (bit_not w64 y) k
    ∙ (λ i. min ((bit_at_and look.accepted x k ∙ (λ j. min (a j) (next-bit look.len look.solid (λ j. is_solid (f j)) k is.solid l j)) ∙ min-cond (solid || blank) (plain || edge)) i) (n i))
    ∙ min-cond ((solid || blank) && (plain || edge)) (not (edge || after)) in
    let every = bit_or look.solid (bit_and (bit_and look.accepted x) (bit_not w64 y)) in
    let told : bit_at every k ≡ cond (is_kept border f k) 1 0 =
    bit_at_or look.solid (bit_and (bit_and look.accepted x) (bit_not w64 y)) k
    ∙ (λ i. max (bit-is look.len look.solid (λ j. is_solid (f j)) k is.solid here i) (between i))
    ∙ max-cond solid (((solid || blank) && (plain || edge)) && not (edge || after))
    ∙ ap (λ b. cond b 1 0) (kept-cond solid blank plain edge after (λ h. plain-no_border (f (k + 1)) h)) in
    let low : bit_at (2 ^ (look.len - 1) - 1) k ≡ 1 = bit_at_ones (look.len - 1) k (omega (arith, l)) in
    omega (arith, bit_at_and every (2 ^ (look.len - 1) - 1) k, low, told, bit_at-lt every k)

-- how many of the first bytes are kept
pub record IsFront (look : Look) (border : Bool) (count : ℕ) : Type 0 where
  pub bound : count < look.len
  pub each : (f : ℕ → ℕ) → IsLook look f → (k : ℕ) → k < count → is_kept border f k ≡ true
  pub stops : (f : ℕ → ℕ) → IsLook look f → count + 1 < look.len → is_kept border f count ≡ false

pub front-is : (look : Look) (border : Bool) (shifted : ℕ) → 0 < look.len → look.len ≤ 64 → IsBehind border look.borders shifted → look.borders < 2 ^ 64 → shifted < 2 ^ 64
    → IsFront look border (trailing_ones w64 (kept_bits look shifted (1 * 2 ^ (look.len - 1) % 2 ^ 64)))
front-is look border shifted some most up fits few =
    let bits = kept_bits look shifted (2 ^ (look.len - 1)) in
    let last = look.len - 1 in
    let every = bit_or look.solid (bit_and (bit_and look.accepted (look.solid / 2 ^ 1)) (bit_not w64 (bit_or (look.borders / 2 ^ 1) shifted))) in
    let low : bits ≤ 2 ^ last - 1 = and_le_r every (2 ^ last - 1) in
    let least : 2 ^ last < 2 ^ 64 = pow_below last 64 (omega (arith, some, most)) in
    let more : 0 < 2 ^ last = pow_pos last in
    let t = bit_at-trailing_ones w64 bits (omega (arith, low, least, more)) in
    let count = trailing_ones w64 bits in
    let bound : count < look.len =
    ⊎_elim
    (λ h. h)
    (λ h. absurd (omega (arith, t.2 last (omega (arith, h, some)), bit_at_and every (2 ^ last - 1) last, bit_at_ones_above last last (omega arith))))
    (cases_lt count look.len) in
    subst (λ top. IsFront look border (trailing_ones w64 (kept_bits look shifted top))) (sym (one_shl last 64 (omega (arith, some, most))))
    (record {
      bound = bound;
      each = λ f is k l. one_from (is_kept border f k) (sym (kept-bit look f border shifted k is up fits few (omega (arith, l, bound))) ∙ t.2 k l);
      stops = λ f is l. zero_from (is_kept border f count) (sym (kept-bit look f border shifted count is up fits few l) ∙ t.1);
    })

pub last-is : (look : Look) (f : ℕ → ℕ) (border : Bool) (shifted count : ℕ) → IsLook look f → IsBehind border look.borders shifted → count < look.len → eqb (bit_at shifted count) 1 ≡ behind border (λ k. is_border (f k)) count
last-is look f border shifted count is up few =
    ap (λ x. eqb x 1) (behind-is border look.len look.borders shifted (λ j. is_border (f j)) count is.borders up is.few few) ∙ one-from (behind border (λ j. is_border (f j)) count)

-- a look is made of the classes of its bytes
pub look-is : (f : ℕ → ℕ) (classes : List ℕ) (borders solid accepted : ℕ) → HasClasses classes f
    → IsBits 32 borders (λ k. leb 128 (get_or classes k 0)) → IsBits 32 solid (λ k. leb 8 (get_or classes k 0)) → IsBits 32 accepted (λ k. leb 2 (get_or classes k 0))
    → IsLook (record { len = 32; borders = borders; solid = solid; accepted = accepted }) f
look-is f classes borders solid accepted held b s a = record {
  some = omega arith;
  few = omega arith;
  borders = λ k l. b k l ∙ (held.each k l).border;
  solid = λ k l. s k l ∙ (held.each k l).solid;
  accepted = λ k l. a k l ∙ (held.each k l).accepted;
}

-- the same of twice as many bytes, all accepted
pub long-look : (f : ℕ → ℕ) (first second : List ℕ) (b1 b2 s1 s2 borders solid : ℕ) → HasClasses first f → HasClasses second (λ k. f (32 + k))
    → AreJoined b1 b2 borders → IsBits 32 b1 (λ k. leb 128 (get_or first k 0)) → IsBits 32 b2 (λ k. leb 128 (get_or second k 0))
    → AreJoined s1 s2 solid → IsBits 32 s1 (λ k. leb 8 (get_or first k 0)) → IsBits 32 s2 (λ k. leb 8 (get_or second k 0))
    → ((k : ℕ) → k < 32 → 2 ≤ get_or first k 0) → ((k : ℕ) → k < 32 → 2 ≤ get_or second k 0)
    → IsLook (record { len = 64; borders = borders; solid = solid; accepted = 18446744073709551615 }) f
long-look f first second b1 b2 s1 s2 borders solid low high b lb hb s ls hs first_good second_good = record {
  some = omega arith;
  few = omega arith;
  borders = joined-bits b1 b2 borders (λ k. is_border (f k)) b (λ k l. lb k l ∙ (low.each k l).border) (λ k l. hb k l ∙ (high.each k l).border);
  solid = joined-bits s1 s2 solid (λ k. is_solid (f k)) s (λ k l. ls k l ∙ (low.each k l).solid) (λ k l. hs k l ∙ (high.each k l).solid);
  accepted = λ k l. ap (λ x. eqb x 1) (bit_at_ones 64 k l) ∙ sym (good k l);
}
  where
    good : (k : ℕ) → k < 64 → is_accepted (f k) ≡ true
    good k l =
        ⊎_elim
        (λ below. sym (low.each k below).accepted ∙ le-leb 2 (get_or first k 0) (first_good k below))
        (λ above.
        let there : 32 + (k - 32) ≡ k = omega (arith, above) in
        let few : k - 32 < 32 = omega (arith, l, above) in
        rw there at (sym (high.each (k - 32) few).accepted ∙ le-leb 2 (get_or second (k - 32) 0) (second_good (k - 32) few)))
        (cases_lt k 32)
