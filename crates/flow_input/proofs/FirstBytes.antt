-- What is found by comparing 32 bytes at once, and the rest one by one, is the first index
-- that passes a test.
use Rattle.std.proofs.Common.{◌≡◌, ◌+◌, ◌-◌, ◌<◌, ◌≤◌, ◌%◌, ◌^◌, ℕ, Bool, true, false, cond, leb, eqb, ltb, ◌||◌, bit_or, List, [], ◌∷◌, map, replicate, length, take, drop, get_or, Some, None, refl, sym, subst, ap, ◌∙◌, arith, w64, ⊎_elim}
use Rattle.std.specs.Int.{bit_at, trailing_zeros}
use Rattle.std.specs.List.{position, position_or_len, slice_range}
use Rattle.std.specs.Simd.Lanes.{zip2, mask_l, top, chunk}
use Rattle.std.proofs.lemmas.Bool.{cases_lt, cond-true, cond-false, lt-ltb, le-ltb, ltb-false}
use Rattle.std.proofs.lemmas.List.{length-map, length-drop, get_or-drop, get_or_past, take_all}
use Rattle.std.proofs.lemmas.List.Sums.{position_or_len_is, fails_before_first}
use Rattle.std.proofs.lemmas.List.Quantifiers.{position-Some}
use Rattle.std.proofs.lemmas.Nat.Bits.{bit_at-trailing_zeros}
use Rattle.std.proofs.lemmas.Option.{none-some}
use Rattle.std.proofs.lemmas.Simd.{length-chunk, mask_l-mod, mask_l-lt, bit_mask_l, trailing_mask_l, run_in_chunk_le, run_in_chunk_fails, run_in_chunk_stops, none_from_empty_mask}
use Rattle.memchr.specs.Find.{is_byte2}

-- no byte before index n passes the test
abbrev pub NoneBefore : (ℕ → Bool) → List ℕ → ℕ → Type 0
NoneBefore test bytes n = (k : ℕ) → k < n → test (get_or bytes k 0) ≡ false

first-position : (test : ℕ → Bool) (bytes : List ℕ) (k : ℕ) → k < length bytes → NoneBefore test bytes k → test (get_or bytes k 0) ≡ true
    → Some k ≡ position test bytes
first-position test bytes k inside none here =
    let at = position_or_len_is test bytes k 0 (omega arith) none (λ l. here) in
    rw at (sym (cond-true _ _ _ (lt-ltb k (length bytes) inside)))

no-position : (test : ℕ → Bool) (bytes : List ℕ) → NoneBefore test bytes (length bytes) → None ≡ position test bytes
no-position test bytes none =
    let end = position_or_len_is test bytes (length bytes) 0 (omega arith) none (λ l. absurd (omega arith)) in
    rw end (sym (cond-false _ _ _ (le-ltb (length bytes) (length bytes) (omega arith))))

either_top : (p q : Bool) → leb 128 (bit_or (cond p 255 0) (cond q 255 0)) ≡ p || q
either_top true true = refl
either_top true false = refl
either_top false true = refl
either_top false false = refl

either_tops : (a b : ℕ) (xs : List ℕ)
    → map (top 7) (zip2 bit_or (zip2 (λ x y. cond (eqb x y) 255 0) xs (replicate (length xs) a)) (zip2 (λ x y. cond (eqb x y) 255 0) xs (replicate (length xs) b))) ≡ map (is_byte2 a b) xs
either_tops a b [] = refl
either_tops a b (x ∷ xs) = λ i. either_top (eqb x a) (eqb x b) i ∷ either_tops a b xs i

-- `to_bitmask` of the lanes that hold one of two bytes
pub either_bitmask : (a b : ℕ) (xs : List ℕ) → length xs ≡ 32
    → mask_l (map (top 7) (zip2 bit_or (zip2 (λ x y. cond (eqb x y) 255 0) xs (replicate 32 a)) (zip2 (λ x y. cond (eqb x y) 255 0) xs (replicate 32 b)))) % 2 ^ 64 ≡ mask_l (map (is_byte2 a b) xs)
either_bitmask a b xs long =
    let tops = subst
    (λ n. map (top 7) (zip2 bit_or (zip2 (λ x y. cond (eqb x y) 255 0) xs (replicate n a)) (zip2 (λ x y. cond (eqb x y) 255 0) xs (replicate n b))) ≡ map (is_byte2 a b) xs)
    long (either_tops a b xs) in
    ap (λ ms. mask_l ms % 2 ^ 64) tops ∙ mask_l-mod (map (is_byte2 a b) xs) 64 (omega (arith, length-map xs (is_byte2 a b), long))

-- a vector of 32 bytes that has one
pub found-position : (test : ℕ → Bool) (bytes : List ℕ) (at m : ℕ) → at + 32 ≤ length bytes → NoneBefore test bytes at → m ≡ mask_l (map test (chunk at 32 bytes)) → 0 < m
    → Some (at + trailing_zeros w64 m) ≡ position test bytes
found-position test bytes at m room none is some =
    let lanes = chunk at 32 bytes in
    let long : length lanes ≡ 32 = length-chunk at 32 bytes room in
    let n = mask_l (map test lanes) in
    let few : n < 4294967296 = rw (length-map lanes test, long) at (mask_l-lt (map test lanes)) in
    let r = trailing_zeros w64 n in
    let counted = trailing_mask_l test 64 lanes (omega arith) (omega arith) in
    let t = bit_at-trailing_zeros w64 n (omega arith) (omega arith) in
    let past : bit_at n 32 ≡ 0 = bit_mask_l (map test lanes) 32 ∙ ap (λ b. cond b 1 0) (get_or_past (map test lanes) 32 false (omega (arith, length-map lanes test, long))) in
    let most : r ≤ 32 = run_in_chunk_le test bytes at 32 r 0 room counted in
    let inside : r < 32 =
    ⊎_elim (λ l. l) (λ h. let end : r ≡ 32 = omega (arith, most, h) in let one : bit_at n 32 ≡ 1 = rw end at t.1 in absurd (omega (arith, past, one))) (cases_lt r 32) in
    rw is
    (first-position test bytes (at + r) (omega (arith, inside))
    (λ k l. ⊎_elim (λ h. none k h) (λ h. run_in_chunk_fails test bytes at 32 r 0 room counted k h l) (cases_lt k at))
    (run_in_chunk_stops test bytes at 32 r 0 room counted inside))

-- one that finds none
pub none-farther : (test : ℕ → Bool) (bytes : List ℕ) (at m : ℕ) → at + 32 ≤ length bytes → NoneBefore test bytes at → m ≡ mask_l (map test (chunk at 32 bytes)) → m ≡ 0
    → NoneBefore test bytes (at + 32)
none-farther test bytes at m room none is zero k l =
    ⊎_elim (λ h. none k h) (λ h. none_from_empty_mask test bytes at 32 0 room (sym is ∙ zero) k h l) (cases_lt k at)

later : (test : ℕ → Bool) (bytes : List ℕ) (at j : ℕ) → at ≤ j → test (get_or (drop at bytes) (j - at) 0) ≡ false → test (get_or bytes j 0) ≡ false
later test bytes at j h fails = let same : at + (j - at) ≡ j = omega (arith, h) in rw (get_or-drop at bytes (j - at) 0, same) at fails

-- the rest, after bytes that do not pass
pub rest-position : (test : ℕ → Bool) (bytes : List ℕ) (at k : ℕ) → NoneBefore test bytes at → position test (slice_range bytes at (length bytes)) ≡ Some k
    → Some (at + k) ≡ position test bytes
rest-position test bytes at k none found =
    let whole : take (length bytes - at) (drop at bytes) ≡ drop at bytes = take_all (length bytes - at) (drop at bytes) (omega (arith, length-drop at bytes)) in
    let there = position-Some test (drop at bytes) k 0 (rw whole at found) in
    first-position test bytes (at + k) (omega (arith, there.0, length-drop at bytes))
    (λ j l. ⊎_elim (λ h. none j h) (λ h. later test bytes at j h (there.2 (j - at) (omega (arith, h, l)))) (cases_lt j at))
    (rw (get_or-drop at bytes k 0) at there.1)

pub no-rest-position : (test : ℕ → Bool) (bytes : List ℕ) (at : ℕ) → NoneBefore test bytes at → position test (slice_range bytes at (length bytes)) ≡ None
    → None ≡ position test bytes
no-rest-position test bytes at none nowhere =
    let whole : take (length bytes - at) (drop at bytes) ≡ drop at bytes = take_all (length bytes - at) (drop at bytes) (omega (arith, length-drop at bytes)) in
    let end = past (position_or_len test (drop at bytes)) (length (drop at bytes)) _ refl (rw whole at nowhere) in
    no-position test bytes (λ j l. ⊎_elim
    (λ h. none j h)
    (λ h. later test bytes at j h (fails_before_first test (drop at bytes) (j - at) 0 (omega (arith, h, l, end, length-drop at bytes))))
    (cases_lt j at))
  where
    past : (n m : ℕ) (b : Bool) → ltb n m ≡ b → cond b (Some n) None ≡ None → m ≤ n
    past n m true e h = absurd (none-some _ (sym h))
    past n m false e h = ltb-false n m e
