-- Noting the borders of a text.
use Rattle.std.proofs.Common.{◌≡◌, ℕ, zero, suc, shr-shr, ◌+◌, ◌-◌, ◌*◌, ◌/◌, ◌%◌, ◌^◌, ◌<◌, ◌≤◌, Bool, true, false, cond, eqb, ltb, List, [], ◌∷◌, ◌++◌, length, get_or, take, sym, refl, ap, ◌∙◌, arith, ◌⊎◌, inl, inr, ⊎_elim, length-append, bit_and, w64}
use Rattle.std.specs.Prelude.{min}
use Rattle.std.specs.List.{count_by}
use Rattle.std.specs.Int.{bit_at, trailing_zeros}
use Rattle.std.proofs.lemmas.Bool.{cases_Bool, cases_lt, cond-true, cond-false, lt-ltb, le-ltb, ltb-true, ltb-false, eqb-true, eqb-false}
use Rattle.std.proofs.lemmas.List.{take_all, take_more, take-append-le, length-take, append-nil}
use Rattle.std.proofs.lemmas.List.Sums.{count_by-le-length, count_by_more_no, count_by_more_yes}
use Rattle.std.proofs.lemmas.Nat.{and_le_r}
use Rattle.std.proofs.lemmas.Nat.Bits.{bit_at-zero, bit_at_and, bit_at_cat_low, bit_at_cat_high, same_from_bits, bit_at_ones, bit_at_ones_above, bit_at-pow_same, bit_at-pow_other, bit_at-trailing_zeros, bit_at-lt}
use Rattle.fpl_text.specs.Bytes.{is_border}
use Rattle.fpl_text.specs.Fields.{is_bracket}
use Rattle.fpl_text.specs.Borders.{border_places, IsNoted}
use Rattle.fpl_text.specs.declared.squeezed.Borders.{Borders}

-- ---- the offsets of borders

places-append : (from : ℕ) (xs ys : List ℕ) → border_places from (xs ++ ys) ≡ border_places from xs ++ border_places (from + length xs) ys
places-append from [] ys = let same : from + 0 ≡ from = omega arith in rw same refl
places-append from (b ∷ xs) ys =
    let next : from + 1 + length xs ≡ from + length (b ∷ xs) = omega arith in
    ⊎_elim
    (λ k. rw k (ap (λ s. from ∷ s) (places-append (from + 1) xs ys ∙ ap (λ n. border_places (from + 1) xs ++ border_places n ys) next)))
    (λ k. rw k (places-append (from + 1) xs ys ∙ ap (λ n. border_places (from + 1) xs ++ border_places n ys) next))
    (cases_Bool (is_border b))

pub places-few : (from : ℕ) (text : List ℕ) → length (border_places from text) ≤ length text
places-few from [] = omega arith
places-few from (b ∷ text) =
    ⊎_elim
    (λ k. rw k (omega (arith, places-few (from + 1) text)))
    (λ k. rw k (omega (arith, places-few (from + 1) text)))
    (cases_Bool (is_border b))

-- one byte more
places-more : (text : List ℕ) (place : ℕ) → place < length text → border_places 0 (take (place + 1) text) ≡ border_places 0 (take place text) ++ border_places place (get_or text place 0 ∷ [])
places-more text place h =
    let long : 0 + length (take place text) ≡ place = omega (arith, length-take place text) in
    ap (border_places 0) (take_more text place 0 h) ∙ places-append 0 (take place text) (get_or text place 0 ∷ [])
    ∙ ap (λ n. border_places 0 (take place text) ++ border_places n (get_or text place 0 ∷ [])) long

other-no_bracket : (b : ℕ) → is_border b ≡ false → is_bracket b ≡ false
unfolding is_border is_bracket
other-no_bracket b h = grind arith

hyphen-no_bracket : (b : ℕ) → b ≡ 45 → is_bracket b ≡ false
unfolding is_bracket
hyphen-no_bracket b h = rw h refl

other-bracket : (b : ℕ) → is_border b ≡ true → (b ≡ 45 → ⊥) → is_bracket b ≡ true
unfolding is_border is_bracket
other-bracket b h k = grind arith

-- ---- what is noted

pub noted-few : (text : List ℕ) (place most : ℕ) (borders : Borders) → IsNoted (take place text) most borders → (borders.others ≤ place) × (borders.brackets ≤ place)
noted-few text place most borders noted = (
  omega (arith, noted.others, places-few 0 (take place text), length-take place text),
  omega (arith, noted.brackets, count_by-le-length is_bracket (take place text), length-take place text),
)

-- all offsets that are recorded
pub noted-all : (text : List ℕ) (most : ℕ) (borders : Borders) → IsNoted text most borders → IsNoted text (length borders.places.items) borders
noted-all text most borders noted =
    let all = border_places 0 text in
    let long : length borders.places.items ≡ min most (length all) = ap length noted.places ∙ length-take most all in
    record {
      places = ⊎_elim
          (λ fewer.
          let n : length borders.places.items ≡ length all = omega (arith, long, fewer) in
          noted.places ∙ take_all most all (omega (arith, fewer)) ∙ sym (take_all (length borders.places.items) all (omega (arith, n))))
          (λ more. let n : length borders.places.items ≡ most = omega (arith, long, more) in noted.places ∙ ap (λ m. take m all) (sym n))
          (cases_lt (length all) most);
      others = omega (arith, noted.others, long);
      brackets = noted.brackets;
    }

-- a byte that is no border
noted-other : (text : List ℕ) (place most : ℕ) (borders : Borders) → place < length text → is_border (get_or text place 0) ≡ false → IsNoted (take place text) most borders → IsNoted (take (place + 1) text) most borders
noted-other text place most borders h other noted =
    let same : border_places 0 (take (place + 1) text) ≡ border_places 0 (take place text) =
    places-more text place h ∙ rw other (append-nil (border_places 0 (take place text))) in
    record {
      places = noted.places ∙ ap (take most) (sym same);
      others = noted.others ∙ ap (λ s. length s - most) (sym same);
      brackets = noted.brackets ∙ sym (count_by_more_no is_bracket text place 0 h (other-no_bracket _ other));
    }

pub noted-none : (text : List ℕ) (place more most : ℕ) (borders : Borders) → place + more ≤ length text → ((k : ℕ) → place ≤ k → k < place + more → is_border (get_or text k 0) ≡ false) → IsNoted (take place text) most borders
    → IsNoted (take (place + more) text) most borders
noted-none text place zero most borders h none noted = let same : place + 0 ≡ place = omega arith in rw same noted
noted-none text place (suc more) most borders h none noted =
    let step : place + suc more ≡ place + more + 1 = omega arith in
    rw step (noted-other text (place + more) most borders (omega arith) (none (place + more) (omega arith) (omega arith)) (noted-none text place more most borders (omega arith) (λ k l m. none k l (omega arith)) noted))

-- a border
record IsMore (text : List ℕ) (place most : ℕ) (places : List ℕ) (others : ℕ) : Type 0 where
  places_are : places ≡ take most (border_places 0 (take (place + 1) text))
  others_are : others ≡ length (border_places 0 (take (place + 1) text)) - most

pub noted-border : (text : List ℕ) (place most : ℕ) (before after : Borders) → place < length text → is_border (get_or text place 0) ≡ true → IsNoted (take place text) most before
    → after.places.items ≡ cond (ltb (length before.places.items) most) (before.places.items ++ place ∷ []) before.places.items
    → after.others ≡ cond (ltb (length before.places.items) most) before.others (before.others + 1)
    → after.brackets ≡ before.brackets + cond (eqb (get_or text place 0) 45) 0 1
    → IsNoted (take (place + 1) text) most after
noted-border text place most before after h border noted places others brackets =
    let more = recorded (ltb (length before.places.items) most) refl in
    record {
      places = places ∙ more.places_are;
      others = others ∙ more.others_are;
      brackets = brackets ∙ counted (eqb (get_or text place 0) 45) refl;
    }
  where
    next : border_places 0 (take (place + 1) text) ≡ border_places 0 (take place text) ++ place ∷ []
    next = places-more text place h ∙ rw border refl

    long : length before.places.items ≡ min most (length (border_places 0 (take place text)))
    long = ap length noted.places ∙ length-take most (border_places 0 (take place text))

    recorded : (room : Bool) → ltb (length before.places.items) most ≡ room
        → IsMore text place most (cond room (before.places.items ++ place ∷ []) before.places.items) (cond room before.others (before.others + 1))
    recorded true e =
        let old = border_places 0 (take place text) in
        let few : length old < most = omega (arith, ltb-true _ _ e, long) in
        let all : take most old ≡ old = take_all most old (omega (arith, few)) in
        record {
          places_are = rw next (ap (λ s. s ++ place ∷ []) (noted.places ∙ all) ∙ sym (take_all most (old ++ place ∷ []) (omega (arith, few, length-append old (place ∷ [])))));
          others_are = omega (arith, few, noted.others, ap length next, length-append old (place ∷ []));
        }
    recorded false e =
        let old = border_places 0 (take place text) in
        let many : most ≤ length old = omega (arith, ltb-false _ _ e, long) in
        record {
          places_are = rw next (noted.places ∙ sym (take-append-le most old (place ∷ []) many));
          others_are = omega (arith, many, noted.others, ap length next, length-append old (place ∷ []));
        }

    counted : (hyphen : Bool) → eqb (get_or text place 0) 45 ≡ hyphen → before.brackets + cond hyphen 0 1 ≡ count_by is_bracket (take (place + 1) text)
    counted true e = omega (arith, noted.brackets, count_by_more_no is_bracket text place 0 h (hyphen-no_bracket _ (eqb-true _ 45 e)))
    counted false e = omega (arith, noted.brackets, count_by_more_yes is_bracket text place 0 h (other-bracket _ border (eqb-false _ 45 e)))

-- ---- the bits of borders

abbrev pub lowest : ℕ → ℕ → ℕ
lowest bits count = bit_and bits (2 ^ count - 1)

lowest-bit : (bits count k : ℕ) → k < count → bit_at (lowest bits count) k ≡ bit_at bits k
lowest-bit bits count k l = omega (arith, bit_at_and bits (2 ^ count - 1) k, bit_at_ones count k l, bit_at-lt bits k)

lowest-above : (bits count k : ℕ) → count ≤ k → bit_at (lowest bits count) k ≡ 0
lowest-above bits count k h = omega (arith, bit_at_and bits (2 ^ count - 1) k, bit_at_ones_above count k h)

-- the borders among the `count` bytes at `made`, of which those before `after` are noted
pub record AreLeft (text : List ℕ) (made bits count after later : ℕ) : Type 0 where
  pub low : made ≤ after
  pub high : after ≤ made + count
  pub over : (k : ℕ) → k < count → bit_at later k ≡ cond (ltb (made + k) after) 0 (bit_at bits k)
  pub past : (k : ℕ) → count ≤ k → bit_at later k ≡ 0
  pub are : (k : ℕ) → k < count → eqb (bit_at bits k) 1 ≡ is_border (get_or text (made + k) 0)

pub left-all : (text : List ℕ) (made bits count : ℕ) → ((k : ℕ) → k < count → eqb (bit_at bits k) 1 ≡ is_border (get_or text (made + k) 0)) → AreLeft text made bits count made (lowest bits count)
left-all text made bits count are = record {
  low = omega arith;
  high = omega arith;
  over = λ k l. lowest-bit bits count k l ∙ sym (cond-false (ltb (made + k) made) 0 (bit_at bits k) (le-ltb (made + k) made (omega arith)));
  past = lowest-above bits count;
  are = are;
}

no-border : (text : List ℕ) (made bits count after later k : ℕ) → AreLeft text made bits count after later → after ≤ k → k < made + count → bit_at later (k - made) ≡ 0 → is_border (get_or text k 0) ≡ false
no-border text made bits count after later k left low high none =
    let there : made + (k - made) ≡ k = omega (arith, left.low, low) in
    let inside : k - made < count = omega (arith, left.low, low, high) in
    let bit : bit_at bits (k - made) ≡ 0 =
    sym (cond-false (ltb (made + (k - made)) after) 0 (bit_at bits (k - made)) (le-ltb (made + (k - made)) after (omega (arith, there, low)))) ∙ sym (left.over (k - made) inside) ∙ none in
    rw there at (sym (left.are (k - made) inside) ∙ ap (λ x. eqb x 1) bit)

pub left-none : (text : List ℕ) (made bits count after later k : ℕ) → AreLeft text made bits count after later → later ≡ 0 → after ≤ k → k < made + count → is_border (get_or text k 0) ≡ false
left-none text made bits count after later k left none low high = no-border text made bits count after later k left low high (ap (λ x. bit_at x (k - made)) none ∙ bit_at-zero (k - made))

-- the next of them
pub record IsNext (text : List ℕ) (made bits count after index later : ℕ) : Type 0 where
  pub inside : index < count
  pub behind : after ≤ made + index
  pub border : is_border (get_or text (made + index) 0) ≡ true
  pub none : (k : ℕ) → after ≤ k → k < made + index → is_border (get_or text k 0) ≡ false
  pub left : AreLeft text made bits count (made + index + 1) (bit_and later (later - 1))
  pub less : bit_and later (later - 1) < later

-- a number less 1 has the bits below its lowest 1 set, that one not, and the others as they were
lowest-cleared : (n t k : ℕ) → bit_at n t ≡ 1 → ((i : ℕ) → i < t → bit_at n i ≡ 0) → bit_at (bit_and n (n - 1)) k ≡ min (bit_at n k) (1 - bit_at (2 ^ t) k)
lowest-cleared n t k one none =
    omega (arith, bit_at_and n (n - 1) k, before k (cases_lt k t) (cases_lt t k), bit_at-lt n k)
  where
    top : ℕ
    top = n / 2 ^ (t + 1)

    power : 2 ^ (t + 1) ≡ 2 * 2 ^ t
    power = let step : t + 1 ≡ suc t = omega arith in rw step (double t) where
      double : (n : ℕ) → 2 ^ suc n ≡ 2 * 2 ^ n
      double n = omega arith

    some : 0 < 2 ^ t
    some = omega arith

    bits_are : (i : ℕ) → (i < t + 1) ⊎ (t + 1 ≤ i) → (i < t) ⊎ (t ≤ i) → bit_at n i ≡ bit_at (top * 2 ^ (t + 1) + 2 ^ t) i
    bits_are i (inl low) (inl below) = none i below ∙ sym (bit_at_cat_low top (t + 1) (2 ^ t) i low ∙ bit_at-pow_other t i (λ same. omega (arith, same, below)))
    bits_are i (inl low) (inr from) =
        let same : i ≡ t = omega (arith, low, from) in
        rw same (one ∙ sym (bit_at_cat_low top (t + 1) (2 ^ t) t (omega arith) ∙ bit_at-pow_same t))
    bits_are i (inr high) other =
        let there : t + 1 + (i - (t + 1)) ≡ i = omega (arith, high) in
        sym (bit_at_cat_high top (t + 1) (2 ^ t) i (omega (arith, power, some)) high ∙ ap (λ x. x % 2) (shr-shr n (t + 1) (i - (t + 1))) ∙ ap (bit_at n) there)

    whole : n ≡ top * 2 ^ (t + 1) + 2 ^ t
    whole = same_from_bits n (top * 2 ^ (t + 1) + 2 ^ t) (λ i. bits_are i (cases_lt i (t + 1)) (cases_lt i t))

    less : n - 1 ≡ top * 2 ^ (t + 1) + (2 ^ t - 1)
    less = omega (arith, whole, some)

    before : (k : ℕ) → (k < t) ⊎ (t ≤ k) → (t < k) ⊎ (k ≤ t) → min (bit_at n k) (bit_at (n - 1) k) ≡ min (bit_at n k) (1 - bit_at (2 ^ t) k)
    before k (inl below) other = let zeros = none k below in omega arith
    before k (inr from) (inr upto) =
        let same : k ≡ t = omega (arith, from, upto) in
        rw same (let cleared = ap (λ m. bit_at m t) less ∙ bit_at_cat_low top (t + 1) (2 ^ t - 1) t (omega arith) ∙ bit_at_ones_above t t (omega arith) in omega (arith, cleared, bit_at-pow_same t))
    before k (inr from) (inl above) =
        let kept = ap (λ m. bit_at m k) less ∙ bit_at_cat_high top (t + 1) (2 ^ t - 1) k (omega (arith, power, some)) (omega (arith, above)) ∙ sym (ap (λ m. bit_at m k) whole ∙ bit_at_cat_high top (t + 1) (2 ^ t) k (omega (arith, power, some)) (omega (arith, above))) in
        omega (arith, kept, bit_at-pow_other t k (λ same. omega (arith, same, above)), bit_at-lt n k)

positive : (n : ℕ) → (n ≡ 0 → ⊥) → 0 < n
positive zero f = absurd (f refl)
positive (suc n) f = omega arith

pub left-next : (text : List ℕ) (made bits count after later : ℕ) → count ≤ 63 → later < 2 ^ 64 → AreLeft text made bits count after later → (later ≡ 0 → ⊥) → IsNext text made bits count after (trailing_zeros w64 later) later
left-next text made bits count after later few small left some =
    let t = bit_at-trailing_zeros w64 later (positive later some) small in
    let index = trailing_zeros w64 later in
    let inside : index < count = ⊎_elim (λ l. l) (λ h. absurd (omega (arith, t.1, left.past index h))) (cases_lt index count) in
    let behind : after ≤ made + index =
    ⊎_elim
    (λ l. absurd (omega (arith, t.1, left.over index inside ∙ cond-true (ltb (made + index) after) 0 (bit_at bits index) (lt-ltb (made + index) after l))))
    (λ h. h)
    (cases_lt (made + index) after) in
    let bit : bit_at bits index ≡ 1 =
    sym (cond-false (ltb (made + index) after) 0 (bit_at bits index) (le-ltb (made + index) after behind)) ∙ sym (left.over index inside) ∙ t.1 in
    let rest = bit_and later (later - 1) in
    let of_rest : (k : ℕ) → k < 64 → bit_at rest k ≡ min (bit_at later k) (1 - bit_at (2 ^ index) k) = (λ k l. lowest-cleared later index k t.1 t.2) in
    record {
      inside = inside;
      behind = behind;
      border = sym (left.are index inside) ∙ ap (λ x. eqb x 1) bit;
      none = λ k l h.
          no-border text made bits count after later k left l (omega (arith, h, inside)) (t.2 (k - made) (omega (arith, h, left.low, l)));
      left = record {
        low = omega arith;
        high = omega (arith, inside);
        over = λ k l. over index rest k l (cases_lt k index) (cases_lt index k) of_rest t.2 behind;
        past = λ k h. omega (arith, bit_at_and later (later - 1) k, left.past k h);
        are = left.are;
      };
      less = let some_left = positive later some in omega (arith, and_le_r later (later - 1), some_left);
    }
  where
    over : (index rest k : ℕ) → k < count → (k < index) ⊎ (index ≤ k) → (index < k) ⊎ (k ≤ index) → ((k : ℕ) → k < 64 → bit_at rest k ≡ min (bit_at later k) (1 - bit_at (2 ^ index) k))
        → ((i : ℕ) → i < index → bit_at later i ≡ 0) → after ≤ made + index → bit_at rest k ≡ cond (ltb (made + k) (made + index + 1)) 0 (bit_at bits k)
    over index rest k l (inl before) other of_rest none behind =
        omega (arith, of_rest k (omega (arith, l, few)), none k before) ∙ sym (cond-true (ltb (made + k) (made + index + 1)) 0 (bit_at bits k) (lt-ltb (made + k) (made + index + 1) (omega (arith, before))))
    over index rest k l (inr from) (inl more) of_rest none behind =
        let bit : bit_at later k ≡ bit_at bits k = left.over k l ∙ cond-false (ltb (made + k) after) 0 (bit_at bits k) (le-ltb (made + k) after (omega (arith, behind, more))) in
        omega (arith, of_rest k (omega (arith, l, few)), bit_at-pow_other index k (λ same. omega (arith, same, more)), bit_at-lt later k, bit)
        ∙ sym (cond-false (ltb (made + k) (made + index + 1)) 0 (bit_at bits k) (le-ltb (made + k) (made + index + 1) (omega (arith, more))))
    over index rest k l (inr from) (inr upto) of_rest none behind =
        let same : k ≡ index = omega (arith, from, upto) in
        omega (arith, of_rest k (omega (arith, l, few)), ap (bit_at (2 ^ index)) same, bit_at-pow_same index)
        ∙ sym (cond-true (ltb (made + k) (made + index + 1)) 0 (bit_at bits k) (lt-ltb (made + k) (made + index + 1) (omega (arith, upto))))
