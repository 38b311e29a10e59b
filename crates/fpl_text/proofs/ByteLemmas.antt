-- How the kinds of bytes stand to one another.
use Rattle.std.proofs.Common.{◌≡◌, ◌<◌, ◌≤◌, ◌+◌, ◌-◌, zero, suc, ℕ, Bool, List, true, false, ◌||◌, ltb, cond, length, get_or, take, drop, refl, sym, ap, ◌∙◌, arith}
use Rattle.std.specs.List.{prefix_len}
use Rattle.std.proofs.lemmas.Bool.{false≢true, agree_below_at}
use Rattle.std.proofs.lemmas.List.{length-drop, take_all}
use Rattle.std.proofs.lemmas.List.Sums.{prefix_len-drop_no, prefix_len-drop_yes}
use Rattle.fpl_text.specs.Bytes.{is_letter, is_digit, is_letter_or_digit, is_blank, is_border, is_other_mark, is_plain, is_accepted}
use Rattle.fpl_text.specs.declared.byte.TheConstants.{LETTERS_AND_DIGITS}
use Rattle.fpl_text.specs.Looks.{is_solid, as_space}

pub plain-no_blank : (b : ℕ) → is_plain b ≡ true → is_blank b ≡ false
unfolding is_plain is_blank is_letter is_digit is_other_mark
plain-no_blank b h = grind arith

pub plain-no_border : (b : ℕ) → is_plain b ≡ true → is_border b ≡ false
unfolding is_plain is_border is_letter is_digit is_other_mark
plain-no_border b h = grind arith

pub border-no_blank : (b : ℕ) → is_border b ≡ true → is_blank b ≡ false
unfolding is_border is_blank
border-no_blank b h = grind arith

pub blank-no_border : (b : ℕ) → is_blank b ≡ true → is_border b ≡ false
unfolding is_border is_blank
blank-no_border b h = grind arith

pub accepted-is : (b : ℕ) → is_accepted b ≡ is_solid b || is_blank b
unfolding is_accepted is_plain
accepted-is b = by (is_letter b || is_digit b) (is_blank b) (is_border b) (is_other_mark b) where
  last : (s b m : Bool) → (s || b) || m ≡ (m || b) || s
  last true true true = refl
  last true true false = refl
  last true false true = refl
  last true false false = refl
  last false true true = refl
  last false true false = refl
  last false false true = refl
  last false false false = refl

  by : (x s b m : Bool) → ((x || s) || b) || m ≡ ((x || m) || b) || s
  by true s b m = refl
  by false s b m = last s b m

pub blank-accepted : (b : ℕ) → is_blank b ≡ true → is_accepted b ≡ true
unfolding is_accepted
blank-accepted b h = grind arith

pub bad-no_blank : (b : ℕ) → is_accepted b ≡ false → is_blank b ≡ false
unfolding is_accepted
bad-no_blank b h = grind arith

pub solid-from : (b : ℕ) → is_blank b ≡ false → is_accepted b ≡ true → is_solid b ≡ true
solid-from b h good = by (is_solid b) (is_blank b) h (sym (accepted-is b) ∙ good) where
  by : (s w : Bool) → w ≡ false → s || w ≡ true → s ≡ true
  by true w h k = refl
  by false w h k = absurd (false≢true (sym h ∙ k))

pub solid-no_blank : (b : ℕ) → is_solid b ≡ true → is_blank b ≡ false
solid-no_blank b h = by (is_plain b) refl h where
  by : (p : Bool) → is_plain b ≡ p → p || is_border b ≡ true → is_blank b ≡ false
  by true e k = plain-no_blank b e
  by false e k = border-no_blank b k

low-plain : (b : ℕ) → is_plain b ≡ true → ltb b 32 ≡ false
unfolding is_plain is_letter is_digit is_other_mark
low-plain b h = grind arith

low-border : (b : ℕ) → is_border b ≡ true → ltb b 32 ≡ false
unfolding is_border
low-border b h = grind arith

-- no byte but a blank is changed
pub solid-as_is : (b : ℕ) → is_solid b ≡ true → as_space b ≡ b
solid-as_is b h = by (is_plain b) refl h where
  by : (p : Bool) → is_plain b ≡ p → p || is_border b ≡ true → as_space b ≡ b
  by true e k = rw (low-plain b e) refl
  by false e k = rw (low-border b k) refl

pub blank-as_space : (b : ℕ) → is_blank b ≡ true → as_space b ≡ 32
unfolding is_blank
blank-as_space b h = grind arith

pub other-no_border : is_border 32 ≡ false
unfolding is_border
other-no_border = refl

pub no_zero : (is_plain 0 ≡ false) × ((is_solid 0 ≡ false) × (is_blank 0 ≡ false))
unfolding is_plain is_letter is_digit is_other_mark is_border is_blank
no_zero = (refl, (refl, refl))

-- a space is no border, nor is a byte below it
border-low : (b : ℕ) (low : Bool) → ltb b 32 ≡ low → is_border (cond low 32 b) ≡ is_border b
unfolding is_border
border-low b true h = grind arith
border-low b false h = refl

pub border-as_space : (b : ℕ) → is_border (as_space b) ≡ is_border b
border-as_space b = border-low b (ltb b 32) refl

-- the table of letters and digits
pub in-table : (b : ℕ) → b < 256 → get_or LETTERS_AND_DIGITS b false ≡ is_letter_or_digit b
unfolding is_letter is_digit
in-table b l = agree_below_at (λ x. get_or LETTERS_AND_DIGITS x false) (λ x. is_letter_or_digit x) 256 b refl l

-- ---- how many bytes of a kind follow one another

-- the first n bytes from an offset on are of this kind
pub prefix-more : (p : ℕ → Bool) (text : List ℕ) (place n : ℕ) → place + n ≤ length text → ((k : ℕ) → k < n → p (get_or text (place + k) 0) ≡ true)
    → prefix_len p (drop place text) ≡ n + prefix_len p (drop (place + n) text)
prefix-more p text place zero h are = let same : place + 0 ≡ place = omega arith in rw same (omega arith)
prefix-more p text place (suc n) h are =
    let first : p (get_or text place 0) ≡ true = let same : place + 0 ≡ place = omega arith in rw same at (are 0 (omega arith)) in
    let others : (k : ℕ) → k < n → p (get_or text (place + 1 + k) 0) ≡ true = λ k l. let same : place + suc k ≡ place + 1 + k = omega arith in rw same at (are (suc k) (omega (arith, l))) in
    let step : place + suc n ≡ place + 1 + n = omega arith in
    rw step (omega (arith, prefix_len-drop_yes p text place 0 (omega (arith, h)) first, prefix-more p text (place + 1) n (omega (arith, h)) others))

-- and the next is of another
pub prefix-end : (p : ℕ → Bool) (text : List ℕ) (place n : ℕ) → place + n < length text → ((k : ℕ) → k < n → p (get_or text (place + k) 0) ≡ true) → p (get_or text (place + n) 0) ≡ false
    → prefix_len p (drop place text) ≡ n
prefix-end p text place n h are other = omega (arith, prefix-more p text place n (omega (arith, h)) are, prefix_len-drop_no p text (place + n) 0 h other)

-- the rest of a text
pub prefix-rest : (p : ℕ → Bool) (text : List ℕ) (place : ℕ) → prefix_len p (take (length text - place) (drop place text)) ≡ prefix_len p (drop place text)
prefix-rest p text place = ap (prefix_len p) (take_all (length text - place) (drop place text) (omega (arith, length-drop place text)))
