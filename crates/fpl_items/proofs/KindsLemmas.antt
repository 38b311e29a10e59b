-- The kinds of words of letters alone, and of letters and digits alone.
use Rattle.std.proofs.Common.{◌≡◌, ℕ, zero, suc, ◌+◌, ◌<◌, ◌≤◌, Bool, true, false, not, ◌&&◌, ◌||◌, eqb, leb, List, [], ◌∷◌, length, take, drop, get_or, codes, sym, refl, ap, ◌∙◌, arith, ⊎_elim, inl, inr}
use Rattle.std.specs.Prelude.{Some, None, ◌⊎◌, if◌then◌else◌}
use Rattle.std.specs.List.{list_all, prefix_len}
use Rattle.std.proofs.lemmas.Bool.{cases_Bool, false≢true, false_from_ne_true, and_parts, and_from, eqb-true, eq-eqb, leb-true, le-leb, lt-leb, le-ltb, ne_eqb}
use Rattle.std.proofs.lemmas.List.{length-take, get_or-take, take_all, drop_all}
use Rattle.std.proofs.lemmas.List.Folds.{list_all_at}
use Rattle.std.proofs.lemmas.List.Sums.{prefix_len_stops, prefix_len_passes, position_or_len_is}
use lib.Pointwise.{pointwise_long, bytes_decides}
use Rattle.fpl_text.specs.Bytes.{is_letter, is_digit, is_letter_or_digit}
use Rattle.fpl_items.specs.declared.route.Kind.TheVariants.{Point, Change, Climb, Designator, Other}
use Rattle.fpl_items.specs.Kinds.{is_text, is_name, is_coordinate, is_point, before_stroke, is_change, is_climb, is_designator, is_route_byte, kind_of}
use Rattle.fpl_items.proofs.ItemsLemmas.{list_all-prefix}

all-prefix : (p : ℕ → Bool) (word : List ℕ) → prefix_len p word ≡ length word → list_all p word ≡ true
all-prefix p word h = rw (take_all (length word) word (omega arith)) at (list_all-prefix p word (length word) (omega arith))

not-all : (p : ℕ → Bool) (word : List ℕ) → prefix_len p word < length word → list_all p word ≡ false
not-all p word h = list_all_at p word (prefix_len p word) 0 h (prefix_len_stops p word 0 h)

-- a text of another length, or with other bytes
text-long : (text word : List ℕ) → (length word ≡ length text → ⊥) → is_text text word ≡ false
text-long text word other = false_from_ne_true _ (λ is. other (pointwise_long eqb word text is))

text-letters : (text word : List ℕ) → list_all is_letter text ≡ true → list_all is_letter word ≡ false → is_text text word ≡ false
text-letters text word all none = false_from_ne_true _ (λ is. absurd (false≢true (sym none ∙ ap (list_all is_letter) ((bytes_decides word text).0 is) ∙ all)))

-- none of the words that have a kind of their own
pub record NoKeyword (word : List ℕ) : Type 0 where
  pub dct : is_text (codes "DCT") word ≡ false
  pub vfr : is_text (codes "VFR") word ≡ false
  pub ifr : is_text (codes "IFR") word ≡ false
  pub oat : is_text (codes "OAT") word ≡ false
  pub gat : is_text (codes "GAT") word ≡ false

keyword-long : (word : List ℕ) → (length word ≡ 3 → ⊥) → NoKeyword word
keyword-long word other = record {
  dct = text-long (codes "DCT") word other;
  vfr = text-long (codes "VFR") word other;
  ifr = text-long (codes "IFR") word other;
  oat = text-long (codes "OAT") word other;
  gat = text-long (codes "GAT") word other;
}

pub keyword-letters : (word : List ℕ) → prefix_len is_letter word < length word → NoKeyword word
unfolding is_letter
keyword-letters word h =
    let none = not-all is_letter word h in
    record {
      dct = text-letters (codes "DCT") word refl none;
      vfr = text-letters (codes "VFR") word refl none;
      ifr = text-letters (codes "IFR") word refl none;
      oat = text-letters (codes "OAT") word refl none;
      gat = text-letters (codes "GAT") word refl none;
    }

-- a word that is not of letters alone
pub kind-not_letters : (word : List ℕ) → prefix_len is_letter word < length word
    → kind_of word ≡ (if is_point word then Some Point else (if is_change word then Some Change else (if is_climb word then Some Climb else (if is_designator word then Some Designator else (if list_all is_route_byte word then Some Other else None)))))
unfolding kind_of
kind-not_letters word h =
    let none = keyword-letters word h in
    rw (none.dct, none.vfr, none.ifr, none.oat, none.gat) refl

letter_or_digit : (b : ℕ) → is_letter b ≡ true → is_letter_or_digit b ≡ true
letter_or_digit b h = rw h refl

letter-no_digit : (b : ℕ) → is_letter b ≡ true → is_digit b ≡ false
unfolding is_letter is_digit
letter-no_digit b h = grind arith

no_stroke : (b : ℕ) → is_letter_or_digit b ≡ true → eqb b 47 ≡ false
unfolding is_letter is_digit
no_stroke b h = grind arith

route-byte : (b : ℕ) → is_letter_or_digit b ≡ true → is_route_byte b ≡ true
unfolding is_route_byte
route-byte b h = rw h refl

every : (p q : ℕ → Bool) (word : List ℕ) → ((b : ℕ) → p b ≡ true → q b ≡ true) → list_all p word ≡ true → list_all q word ≡ true
every p q [] step h = refl
every p q (b ∷ word) step h = let parts = and_parts _ _ h in and_from _ _ (step b parts.0) (every p q word step parts.1)

-- what no word of letters and digits alone is
record Plain (word : List ℕ) : Type 0 where
  change : is_change word ≡ false
  climb : is_climb word ≡ false
  route : list_all is_route_byte word ≡ true

plain : (word : List ℕ) → list_all is_letter_or_digit word ≡ true → Plain word
unfolding is_change is_climb
plain word all =
    let at_place : (k : ℕ) → k < length word → eqb (get_or word k 0) 47 ≡ false = (λ k l.
    ⊎_elim (λ yes. no_stroke _ yes) (λ no. absurd (false≢true (sym (list_all_at is_letter_or_digit word k 0 l no) ∙ all))) (cases_Bool (is_letter_or_digit (get_or word k 0)))) in
    let whole : before_stroke word ≡ length word = position_or_len_is (λ b. eqb b 47) word (length word) 0 (omega arith) at_place (λ l. absurd (omega arith)) in
    record {
      change = rw (whole, le-ltb (length word) (length word) (omega arith)) refl;
      climb = false_from_ne_true _ (λ yes.
          let second = and_parts _ _ (and_parts _ _ yes).0 in
          let long = and_parts _ _ second.0 in
          absurd (false≢true (sym (at_place 1 (omega (arith, leb-true 2 (length word) long.0))) ∙ second.1)));
      route = every is_letter_or_digit is_route_byte word route-byte all;
    }

and-true : (b : Bool) → b && true ≡ b
and-true true = refl
and-true false = refl

-- a coordinate begins with a digit
coordinate-letter : (north east : ℕ) (word : List ℕ) → 0 < north → is_letter (get_or word 0 0) ≡ true → is_coordinate north east word ≡ false
unfolding is_coordinate
coordinate-letter north east word some letter =
    false_from_ne_true _ (λ yes.
    let digits = and_parts _ _ (and_parts _ _ (and_parts _ _ (and_parts _ _ yes).0).0).0 in
    let long = eqb-true _ _ digits.0 in
    let first : is_digit (get_or (take north word) 0 0) ≡ false = ap is_digit (get_or-take north word 0 0 some) ∙ letter-no_digit _ letter in
    absurd (false≢true (sym (list_all_at is_digit (take north word) 0 0 (omega (arith, length-take north word)) first) ∙ digits.1)))

-- a coordinate has its length
coordinate-long : (north east : ℕ) (word : List ℕ) → (length word ≡ north + east + 2 → ⊥) → is_coordinate north east word ≡ false
unfolding is_coordinate
coordinate-long north east word other =
    false_from_ne_true _ (λ yes. other (eqb-true _ _ (and_parts _ _ (and_parts _ _ (and_parts _ _ (and_parts _ _ yes).0).0).0).0))

-- a word of letters is a name if it is as long as one
point-letters : (word : List ℕ) → prefix_len is_letter word ≡ length word → is_point word ≡ leb 2 (length word) && leb (length word) 5
unfolding is_point is_name
point-letters word h =
    let name : leb 2 (prefix_len is_letter word) && leb (prefix_len is_letter word) 5 && list_all is_digit (drop (prefix_len is_letter word) word) && (eqb (length word) (prefix_len is_letter word) || eqb (length word) (prefix_len is_letter word + 6)) ≡ leb 2 (length word) && leb (length word) 5 =
    rw (h, drop_all (length word) word (omega arith), eq-eqb (length word) (length word) refl) (and-true _ ∙ and-true _) in
    ⊎_elim
    (λ some. let letter = prefix_len_passes is_letter word 0 0 (omega arith) in rw (name, coordinate-letter 2 3 word (omega arith) letter, coordinate-letter 4 5 word (omega arith) letter) (or-false _))
    (λ none. rw (name, coordinate-long 2 3 word (λ e. absurd (omega arith)), coordinate-long 4 5 word (λ e. absurd (omega arith))) (or-false _))
    (cases_pos (length word))
  where
    or-false : (b : Bool) → b || false || false ≡ b
    or-false true = refl
    or-false false = refl

    cases_pos : (n : ℕ) → (0 < n) ⊎ (n ≡ 0)
    cases_pos zero = inr refl
    cases_pos (suc n) = inl (omega arith)

pub kind-point : (word : List ℕ) → prefix_len is_letter word ≡ length word → NoKeyword word → 2 ≤ length word → length word ≤ 5 → kind_of word ≡ Some Point
unfolding kind_of
kind-point word h none low high =
    rw (none.dct, none.vfr, none.ifr, none.oat, none.gat, point-letters word h, le-leb 2 (length word) low, le-leb (length word) 5 high) refl

pub kind-name : (word : List ℕ) → prefix_len is_letter word ≡ length word → (length word ≡ 3 → ⊥) → 2 ≤ length word → length word ≤ 5 → kind_of word ≡ Some Point
kind-name word h other low high = kind-point word h (keyword-long word other) low high

-- a word of letters that is too short or too long for a name
pub kind-other : (word : List ℕ) → prefix_len is_letter word ≡ length word → leb 2 (length word) && leb (length word) 5 ≡ false → kind_of word ≡ Some Other
unfolding kind_of is_designator
kind-other word h long =
    let letters = all-prefix is_letter word h in
    let p = plain word (every is_letter is_letter_or_digit word letter_or_digit letters) in
    let none = keyword-long word (λ e. absurd (false≢true (sym long ∙ rw e refl))) in
    let designator : leb 2 (length word) && leb (length word) 7 && list_all is_letter_or_digit word && not (list_all is_letter word) ≡ false = rw letters (and-false _) in
    rw (none.dct, none.vfr, none.ifr, none.oat, none.gat, point-letters word h, long, p.change, p.climb, designator, p.route) refl
  where
    and-false : (b : Bool) → b && false ≡ false
    and-false true = refl
    and-false false = refl

-- letters and digits that are too few for a point
point-short : (word : List ℕ) → prefix_len is_letter word < length word → length word < 7 → is_point word ≡ false
unfolding is_point is_name
point-short word h short =
    let name : leb 2 (prefix_len is_letter word) && leb (prefix_len is_letter word) 5 && list_all is_digit (drop (prefix_len is_letter word) word) && (eqb (length word) (prefix_len is_letter word) || eqb (length word) (prefix_len is_letter word + 6)) ≡ false =
    false_from_ne_true _ (λ yes.
    let parts = and_parts _ _ yes in
    let low = leb-true 2 (prefix_len is_letter word) (and_parts _ _ (and_parts _ _ parts.0).0).0 in
    let all : eqb (length word) (prefix_len is_letter word) ≡ false = ne_eqb _ _ (λ e. absurd (omega arith)) in
    let six : eqb (length word) (prefix_len is_letter word + 6) ≡ false = ne_eqb _ _ (λ e. absurd (omega (arith, low))) in
    let neither : eqb (length word) (prefix_len is_letter word) || eqb (length word) (prefix_len is_letter word + 6) ≡ false = rw (all, six) refl in
    absurd (false≢true (sym neither ∙ parts.1))) in
    rw (name, coordinate-long 2 3 word (λ e. absurd (omega arith)), coordinate-long 4 5 word (λ e. absurd (omega arith))) refl

pub kind-designator : (word : List ℕ) → prefix_len is_letter word < length word → prefix_len is_letter_or_digit word ≡ length word → 2 ≤ length word → length word < 7 → kind_of word ≡ Some Designator
unfolding kind_of is_designator
kind-designator word digit alone long short =
    let all = all-prefix is_letter_or_digit word alone in
    let p = plain word all in
    let none = keyword-letters word digit in
    rw (none.dct, none.vfr, none.ifr, none.oat, none.gat, point-short word digit short, p.change, p.climb, le-leb 2 (length word) long, le-leb (length word) 7 (omega arith), all, not-all is_letter word digit) refl

pub kind-digit : (word : List ℕ) → prefix_len is_letter word < length word → prefix_len is_letter_or_digit word ≡ length word → length word < 2 → kind_of word ≡ Some Other
unfolding kind_of is_designator
kind-digit word digit alone short =
    let all = all-prefix is_letter_or_digit word alone in
    let p = plain word all in
    let none = keyword-letters word digit in
    rw (none.dct, none.vfr, none.ifr, none.oat, none.gat, point-short word digit (omega arith), p.change, p.climb, lt-leb 2 (length word) short, p.route) refl
