-- Whether a word begins an item, by the letters and digits with which it begins.
use Rattle.std.proofs.Common.{◌≡◌, ℕ, not, suc, ◌<◌, ◌≤◌, Bool, true, false, ◌&&◌, eqb, ltb, leb, List, [], ◌∷◌, length, take, get_or, sym, refl, ap, ◌∙◌, arith, ⊎_elim}
use Rattle.std.specs.List.{list_all, prefix_len}
use Rattle.std.proofs.lemmas.Bool.{and_parts, cases_Bool, eq-eqb, eqb-true, false_from_ne_true, false≢true, le-ltb, ltb-true}
use Rattle.std.proofs.lemmas.List.{length-take, get_or-take}
use Rattle.std.proofs.lemmas.List.Folds.{list_all_at}
use Rattle.std.proofs.lemmas.List.Sums.{prefix_len_is, prefix_len_passes, position_or_len_is, passes_at_first}
use Rattle.fpl_text.specs.Bytes.{is_letter, is_digit, is_letter_or_digit}
use Rattle.fpl_items.specs.Kinds.{before_stroke}
use Rattle.fpl_text.specs.Words.{lacks}
use Rattle.fpl_items.specs.Items.{begins_item}

pub list_all-prefix : (p : ℕ → Bool) (xs : List ℕ) (n : ℕ) → n ≤ prefix_len p xs → list_all p (take n xs) ≡ true
list_all-prefix p xs n h =
    ⊎_elim (λ yes. yes)
    (λ no. absurd (false≢true (sym no ∙ every (take n xs) (λ k l. ap p (get_or-take n xs k 0 (omega (arith, length-take n xs))) ∙ prefix_len_passes p xs k 0 (omega (arith, length-take n xs))))))
    (cases_Bool (list_all p (take n xs)))
  where
    every : (ys : List ℕ) → ((k : ℕ) → k < length ys → p (get_or ys k 0) ≡ true) → list_all p ys ≡ true
    every [] h = refl
    every (y ∷ ys) h = rw (h 0 (omega arith)) (every ys (λ k l. h (suc k) (omega arith)))

pub stroke-other : is_letter_or_digit 47 ≡ false
unfolding is_letter is_digit
stroke-other = refl

-- the stroke follows the letters and digits
pub stroke-behind : (word : List ℕ) (n : ℕ) → n ≡ prefix_len is_letter_or_digit word → n < length word → get_or word n 0 ≡ 47 → before_stroke word ≡ n
stroke-behind word n same h at_stroke =
    position_or_len_is (λ b. eqb b 47) word n 0 (omega arith)
    (λ k l. false_from_ne_true _ (λ is. absurd (false≢true (sym stroke-other ∙ ap is_letter_or_digit (sym (eqb-true _ 47 is)) ∙ prefix_len_passes is_letter_or_digit word k 0 (omega arith)))))
    (λ _. eq-eqb _ 47 at_stroke)

-- a name has as many letters and digits as precede the stroke
pub name-long : (word : List ℕ) → before_stroke word < length word → list_all is_letter_or_digit (take (before_stroke word) word) ≡ true
    → prefix_len is_letter_or_digit word ≡ before_stroke word
name-long word short all =
    let stroke : eqb (get_or word (before_stroke word) 0) 47 ≡ true = passes_at_first (λ b. eqb b 47) word 0 short in
    prefix_len_is is_letter_or_digit word (before_stroke word) 0 (omega arith)
    (λ k l. ⊎_elim (λ y. y) (λ no. absurd (false≢true (sym (list_all_at is_letter_or_digit (take (before_stroke word) word) k 0 (omega (arith, length-take (before_stroke word) word)) (ap is_letter_or_digit (get_or-take (before_stroke word) word k 0 l) ∙ no)) ∙ all))) (cases_Bool (is_letter_or_digit (get_or word k 0))))
    (λ _. ap is_letter_or_digit (eqb-true _ 47 stroke) ∙ stroke-other)

pub begins_item-is : (word : List ℕ) (n : ℕ) → n ≡ prefix_len is_letter_or_digit word
    → (ltb n (length word) && eqb (get_or word n 0) 47 && leb 2 n && leb n 9 && is_letter (get_or word 0 0)) ≡ begins_item word
unfolding begins_item
begins_item-is word n same =
    ⊎_elim stands (λ no. rw no (sym (false_from_ne_true _ (λ yes. absurd (false≢true (sym no ∙ other yes)))))) (cases_Bool (ltb n (length word) && eqb (get_or word n 0) 47))
  where
    and-true : (b : Bool) → b && true ≡ b
    and-true true = refl
    and-true false = refl

    stands : ltb n (length word) && eqb (get_or word n 0) 47 ≡ true
        → (ltb n (length word) && eqb (get_or word n 0) 47 && leb 2 n && leb n 9 && is_letter (get_or word 0 0))
        ≡ (ltb (before_stroke word) (length word) && leb 2 (before_stroke word) && leb (before_stroke word) 9 && is_letter (get_or word 0 0) && list_all is_letter_or_digit (take (before_stroke word) word))
    stands h =
        let parts = and_parts _ _ h in
        let stroke = stroke-behind word n same (ltb-true _ _ parts.0) (eqb-true _ 47 parts.1) in
        rw (stroke, h, parts.0, list_all-prefix is_letter_or_digit word n (omega arith)) (sym (and-true _))

    other : ltb (before_stroke word) (length word) && leb 2 (before_stroke word) && leb (before_stroke word) 9 && is_letter (get_or word 0 0) && list_all is_letter_or_digit (take (before_stroke word) word) ≡ true
        → ltb n (length word) && eqb (get_or word n 0) 47 ≡ true
    other h =
        let all = and_parts _ _ h in
        let front = and_parts _ _ (and_parts _ _ (and_parts _ _ all.0).0).0 in
        let short : before_stroke word < length word = ltb-true _ _ front.0 in
        let stroke : eqb (get_or word (before_stroke word) 0) 47 ≡ true = passes_at_first (λ b. eqb b 47) word 0 short in
        rw (same, name-long word short all.1, stroke, front.0) refl

-- a word without a stroke begins no item
pub no-item : (word : List ℕ) → lacks 47 word ≡ true → begins_item word ≡ false
unfolding begins_item
no-item word none =
    let whole : before_stroke word ≡ length word =
    position_or_len_is (λ b. eqb b 47) word (length word) 0 (omega arith)
    (λ k l. false_from_ne_true _ (λ is. absurd (false≢true (sym (list_all_at (λ b. not (eqb b 47)) word k 0 l (ap not is)) ∙ none))))
    (λ l. absurd (omega arith)) in
    rw (whole, le-ltb (length word) (length word) (omega arith)) refl
