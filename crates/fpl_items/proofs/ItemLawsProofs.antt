-- The items of field 18 make up its words.
use Rattle.std.proofs.Common.{◌≡◌, ℕ, suc, ◌+◌, ◌<◌, ◌≤◌, ◌⊎◌, inl, inr, Bool, true, false, not, cond, ◌&&◌, eqb, leb, ltb, List, [], ◌∷◌, ◌++◌, length, take, drop, get_or, sym, refl, ap, subst, ◌∙◌, arith, length-append, drop-cons}
use Rattle.std.specs.Prelude.{Option, Some, None, Ok, codes, slice_index_or}
use Rattle.std.specs.List.{list_all}
use Rattle.std.proofs.lemmas.Bool.{and_parts, and_from, eqb-true, eq-eqb, ne_eqb, leb-true, le-leb, ltb-true, lt-ltb, false≢true, cond-true, cond-false, not_from_false}
use Rattle.std.proofs.lemmas.List.{take-append-drop, length-take-le, length-drop, get_or-take}
use Rattle.std.proofs.lemmas.List.Sums.{passes_at_first}
use Rattle.std.proofs.Math.Seq.{drop-append-add, take-append_seam}
use Rattle.fpl_text.specs.Bytes.{is_letter, is_letter_or_digit}
use Rattle.fpl_text.specs.Words.{words_of}
use Rattle.fpl_items.specs.declared.fault.ItemFault.{ItemFault}
use Rattle.fpl_items.specs.declared.fault.ItemFault.TheVariants.{BadField}
use Rattle.fpl_items.specs.Kinds.{before_stroke, is_text}
use Rattle.fpl_items.specs.Items.{ItemView, begins_item, own_words, words_before, items_of, field_fault, first_fault, items_or_fault, unless_fault}
use Rattle.fpl_items.proofs.ItemsLemmas.{stroke-other}
use Rattle.fpl_items.specs.ItemLaws.{word_if_any, SpellsItem, SpellItems, BeginWithItem}

-- the words from the first item on
abbrev from_item : List (List ℕ) → List (List ℕ)
from_item [] = []
from_item (word ∷ words) = cond (begins_item word) (word ∷ words) (from_item words)

parts-again : (words : List (List ℕ)) → words ≡ words_before words ++ from_item words
parts-again [] = refl
parts-again (word ∷ words) = cases (parts-again words) (begins_item word) where
  cases : words ≡ words_before words ++ from_item words → (b : Bool) → word ∷ words ≡ cond b [] (word ∷ words_before words) ++ cond b (word ∷ words) (from_item words)
  cases again true = refl
  cases again false = ap (λ ws. word ∷ ws) again

none-begins : (words : List (List ℕ)) → list_all (λ word. not (begins_item word)) (words_before words) ≡ true
none-begins [] = refl
none-begins (word ∷ words) = cases (none-begins words) (begins_item word) refl where
  cases : list_all (λ w. not (begins_item w)) (words_before words) ≡ true → (b : Bool) → begins_item word ≡ b → list_all (λ w. not (begins_item w)) (cond b [] (word ∷ words_before words)) ≡ true
  cases again true e = refl
  cases again false e = and_from (not (begins_item word)) (list_all (λ w. not (begins_item w)) (words_before words)) (not_from_false (begins_item word) e) again

-- what a word that begins an item is
record Begins (word : List ℕ) : Type 0 where
  short : before_stroke word < length word
  some : 2 ≤ before_stroke word
  most : before_stroke word ≤ 9
  letter : is_letter (get_or word 0 0) ≡ true
  name : list_all is_letter_or_digit (take (before_stroke word) word) ≡ true

begins-parts : (word : List ℕ) → begins_item word ≡ true → Begins word
unfolding begins_item
begins-parts word h =
    let n = before_stroke word in
    let a = and_parts (ltb n (length word) && leb 2 n && leb n 9 && is_letter (get_or word 0 0)) (list_all is_letter_or_digit (take n word)) h in
    let b = and_parts (ltb n (length word) && leb 2 n && leb n 9) (is_letter (get_or word 0 0)) a.0 in
    let c = and_parts (ltb n (length word) && leb 2 n) (leb n 9) b.0 in
    let d = and_parts (ltb n (length word)) (leb 2 n) c.0 in
    record { short = ltb-true n (length word) d.0; some = leb-true 2 n d.1; most = leb-true n 9 c.1; letter = b.1; name = a.1 }

begins-from : (word : List ℕ) → Begins word → begins_item word ≡ true
unfolding begins_item
begins-from word w =
    let n = before_stroke word in
    and_from (ltb n (length word) && leb 2 n && leb n 9 && is_letter (get_or word 0 0)) (list_all is_letter_or_digit (take n word))
    (and_from (ltb n (length word) && leb 2 n && leb n 9) (is_letter (get_or word 0 0))
    (and_from (ltb n (length word) && leb 2 n) (leb n 9) (and_from (ltb n (length word)) (leb 2 n) (lt-ltb n (length word) w.short) (le-leb 2 n w.some)) (le-leb n 9 w.most)) w.letter) w.name

own-is : (word : List ℕ) (n : ℕ) → n < length word → cond (eqb (length word) (n + 1)) [] (drop (n + 1) word ∷ []) ≡ word_if_any (drop (n + 1) word)
own-is word n h = cases (drop (n + 1) word) refl where
  cases : (rest : List ℕ) → drop (n + 1) word ≡ rest → cond (eqb (length word) (n + 1)) [] (rest ∷ []) ≡ word_if_any rest
  cases [] e =
      let long : length word ≡ n + 1 = omega (arith, length-drop (n + 1) word, ap length e) in
      cond-true (eqb (length word) (n + 1)) [] ([] ∷ []) (eq-eqb (length word) (n + 1) long)
  cases (b ∷ rest) e =
      let long : length word ≡ n + 1 → ⊥ = λ q. omega (arith, length-drop (n + 1) word, ap length e, q) in
      cond-false (eqb (length word) (n + 1)) [] ((b ∷ rest) ∷ []) (ne_eqb (length word) (n + 1) long)

item-spelled : (word : List ℕ) (words : List (List ℕ)) → begins_item word ≡ true → SpellsItem (record { name = take (before_stroke word) word; words = own_words word ++ words_before words }) (word ∷ words_before words)
item-spelled word words h =
    let w = begins-parts word h in
    let n = before_stroke word in
    let next : suc n ≡ n + 1 = omega arith in
    let stroke : get_or word n 0 ≡ 47 = eqb-true (get_or word n 0) 47 (passes_at_first (λ b. eqb b 47) word 0 w.short) in
    let behind : drop n word ≡ 47 ∷ drop (n + 1) word = drop-cons word n 0 w.short ∙ ap (λ b. b ∷ drop (suc n) word) stroke ∙ ap (λ i. 47 ∷ drop i word) next in
    let long : length (take n word) ≡ n = length-take-le n word (omega (arith, w.short)) in
    record {
      own = drop (n + 1) word;
      others = words_before words;
      some = omega (arith, long, w.some);
      most = omega (arith, long, w.most);
      letter = ap is_letter (get_or-take n word 0 0 (omega (arith, w.some))) ∙ w.letter;
      name = w.name;
      none_begins = none-begins words;
      words_are = ap (λ ws. ws ++ words_before words) (own-is word n w.short);
      spelled = ap (λ t. t ∷ words_before words) (sym (take-append-drop n word) ∙ ap (λ t. take n word ++ t) behind);
    }

spelled-from : (words : List (List ℕ)) → SpellItems (items_of words) (from_item words)
spelled-from [] = refl
spelled-from (word ∷ words) = cases (spelled-from words) (begins_item word) refl where
  item : ItemView
  item = record { name = take (before_stroke word) word; words = own_words word ++ words_before words }

  cases : SpellItems (items_of words) (from_item words) → (b : Bool) → begins_item word ≡ b → SpellItems (cond b (item ∷ items_of words) (items_of words)) (cond b (word ∷ words) (from_item words))
  cases again false e = again
  cases again true e =
      (word ∷ words_before words, from_item words, item-spelled word words e, again, ap (λ ws. word ∷ ws) (parts-again words))

begun-from : (words : List (List ℕ)) → BeginWithItem words → from_item words ≡ words
begun-from [] b = refl
begun-from (word ∷ words) b = cond-true (begins_item word) (word ∷ words) (from_item words) b

pub items-found : (words : List (List ℕ)) → BeginWithItem words → SpellItems (items_of words) words
items-found words b = subst (SpellItems (items_of words)) (begun-from words b) (spelled-from words)

-- ---- the only items

no_stroke : (b : ℕ) → is_letter_or_digit b ≡ true → eqb b 47 ≡ false
no_stroke b h = ne_eqb b 47 (λ q. false≢true (sym stroke-other ∙ ap is_letter_or_digit (sym q) ∙ h))

stroke-first : (name own : List ℕ) → list_all is_letter_or_digit name ≡ true → before_stroke (name ++ (47 ∷ own)) ≡ length name
stroke-first [] own h = refl
stroke-first (b ∷ name) own h =
    let parts = and_parts (is_letter_or_digit b) (list_all is_letter_or_digit name) h in
    let rest = stroke-first name own parts.1 in
    cond-true (not (eqb b 47)) (1 + before_stroke (name ++ (47 ∷ own))) 0 (not_from_false (eqb b 47) (no_stroke b parts.0)) ∙ omega (arith, rest)

front-byte : (name own : List ℕ) → 1 ≤ length name → get_or (name ++ (47 ∷ own)) 0 0 ≡ get_or name 0 0
front-byte [] own l = absurd (omega arith)
front-byte (b ∷ name) own l = refl

spelled-begins : (item : ItemView) (words : List (List ℕ)) (s : SpellsItem item words) → begins_item (item.name ++ (47 ∷ s.own)) ≡ true
spelled-begins item words s =
    let word = item.name ++ (47 ∷ s.own) in
    let stroke = stroke-first item.name s.own s.name in
    let name : take (before_stroke word) word ≡ item.name = ap (λ n. take n word) stroke ∙ take-append_seam item.name (47 ∷ s.own) in
    begins-from word
    (record {
      short = omega (arith, stroke, length-append item.name (47 ∷ s.own));
      some = omega (arith, stroke, s.some);
      most = omega (arith, stroke, s.most);
      letter = ap is_letter (front-byte item.name s.own (omega (arith, s.some))) ∙ s.letter;
      name = ap (list_all is_letter_or_digit) name ∙ s.name;
    })

begin-spelled : (items : List ItemView) (words : List (List ℕ)) → SpellItems items words → BeginWithItem words
begin-spelled [] words s = subst BeginWithItem (sym s) tt
begin-spelled (item ∷ items) words s =
    subst BeginWithItem (sym (s.4 ∙ ap (λ ws. ws ++ s.1) (s.2).spelled)) (spelled-begins item s.0 s.2)

before-begun : (others rest : List (List ℕ)) → list_all (λ w. not (begins_item w)) others ≡ true → BeginWithItem rest → words_before (others ++ rest) ≡ others
before-begun [] [] h b = refl
before-begun [] (word ∷ rest) h b = cond-true (begins_item word) [] (word ∷ words_before rest) b
before-begun (word ∷ others) rest h b =
    let parts = and_parts (not (begins_item word)) (list_all (λ w. not (begins_item w)) others) h in
    cond-false (begins_item word) [] (word ∷ words_before (others ++ rest)) (false-from_not (begins_item word) parts.0) ∙ ap (λ ws. word ∷ ws) (before-begun others rest parts.1 b) where
      false-from_not : (b : Bool) → not b ≡ true → b ≡ false
      false-from_not false e = refl
      false-from_not true e = absurd (false≢true e)

items-begun : (others rest : List (List ℕ)) → list_all (λ w. not (begins_item w)) others ≡ true → items_of (others ++ rest) ≡ items_of rest
items-begun [] rest h = refl
items-begun (word ∷ others) rest h =
    let parts = and_parts (not (begins_item word)) (list_all (λ w. not (begins_item w)) others) h in
    cond-false (begins_item word) _ (items_of (others ++ rest)) (false-from_not (begins_item word) parts.0) ∙ items-begun others rest parts.1 where
      false-from_not : (b : Bool) → not b ≡ true → b ≡ false
      false-from_not false e = refl
      false-from_not true e = absurd (false≢true e)

own-again : (name own : List ℕ) → list_all is_letter_or_digit name ≡ true → own_words (name ++ (47 ∷ own)) ≡ word_if_any own
own-again name own h =
    let word = name ++ (47 ∷ own) in
    let stroke = stroke-first name own h in
    let behind : drop (length name + 1) word ≡ own = drop-append-add name (47 ∷ own) 1 in
    ap (λ n. cond (eqb (length word) (n + 1)) [] (drop (n + 1) word ∷ [])) stroke
    ∙ own-is word (length name) (omega (arith, length-append name (47 ∷ own)))
    ∙ ap word_if_any behind

pub items-only : (items : List ItemView) (words : List (List ℕ)) → SpellItems items words → items_of words ≡ items
items-only [] words s = ap items_of s
items-only (item ∷ items) words s =
    let one = s.2 in
    let word = item.name ++ (47 ∷ one.own) in
    let rest = s.1 in
    let stroke = stroke-first item.name one.own one.name in
    let name : take (before_stroke word) word ≡ item.name = ap (λ n. take n word) stroke ∙ take-append_seam item.name (47 ∷ one.own) in
    let begun = begin-spelled items rest s.3 in
    let whole : words ≡ word ∷ (one.others ++ rest) = s.4 ∙ ap (λ ws. ws ++ rest) one.spelled in
    let listed : own_words word ++ words_before (one.others ++ rest) ≡ item.words =
    ap (λ ws. ws ++ words_before (one.others ++ rest)) (own-again item.name one.own one.name)
    ∙ ap (λ ws. word_if_any one.own ++ ws) (before-begun one.others rest one.none_begins begun) ∙ sym one.words_are in
    let made : ItemView = record { name = take (before_stroke word) word; words = own_words word ++ words_before (one.others ++ rest) } in
    let same : made ≡ item =
    ap (λ n. let i : ItemView = record { name = n; words = own_words word ++ words_before (one.others ++ rest) } in i) name
    ∙ ap (λ ws. let i : ItemView = record { name = item.name; words = ws } in i) listed in
    ap items_of whole
    ∙ cond-true (begins_item word) (made ∷ items_of (one.others ++ rest)) (items_of (one.others ++ rest)) (spelled-begins item s.0 one)
    ∙ ap (λ i. i ∷ items_of (one.others ++ rest)) same
    ∙ ap (λ is. item ∷ is) (items-begun one.others rest one.none_begins ∙ items-only items rest s.3)

-- the field 0 has no items
zero-text : (field : List ℕ) → is_text (codes "0") field ≡ true → field ≡ codes "0"
zero-text [] h = absurd (cc)
zero-text (b ∷ []) h = ap (λ c. c ∷ []) (eqb-true b 48 (and_parts (eqb b 48) true h).0)
zero-text (b ∷ c ∷ field) h = absurd (false≢true (and_parts (eqb b 48) false h).1)

zero-items : items_of (words_of (codes "0")) ≡ []
unfolding words_of begins_item
zero-items = refl

-- a field that is read
pub items-of_field : (field : List ℕ) (items : List ItemView) → items_or_fault field ≡ Ok items → ((field ≡ codes "0") × (items ≡ [])) ⊎ SpellItems items (words_of field)
unfolding field_fault
items-of_field field items h = zero (is_text (codes "0") field) refl h where
  is : (o : Option ItemFault) → unless_fault o (items_of (words_of field)) ≡ Ok items → items_of (words_of field) ≡ items
  is None e = cc
  is (Some fault) e = absurd (cc)

  first : (ws : List (List ℕ)) → begins_item (slice_index_or ws 0 []) ≡ true → BeginWithItem ws
  first [] b = tt
  first (w ∷ ws) b = b

  begun : (b : Bool) → begins_item (slice_index_or (words_of field) 0 []) ≡ b → unless_fault (cond b (first_fault false (items_of (words_of field))) (Some (BadField 18))) (items_of (words_of field)) ≡ Ok items → SpellItems items (words_of field)
  begun true e f =
      let same = is (first_fault false (items_of (words_of field))) f in
      subst (λ v. SpellItems v (words_of field)) same (items-found (words_of field) (first (words_of field) e))
  begun false e f = absurd (let same = is (Some (BadField 18)) f in cc)

  zero : (b : Bool) → is_text (codes "0") field ≡ b → unless_fault (cond b None (cond (begins_item (slice_index_or (words_of field) 0 [])) (first_fault false (items_of (words_of field))) (Some (BadField 18)))) (items_of (words_of field)) ≡ Ok items → ((field ≡ codes "0") × (items ≡ [])) ⊎ SpellItems items (words_of field)
  zero true e f = inl (zero-text field e, sym (is None f) ∙ ap (λ t. items_of (words_of t)) (zero-text field e) ∙ zero-items)
  zero false e f = inr (begun (begins_item (slice_index_or (words_of field) 0 [])) refl f)
