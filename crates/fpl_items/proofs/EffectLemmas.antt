-- The items that have an effect, by the words that begin them.
use Rattle.std.proofs.Common.{◌≡◌, ℕ, suc, ◌+◌, ◌-◌, ◌<◌, ◌≤◌, ◌⊎◌, inl, inr, Bool, true, false, ◌&&◌, ◌||◌, not, eqb, ltb, if◌then◌else◌, List, [], ◌∷◌, ◌++◌, length, take, drop, get_or, refl, sym, ap, subst, ◌∙◌, arith, ⊎_elim, Option, None, Some, MatchOption, IfSome}
use Rattle.std.specs.Prelude.{codes, slice_index_or, is_some}
use Rattle.std.specs.Borrow.{Bor}
use Rattle.std.specs.Cmp.{both_ways}
use Rattle.std.specs.Option.{option_or}
use Rattle.std.specs.List.{list_all, prefix_len, slice_split, onto_first}
use Rattle.std.proofs.lemmas.Bool.{cases_Bool, cases_lt, cond-true, cond-false, eq-eqb, eqb-true, and_parts, or_parts, false_from_ne_true, false≢true, le-ltb, lt-ltb, ltb-true, leb-true, not-false}
use Rattle.std.proofs.lemmas.List.{length-take, length-drop, get_or-take}
use Rattle.std.proofs.lemmas.List.Sums.{prefix_len_is, prefix_len_passes, prefix_len_stops, prefix_len-le-length, passes_at_first}
use Rattle.std.proofs.lemmas.List.Splits.{slice_split-cons_yes, slice_split-cons_no, length-slice_split}
use lib.Pointwise.{bytes_decides}
use Rattle.fpl_text.specs.Bytes.{is_letter, is_digit, is_letter_or_digit}
use Rattle.fpl_text.specs.Words.{words_of, is_named, is_one_of, words_from_named, without_first}
use Rattle.fpl_text.specs.declared.words.Measured.{Measured}
use Rattle.fpl_items.specs.Kinds.{is_text, before_stroke}
use Rattle.fpl_items.specs.Items.{ItemView, begins_item, item_at, items_of, items_with, BeginsItem, is_dof, first_fault, item_fault, day_of_items, is_exempt, elapsed_to, estimate_for, has_effect, from_effect, exempts, is_estimate, own_of, own_words, words_after, words_before, eet_of, BeginAtItem, BeginWithOther, SaysAfter}
use Rattle.fpl_items.specs.Estimates.{estimate_count, estimates_in, has_estimates}
use Rattle.fpl_items.specs.Other18.{TellsOf}
use Rattle.fpl_items.specs.declared.other.Effects.{Effects}
use Rattle.fpl_items.specs.declared.fault.ItemFault.{ItemFault}
use Rattle.fpl_items.specs.declared.fault.ItemFault.TheVariants.{BadField}
use Rattle.fpl_items.proofs.OtherLemmas.{SaySoFar, or-none}
use Rattle.fpl_items.proofs.ItemsLemmas.{begins_item-is, name-long}

-- ---- words that begin with a name

abbrev pub with_effect : List ℕ → Bool
with_effect word = is_one_of (codes "DOF") (codes "EET") (codes "STS") word

abbrev pub words_from_effect : List (List ℕ) → List (List ℕ)
words_from_effect words = words_from_named (codes "DOF") (codes "EET") (codes "STS") words

named-is : (a b c : ℕ) (word : List ℕ) → is_named (a ∷ b ∷ c ∷ []) word ≡ true → word ≡ a ∷ b ∷ c ∷ 47 ∷ drop 4 word
named-is a b c [] is = absurd (false≢true (and_parts _ _ is).1)
named-is a b c (x ∷ []) is = absurd (false≢true (and_parts _ _ is).1)
named-is a b c (x ∷ y ∷ []) is = absurd (false≢true (and_parts _ _ is).1)
named-is a b c (x ∷ y ∷ z ∷ []) is = absurd (false≢true (and_parts _ _ is).1)
named-is a b c (x ∷ y ∷ z ∷ s ∷ word) is =
    let all = and_parts _ _ is in
    let three = and_parts _ _ all.0 in
    let two = and_parts _ _ three.0 in
    rw (eqb-true x a two.0, eqb-true y b two.1, eqb-true z c three.1, eqb-true s 47 all.1) refl

-- a name is of three letters
abbrev AreLetters : ℕ → ℕ → ℕ → Type 0
AreLetters a b c = (is_letter a ≡ true) × (is_letter b ≡ true) × (is_letter c ≡ true)

stroke-no-letter : is_letter 47 ≡ false
unfolding is_letter
stroke-no-letter = refl

letter-no-stroke : (b : ℕ) → is_letter b ≡ true → eqb b 47 ≡ false
letter-no-stroke b is = false_from_ne_true _ (λ same. false≢true (sym stroke-no-letter ∙ ap is_letter (sym (eqb-true b 47 same)) ∙ is))

-- what a word with a name begins with
pub record BeginsWithName (word : List ℕ) : Type 0 where
  pub begins : begins_item word ≡ true
  pub stroke : before_stroke word ≡ 3

name-begins : (a b c : ℕ) (rest : List ℕ) → AreLetters a b c → BeginsWithName (a ∷ b ∷ c ∷ 47 ∷ rest)
unfolding begins_item
name-begins a b c rest are =
    let word : List ℕ = a ∷ b ∷ c ∷ 47 ∷ rest in
    let stroke : before_stroke word ≡ 3 = rw (letter-no-stroke a are.0, letter-no-stroke b are.1, letter-no-stroke c are.2) refl in
    record {
      begins = rw (stroke, lt-ltb 3 (length word) (omega arith), are.0, are.1, are.2) refl;
      stroke = stroke;
    }

named-begins : (a b c : ℕ) (word : List ℕ) → AreLetters a b c → is_named (a ∷ b ∷ c ∷ []) word ≡ true → BeginsWithName word
named-begins a b c word are is =
    let same = named-is a b c word is in
    subst BeginsWithName (sym same) (name-begins a b c (drop 4 word) are)

-- the name of an item by its first word
named-text : (a b c : ℕ) (word : List ℕ) → AreLetters a b c → before_stroke word < length word
    → is_text (a ∷ b ∷ c ∷ []) (take (before_stroke word) word) ≡ is_named (a ∷ b ∷ c ∷ []) word
named-text a b c word are inside =
    both_ways _ _
    (λ is.
    let n = before_stroke word in
    let same : take n word ≡ a ∷ b ∷ c ∷ [] = (bytes_decides (take n word) (a ∷ b ∷ c ∷ [])).0 is in
    let long : length (take n word) ≡ 3 = ap length same in
    let three : n ≡ 3 = omega (arith, long, inside, length-take n word) in
    let byte : (k : ℕ) → k < 3 → get_or word k 0 ≡ get_or (a ∷ b ∷ c ∷ []) k 0 = (λ k l. sym (get_or-take n word k 0 (omega (arith, l, three))) ∙ ap (λ xs. get_or xs k 0) same) in
    let stroke : eqb (get_or word 3 0) 47 ≡ true = ap (λ k. eqb (get_or word k 0) 47) (sym three) ∙ passes_at_first (λ b. eqb b 47) word 0 inside in
    rw (eq-eqb _ _ (byte 0 (omega arith)), eq-eqb _ _ (byte 1 (omega arith)), eq-eqb _ _ (byte 2 (omega arith)), stroke) refl)
    (λ is.
    let same = named-is a b c word is in
    let three = (named-begins a b c word are is).stroke in
    (bytes_decides (take (before_stroke word) word) (a ∷ b ∷ c ∷ [])).1 (ap (λ k. take k word) three ∙ ap (take 3) same))

dof-letters : AreLetters 68 79 70
unfolding is_letter
dof-letters = (refl, refl, refl)

eet-letters : AreLetters 69 69 84
unfolding is_letter
eet-letters = (refl, refl, refl)

sts-letters : AreLetters 83 84 83
unfolding is_letter
sts-letters = (refl, refl, refl)

or-cases : (p q : Bool) → (p || q) ≡ true → (p ≡ true) ⊎ (q ≡ true)
or-cases true q h = inl refl
or-cases false q h = inr h

effect-begins : (word : List ℕ) → with_effect word ≡ true → BeginsWithName word
effect-begins word is =
    ⊎_elim
    (λ two. ⊎_elim (λ dof. named-begins 68 79 70 word dof-letters dof) (λ eet. named-begins 69 69 84 word eet-letters eet)
    (or-cases (is_named (codes "DOF") word) (is_named (codes "EET") word) two))
    (λ sts. named-begins 83 84 83 word sts-letters sts)
    (or-cases (is_named (codes "DOF") word || is_named (codes "EET") word) (is_named (codes "STS") word) is)

stroke-inside : (word : List ℕ) → begins_item word ≡ true → before_stroke word < length word
unfolding begins_item
stroke-inside word begins = ltb-true _ _ (and_parts _ _ (and_parts _ _ (and_parts _ _ (and_parts _ _ begins).0).0).0).0

effect-item : (word : List ℕ) (words : List (List ℕ)) → begins_item word ≡ true → has_effect (item_at word words) ≡ with_effect word
effect-item word words begins =
    let inside = stroke-inside word begins in
    rw (named-text 68 79 70 word dof-letters inside, named-text 69 69 84 word eet-letters inside, named-text 83 84 83 word sts-letters inside) refl

pub items-effect : (words : List (List ℕ)) → from_effect (items_of words) ≡ items_of (words_from_effect words)
items-effect [] = refl
items-effect (word ∷ words) =
    ⊎_elim
    (λ begins.
    ap from_effect (cond-true _ _ _ begins)
    ∙ ⊎_elim
    (λ is. cond-true _ _ _ (effect-item word words begins ∙ is) ∙ sym (cond-true _ _ _ begins) ∙ sym (ap items_of (cond-true _ _ _ is)))
    (λ no. cond-false _ _ _ (effect-item word words begins ∙ no) ∙ items-effect words ∙ sym (ap items_of (cond-false _ _ _ no)))
    (cases_Bool (with_effect word)))
    (λ other.
    let no : with_effect word ≡ false = false_from_ne_true _ (λ is. false≢true (sym other ∙ (effect-begins word is).begins)) in
    ap from_effect (cond-false _ _ _ other) ∙ items-effect words ∙ sym (ap items_of (cond-false _ _ _ no)))
    (cases_Bool (begins_item word))

head-effect : (words : List (List ℕ)) (word : List ℕ) (rest : List (List ℕ)) → words_from_effect words ≡ word ∷ rest → with_effect word ≡ true
head-effect [] word rest same = absurd cc
head-effect (first ∷ words) word rest same =
    ⊎_elim
    (λ is. let heads = sym (cond-true _ _ _ is) ∙ same in ap (λ ws. with_effect (get_or ws 0 [])) (sym heads) ∙ is)
    (λ no. head-effect words word rest (sym (cond-false _ _ _ no) ∙ same))
    (cases_Bool (with_effect first))

or-false : (b : Bool) → b || false ≡ b
or-false true = refl
or-false false = refl

-- after all before it is skipped, the next word begins an item
pub begin-at : (old new : List (List ℕ)) → new ≡ words_from_effect old → BeginAtItem new
begin-at old new same = subst BeginAtItem (sym same) (by (words_from_effect old) (λ word rest is. (effect-begins word (head-effect old word rest is)).begins)) where
  by : (words : List (List ℕ)) → ((word : List ℕ) (rest : List (List ℕ)) → words ≡ word ∷ rest → begins_item word ≡ true) → BeginAtItem words
  by [] begins = tt
  by (word ∷ rest) begins = begins word rest refl

-- a first word that begins an item, measured
pub first-found : (old new : List (List ℕ)) (found : Option Measured) → BeginAtItem old → MatchOption found ((old ≡ []) × (new ≡ [])) (λ m. old ≡ m.word.now ∷ new)
    → items_of old ≡ items_with found new
first-found old new None begin next = ap items_of next.0
first-found old new (Some m) begin next = ap items_of next ∙ cond-true _ _ _ (subst BeginAtItem next begin)

begins-measure : (word : List ℕ) → begins_item word ≡ true → prefix_len is_letter_or_digit word ≡ before_stroke word
unfolding begins_item
begins-measure word begins = name-long word (stroke-inside word begins) (and_parts _ _ begins).1

pub first-measured : (old new : List (List ℕ)) (found : Option Measured) → BeginAtItem old → MatchOption found ((old ≡ []) × (new ≡ [])) (λ m. old ≡ m.word.now ∷ new)
    → IfSome found (λ m. m.letters_or_digits ≡ prefix_len is_letter_or_digit m.word.now) → IfSome found BeginsItem
first-measured old new None begin next measured = measured
first-measured old new (Some m) begin next measured =
    let begins : begins_item m.word.now ≡ true = subst BeginAtItem next begin in
    record { begins = begins; stroke = measured ∙ begins-measure m.word.now begins }

-- an EET item by its words
own-same : (word : List ℕ) → before_stroke word ≡ 3 → 4 ≤ length word → (if eqb (length word) (before_stroke word + 1) then [] else drop (before_stroke word + 1) word ∷ []) ≡ own_of (drop 4 word ∷ [])
own-same word three long =
    let four : before_stroke word + 1 ≡ 4 = omega arith in
    let left : length (drop 4 word) ≡ length word - 4 = length-drop 4 word in
    rw (four, same_test (cases_lt 4 (length word))) refl
  where
    same_test : (4 < length word) ⊎ (length word ≤ 4) → eqb (length word) 4 ≡ eqb (length (drop 4 word)) 0
    same_test (inl more) = false_from_ne_true _ (λ is. let e = eqb-true (length word) 4 is in absurd (omega arith)) ∙ sym (false_from_ne_true _ (λ is. let e = eqb-true (length (drop 4 word)) 0 is in absurd (omega (arith, e, length-drop 4 word))))
    same_test (inr end) = eq-eqb (length word) 4 (omega arith) ∙ sym (eq-eqb (length (drop 4 word)) 0 (omega (arith, length-drop 4 word)))

pub eet-first : (words : List (List ℕ)) → is_named (codes "EET") (get_or words 0 []) ≡ true
    → items_of words ≡ eet_of (without_first 4 words) ∷ items_of (drop 1 (without_first 4 words))
eet-first [] is = let same = ap length (named-is 69 69 84 [] is) in absurd (omega (arith, same))
eet-first (word ∷ words) is =
    let named = named-begins 69 69 84 word eet-letters is in
    let inside = stroke-inside word named.begins in
    let name : take (before_stroke word) word ≡ codes "EET" = (bytes_decides (take (before_stroke word) word) (codes "EET")).0 (named-text 69 69 84 word eet-letters inside ∙ is) in
    let own = own-same word named.stroke (omega (arith, inside, named.stroke)) in
    cond-true _ _ _ named.begins
    ∙ ap (λ n. record { name = n; words = own_words word ++ words_before words } ∷ items_of words) name
    ∙ ap (λ own. record { name = codes "EET"; words = own ++ words_before words } ∷ items_of words) own

-- the first item is no other EET
pub other-first : (words : List (List ℕ)) → BeginAtItem words → is_named (codes "EET") (get_or words 0 []) ≡ false → BeginWithOther (items_of words)
other-first [] begin is = tt
other-first (word ∷ words) begin is =
    subst BeginWithOther (sym (cond-true _ _ _ begin)) (named-text 69 69 84 word eet-letters (stroke-inside word begin) ∙ is)

pub other-item : (items rest : List ItemView) (item : ItemView) → BeginWithOther items → items ≡ item ∷ rest → is_text (codes "EET") item.name ≡ false
other-item items rest item begin same = subst BeginWithOther same begin

-- what an EET item says
pub eet-says : (day : Option ℕ) (exempt : Bool) (words : List (List ℕ)) → list_all is_estimate (words_after words) ≡ true → SaysAfter day exempt (eet_of words) day exempt
unfolding item_fault
eet-says day exempt words all = record {
  faultless = rw all refl;
  dof = sym (or-false (is_some day));
  day_then = λ items. refl;
  exempt_then = sym (or-false exempt);
}

pub eet-fault : (dof : Bool) (words : List (List ℕ)) → list_all is_estimate (words_after words) ≡ false → item_fault dof (eet_of words) ≡ Some (BadField 18)
unfolding item_fault
eet-fault dof words none = rw none refl

-- ---- items without an effect

-- no name of an effect
record NoEffect (item : ItemView) : Type 0 where
  dof : is_dof item ≡ false
  eet : is_text (codes "EET") item.name ≡ false
  sts : is_text (codes "STS") item.name ≡ false

no-effect : (item : ItemView) → has_effect item ≡ false → NoEffect item
no-effect item none =
    let all = or_parts _ _ none in
    let two = or_parts _ _ all.0 in
    record { dof = two.0; eet = two.1; sts = all.1 }

no-fault : (dof : Bool) (item : ItemView) → NoEffect item → item_fault dof item ≡ None
unfolding item_fault
no-fault dof item none = rw (none.dof, none.eet) refl

-- others, no more of them, say the same, with the same fault
pub record SayNoMore (items others : List ItemView) : Type 0 where
  pub fault : (dof : Bool) → first_fault dof items ≡ first_fault dof others
  pub day : day_of_items items ≡ day_of_items others
  pub exempt : is_exempt items ≡ is_exempt others
  pub count : estimate_count items ≡ estimate_count others
  pub fewer : length others ≤ length items

pub say-no-more : (items : List ItemView) → SayNoMore items (from_effect items)
say-no-more [] = record { fault = λ dof. refl; day = refl; exempt = refl; count = refl; fewer = omega arith }
say-no-more (item ∷ items) =
    ⊎_elim
    (λ some. subst (SayNoMore (item ∷ items)) (sym (cond-true _ _ _ some)) (record { fault = λ dof. refl; day = refl; exempt = refl; count = refl; fewer = omega arith }))
    (λ none.
    let no = no-effect item none in
    let rest = say-no-more items in
    subst (SayNoMore (item ∷ items)) (sym (cond-false _ _ _ none)) (record {
      fault = λ dof. rw (no-fault dof item no, no.dof, or-false dof) (rest.fault dof);
      day = rw no.dof rest.day;
      exempt = rw no.sts rest.exempt;
      count = rw no.eet (omega (arith, rest.count));
      fewer = omega (arith, rest.fewer);
    }))
    (cases_Bool (has_effect item))

-- what is said with one more item
pub next-said : (day new_day : Option ℕ) (exempt new_exempt : Bool) (item : ItemView) (rest left all : List ItemView) → SaySoFar day exempt left all → from_effect left ≡ item ∷ rest
    → SaysAfter day exempt item new_day new_exempt → SaySoFar new_day new_exempt rest all
next-said day new_day exempt new_exempt item rest left all so_far same says =
    let more = say-no-more left in
    record {
      fault_left =
          ap (λ b. first_fault b rest) says.dof
          ∙ sym (ap (λ f. option_or f (first_fault (is_some day || is_dof item) rest)) says.faultless)
          ∙ sym (more.fault (is_some day) ∙ ap (first_fault (is_some day)) same) ∙ so_far.fault_left;
      day_left = says.day_then rest ∙ sym (ap (option_or day) (more.day ∙ ap day_of_items same)) ∙ so_far.day_left;
      exempt_left =
          ap (λ b. b || is_exempt rest) says.exempt_then ∙ or-or exempt (exempts item) (is_exempt rest)
          ∙ sym (ap (λ b. exempt || b) (more.exempt ∙ ap is_exempt same)) ∙ so_far.exempt_left;
    }
  where
    or-or : (a b c : Bool) → ((a || b) || c) ≡ (a || (b || c))
    or-or true b c = refl
    or-or false b c = refl

-- what an EET item leaves to be said
pub said-eet : (effects : Effects) (words : List (List ℕ)) (later left all : List ItemView) → SaySoFar effects.day effects.exempt left all
    → from_effect left ≡ eet_of words ∷ items_of (drop 1 words) → list_all is_estimate (words_after words) ≡ true
    → items_of (drop 1 words) ≡ later → SaySoFar effects.day effects.exempt later all
said-eet effects words later left all so_far same estimates rest =
    subst (λ items. SaySoFar effects.day effects.exempt items all) rest
    (next-said effects.day effects.day effects.exempt effects.exempt (eet_of words) (items_of (drop 1 words)) left all so_far same (eet-says effects.day effects.exempt words estimates))

-- an item with a fault
pub fault-found : (effects : Effects) (fault : ItemFault) (item : ItemView) (rest left all : List ItemView) → SaySoFar effects.day effects.exempt left all → from_effect left ≡ item ∷ rest
    → item_fault (is_some effects.day) item ≡ Some fault → first_fault false all ≡ Some fault
fault-found effects fault item rest left all so_far same is =
    sym so_far.fault_left ∙ (say-no-more left).fault (is_some effects.day) ∙ ap (first_fault (is_some effects.day)) same
    ∙ ap (λ f. option_or f (first_fault (is_some effects.day || is_dof item) rest)) is

-- no item with an effect is left
pub all-faultless : (effects : Effects) (left all : List ItemView) → SaySoFar effects.day effects.exempt left all → from_effect left ≡ [] → first_fault false all ≡ None
all-faultless effects left all so_far same =
    sym so_far.fault_left ∙ (say-no-more left).fault (is_some effects.day) ∙ ap (first_fault (is_some effects.day)) same

pub all-told : (effects : Effects) (left all : List ItemView) → SaySoFar effects.day effects.exempt left all → from_effect left ≡ []
    → effects.estimates + estimate_count left ≡ estimate_count all → TellsOf all effects
all-told effects left all so_far same counted =
    let none = say-no-more left in
    record {
      says = record {
        day_is = sym (or-none effects.day) ∙ sym (ap (option_or effects.day) (none.day ∙ ap day_of_items same)) ∙ so_far.day_left;
        exempt_is = sym (or-false effects.exempt) ∙ sym (ap (λ b. effects.exempt || b) (none.exempt ∙ ap is_exempt same)) ∙ so_far.exempt_left;
      };
      count = omega (arith, counted, none.count, ap estimate_count same);
    }

-- the text after a stroke that is an estimate
pub own-is : (old new : List (List ℕ)) (word : List ℕ) → old ≡ word ∷ new → is_estimate word ≡ true → own_of old ≡ word ∷ []
unfolding is_estimate
own-is old new word next is =
    let long : 5 ≤ length word = leb-true 5 (length word) (and_parts _ _ (and_parts _ _ (and_parts _ _ is).0).0).0 in
    let more : eqb (length word) 0 ≡ false = false_from_ne_true _ (λ none. let e = eqb-true (length word) 0 none in absurd (omega arith)) in
    ap own_of next ∙ cond-false _ _ _ more

pub own-one : (old new : List (List ℕ)) (found : Option (Bor (List ℕ))) → MatchOption found (new ≡ old) (λ word. old ≡ word.now ∷ new) → IfSome found (λ word. is_estimate word.now ≡ true)
    → is_some found ≡ true → 1 ≡ length (own_of old)
own-one old new None next is some = absurd (false≢true some)
own-one old new (Some word) next is some = sym (ap length (own-is old new word.now next is))

pub elapsed-later : (place : List ℕ) (items : List ItemView) → elapsed_to place items ≡ elapsed_to place (from_effect items)
elapsed-later place [] = refl
elapsed-later place (item ∷ items) =
    ⊎_elim
    (λ some. ap (elapsed_to place) (sym (cond-true _ _ _ some)))
    (λ none.
    let here : elapsed_to place (item ∷ items) ≡ elapsed_to place (from_effect items) = rw (no-effect item none).eet (elapsed-later place items) in
    here ∙ ap (elapsed_to place) (sym (cond-false _ _ _ none)))
    (cases_Bool (has_effect item))

pub estimates-later : (items : List ItemView) → list_all has_estimates items ≡ list_all has_estimates (from_effect items)
estimates-later [] = refl
estimates-later (item ∷ items) =
    ⊎_elim
    (λ some. ap (list_all has_estimates) (sym (cond-true _ _ _ some)))
    (λ none.
    let here : list_all has_estimates (item ∷ items) ≡ list_all has_estimates (from_effect items) = rw (no-effect item none).eet (estimates-later items) in
    here ∙ ap (list_all has_estimates) (sym (cond-false _ _ _ none)))
    (cases_Bool (has_effect item))

-- the next item that has an effect, and the items after it, of those that are left
pub record NextItem (item : ItemView) (rest left : List ItemView) : Type 0 where
  pub elapsed : (place : List ℕ) → elapsed_to place left ≡ elapsed_to place (item ∷ rest)
  pub are : list_all has_estimates left ≡ (has_estimates item && list_all has_estimates rest)
  pub count : estimate_count left ≡ estimates_in item + estimate_count rest
  pub fewer : length rest < length left

pub next-item : (item : ItemView) (rest left : List ItemView) → from_effect left ≡ item ∷ rest → NextItem item rest left
next-item item rest left same =
    let say = say-no-more left in
    record {
      elapsed = λ place. elapsed-later place left ∙ ap (elapsed_to place) same;
      are = estimates-later left ∙ ap (list_all has_estimates) same;
      count = say.count ∙ ap estimate_count same;
      fewer = omega (arith, say.fewer, ap length same);
    }

-- an item without estimates passed over
pub passed-item : (item : ItemView) (rest left : List ItemView) (place : List ℕ) → NextItem item rest left → is_text (codes "EET") item.name ≡ false
    → elapsed_to place left ≡ elapsed_to place rest
passed-item item rest left place next other = next.elapsed place ∙ rw other refl

or-assoc : (a b c : Option ℕ) → option_or (option_or a b) c ≡ option_or a (option_or b c)
or-assoc None b c = refl
or-assoc (Some x) b c = refl

-- the estimates of an item added
pub noted-item : (item : ItemView) (rest left : List ItemView) (place : List ℕ) (before after : Option ℕ) → NextItem item rest left → is_text (codes "EET") item.name ≡ true
    → after ≡ option_or before (estimate_for place item.words) → option_or after (elapsed_to place rest) ≡ option_or before (elapsed_to place left)
noted-item item rest left place before after next named more =
    ap (λ a. option_or a (elapsed_to place rest)) more
    ∙ or-assoc before (estimate_for place item.words) (elapsed_to place rest)
    ∙ ap (option_or before) (sym (next.elapsed place ∙ rw named refl))

pub all-of : (item : ItemView) (rest left : List ItemView) → NextItem item rest left → list_all has_estimates left ≡ true
    → (has_estimates item ≡ true) × (list_all has_estimates rest ≡ true)
all-of item rest left next all = and_parts _ _ (sym next.are ∙ all)

-- what is said before all items
pub say-nothing : (effects : Effects) (all left : List ItemView) → TellsOf [] effects → from_effect all ≡ left → SaySoFar effects.day effects.exempt left all
say-nothing effects all left tells same =
    let say = say-no-more all in
    record {
      fault_left = ap (λ d. first_fault (is_some d) left) tells.says.day_is ∙ ap (first_fault false) (sym same) ∙ sym (say.fault false);
      day_left = ap (λ d. option_or d (day_of_items left)) tells.says.day_is ∙ ap day_of_items (sym same) ∙ sym say.day;
      exempt_left = ap (λ e. e || is_exempt left) tells.says.exempt_is ∙ ap is_exempt (sym same) ∙ sym say.exempt;
    }

-- ---- the first word of a field

no-space : is_letter_or_digit 32 ≡ false
unfolding is_letter is_digit
no-space = refl

-- whether a text begins with an item is seen in its first word
begins-front : (text : List ℕ) (e : ℕ) → e ≤ length text → (e < length text → eqb (get_or text e 0) 32 ≡ true) → begins_item text ≡ begins_item (take e text)
begins-front text e within space =
    let n = prefix_len is_letter_or_digit text in
    let word = take e text in
    let long : length word ≡ e = omega (arith, length-take e text, within) in
    let low : n ≤ e =
    ⊎_elim
    (λ l. absurd (false≢true (sym no-space ∙ ap is_letter_or_digit (sym (eqb-true _ 32 (space (omega (arith, l, prefix_len-le-length is_letter_or_digit text))))) ∙ prefix_len_passes is_letter_or_digit text e 0 l)))
    (λ l. l)
    (cases_lt e n) in
    let same : n ≡ prefix_len is_letter_or_digit word = sym (prefix_len_is is_letter_or_digit word n 0 (omega (arith, low, long))
    (λ k l. ap is_letter_or_digit (get_or-take e text k 0 (omega (arith, l, low))) ∙ prefix_len_passes is_letter_or_digit text k 0 l)
    (λ l. ap is_letter_or_digit (get_or-take e text n 0 (omega (arith, l, long))) ∙ prefix_len_stops is_letter_or_digit text 0 (omega (arith, l, long, within)))) in
    sym (begins_item-is text n refl)
    ∙ ⊎_elim
    (λ l. rw (lt-ltb n (length text) (omega (arith, l, within)), lt-ltb n (length word) (omega (arith, l, long)), get_or-take e text n 0 l, get_or-take e text 0 0 (omega (arith, l))) refl)
    (λ l.
    let end : ltb n (length word) ≡ false = le-ltb n (length word) (omega (arith, l, long)) in
    let none : ltb n (length text) && eqb (get_or text n 0) 47 ≡ false = false_from_ne_true _ (λ is.
    let parts = and_parts _ _ is in
    let inside = ltb-true n (length text) parts.0 in
    let here : n ≡ e = omega (arith, l, low) in
    let is_space = eqb-true _ 32 (space (omega (arith, inside, here))) in
    let is_stroke = eqb-true _ 47 parts.1 in
    absurd (omega (arith, ap (λ k. get_or text k 0) here, is_space, is_stroke))) in
    rw (none, end) refl)
    (cases_lt n e)
    ∙ begins_item-is word n same

head-onto : (b : ℕ) (words : List (List ℕ)) → 0 < length words → get_or (onto_first b words) 0 [] ≡ b ∷ get_or words 0 []
head-onto b [] some = absurd (omega arith)
head-onto b (word ∷ words) some = refl

head-word : (text : List ℕ) → get_or (slice_split (λ b. eqb b 32) text) 0 [] ≡ take (prefix_len (λ b. not (eqb b 32)) text) text
head-word [] = refl
head-word (b ∷ text) =
    ⊎_elim
    (λ yes.
    let none : prefix_len (λ c. not (eqb c 32)) (b ∷ text) ≡ 0 = rw yes refl in
    ap (λ ws. get_or ws 0 []) (slice_split-cons_yes (λ c. eqb c 32) b text yes) ∙ sym (ap (λ n. take n (b ∷ text)) none))
    (λ no.
    let more : prefix_len (λ c. not (eqb c 32)) (b ∷ text) ≡ suc (prefix_len (λ c. not (eqb c 32)) text) = rw no (omega arith) in
    ap (λ ws. get_or ws 0 []) (slice_split-cons_no (λ c. eqb c 32) b text no)
    ∙ head-onto b (slice_split (λ c. eqb c 32) text) (omega (arith, length-slice_split (λ c. eqb c 32) text))
    ∙ ap (λ w. b ∷ w) (head-word text)
    ∙ sym (ap (λ n. take n (b ∷ text)) more))
    (cases_Bool (eqb b 32))

pub field-begins : (field : List ℕ) → begins_item field ≡ begins_item (slice_index_or (words_of field) 0 [])
unfolding words_of
field-begins [] = refl
field-begins (b ∷ field) =
    let text : List ℕ = b ∷ field in
    let e = prefix_len (λ c. not (eqb c 32)) text in
    let some : eqb (length text) 0 ≡ false = false_from_ne_true _ (λ is. let none = eqb-true (length text) 0 is in absurd (omega (arith, none))) in
    begins-front text e (prefix_len-le-length (λ c. not (eqb c 32)) text) (λ l. not-false _ (prefix_len_stops (λ c. not (eqb c 32)) text 0 l))
    ∙ ap begins_item (sym (head-word text))
    ∙ sym (ap (λ ws. begins_item (get_or ws 0 [])) (cond-false _ _ _ some))
