-- What the items of field 18 say, one after the other.
use Rattle.std.proofs.Common.{◌≡◌, ◌≤◌, ◌<◌, ◌+◌, ◌-◌, ℕ, zero, suc, Bool, true, false, ◌&&◌, ◌||◌, if◌then◌else◌, List, [], ◌∷◌, ◌++◌, length, take, drop, take-append-drop, refl, sym, ap, ◌∙◌, arith, not, eqb, ⊎_elim, Option, None, Some}
use Rattle.std.proofs.lemmas.Bool.{cases_Bool, le-leb, lt-leb, leb-true, and_parts, false_from_ne_true, false≢true, eqb-true}
use Rattle.std.proofs.lemmas.List.Folds.{list_all-append}
use Rattle.std.proofs.lemmas.List.{length-append, length-take}
use Rattle.std.proofs.lemmas.List.Splits.{length-slice_split}
use Rattle.std.proofs.lemmas.List.Sums.{count_by-le-length}
use Rattle.std.proofs.Math.Dec.{leb-suc-suc, leb-suc-zero}
use Rattle.std.specs.List.{list_all, prefix_len, slice_split}
use Rattle.std.specs.Prelude.{codes, nat_le, slice_index_or}
use Rattle.fpl_items.specs.declared.fault.ItemFault.{ItemFault}
use Rattle.fpl_items.specs.declared.fault.ItemFault.TheVariants.{BadField}
use Rattle.fpl_text.specs.Bytes.{is_letter, is_digit, is_letter_or_digit}
use Rattle.fpl_text.specs.Times.{elapsed_time, hhmm_below}
use Rattle.fpl_text.specs.Words.{words_of, IsFourLetterEstimate}
use Rattle.fpl_items.proofs.ItemsLemmas.{no-item}
use Rattle.fpl_items.proofs.Notes.{if-both}
use Rattle.fpl_items.specs.Kinds.{is_text, before_stroke}
use lib.Pointwise.{bytes_decides}
use Rattle.std.specs.Prelude.{is_some}
use Rattle.std.specs.Option.{option_or}
use Rattle.fpl_items.specs.Items.{ItemView, begins_item, is_estimate, items_of, words_before, own_words, field_fault, first_fault, item_fault, is_dof, is_exempt, day_of_items, estimate_for, elapsed_to}
use Rattle.fpl_items.specs.Other18.{TellsOf}
use Rattle.fpl_items.specs.declared.other.Effects.{Effects}
use Rattle.fpl_items.specs.Estimates.{has_estimates, estimate_count}

-- what the items before the ones that are left said: the rest of all is what these say
pub record SaySoFar (day : Option ℕ) (exempt : Bool) (left all : List ItemView) : Type 0 where
  pub fault_left : first_fault (is_some day) left ≡ first_fault false all
  pub day_left : option_or day (day_of_items left) ≡ day_of_items all
  pub exempt_left : (exempt || is_exempt left) ≡ is_exempt all

-- a field of 0 alone has no items
nothing-there : items_of (words_of (codes "0")) ≡ []
unfolding words_of begins_item
nothing-there = refl

pub zero-items : (field : List ℕ) → is_text (codes "0") field ≡ true → items_of (words_of field) ≡ []
zero-items field is = rw ((bytes_decides field (codes "0")).0 is) nothing-there

-- the prefix of a text meets a test if as many of its first bytes do
pub front_all : (p : ℕ → Bool) (xs : List ℕ) (n : ℕ) → n ≤ length xs → nat_le n (prefix_len p xs) ≡ list_all p (take n xs)
front_all p xs zero h = le-leb 0 _ (omega arith)
front_all p [] (suc n) h = absurd (omega arith)
front_all p (x ∷ xs) (suc n) h = ⊎_elim
    (λ yes. rw yes (ap (nat_le (suc n)) (one_more (prefix_len p xs)) ∙ leb-suc-suc n (prefix_len p xs) ∙ front_all p xs n (omega arith)))
    (λ no. rw no (leb-suc-zero n))
    (cases_Bool (p x))
  where
    one_more : (m : ℕ) → 1 + m ≡ suc m
    one_more m = omega arith

pub estimate-few : (word : List ℕ) → length word < 5 → is_estimate word ≡ false
unfolding is_estimate
estimate-few word few = rw (lt-leb 5 (length word) few) refl

pub estimate-many : (word : List ℕ) → 15 < length word → is_estimate word ≡ false
unfolding is_estimate
estimate-many word many = rw (le-leb 5 (length word) (omega (arith, many)), lt-leb (length word) 15 many) refl

-- a word of 5 to 15 bytes that begins with this number of letters and digits
pub estimate-measured : (word : List ℕ) (n : ℕ) → n ≡ prefix_len is_letter_or_digit word → 5 ≤ length word → length word ≤ 15
    → is_estimate word ≡ (nat_le (length word - 4) n && is_some (elapsed_time (drop (length word - 4) word)))
unfolding is_estimate
estimate-measured word n same least most =
    rw (le-leb 5 (length word) least, le-leb (length word) 15 most, same, front_all is_letter_or_digit word (length word - 4) (omega arith)) refl

-- the point of an estimate has at most 11 bytes
pub estimate-short : (word : List ℕ) → is_estimate word ≡ true → length (take (length word - 4) word) ≤ 11
unfolding is_estimate
estimate-short word is =
    let most : length word ≤ 15 = leb-true (length word) 15 (and_parts _ _ (and_parts _ _ (and_parts _ _ is).0).0).1 in
    omega (arith, most, length-take (length word - 4) word)

pub zero-tells : (field : List ℕ) (effects : Effects) → is_text (codes "0") field ≡ true → TellsOf [] effects → TellsOf (items_of (words_of field)) effects
zero-tells field effects is tells = rw (zero-items field is) tells

-- every word of an EET item without a fault is an estimate
faultless-estimates : (dof : Bool) (item : ItemView) → item_fault dof item ≡ None → has_estimates item ≡ true
unfolding item_fault
faultless-estimates dof item none =
    ⊎_elim
    (λ dof-named. let name : item.name ≡ codes "DOF" = (bytes_decides item.name (codes "DOF")).0 dof-named in rw name refl)
    (λ other. unless-none (is_text (codes "EET") item.name) (list_all is_estimate item.words) (rw other at none))
    (cases_Bool (is_dof item))
  where
    unless-none : (named all : Bool) → (if named && not all then Some (BadField 18) else None) ≡ None → (if named then all else true) ≡ true
    unless-none true true h = refl
    unless-none true false h = cc
    unless-none false all h = refl

pub all-estimates : (dof : Bool) (items : List ItemView) → first_fault dof items ≡ None → list_all has_estimates items ≡ true
all-estimates dof [] none = refl
all-estimates dof (item ∷ items) none =
    let parts = neither (item_fault dof item) (first_fault (dof || is_dof item) items) none in
    rw (faultless-estimates dof item parts.0) (all-estimates (dof || is_dof item) items parts.1)
  where
    neither : (a b : Option ItemFault) → option_or a b ≡ None → (a ≡ None) × (b ≡ None)
    neither None b h = (refl, h)
    neither (Some fault) b h = cc

pub or-none : (a : Option ℕ) → option_or a None ≡ a
or-none None = refl
or-none (Some x) = refl

-- no words say nothing
pub none-left : (place : List ℕ) (words : List (List ℕ)) (so_far : Option ℕ) → length words ≡ 0 → option_or so_far (estimate_for place words) ≡ so_far
none-left place [] so_far none = or-none so_far
none-left place (word ∷ words) so_far none = absurd (omega (arith, none))

-- items without estimates say nothing of any point
pub none-elapsed : (place : List ℕ) (items : List ItemView) → estimate_count items ≡ 0 → elapsed_to place items ≡ None
none-elapsed place [] none = refl
none-elapsed place (item ∷ items) none =
    rw (none-elapsed place items (omega (arith, none))) (no-words (is_text (codes "EET") item.name) item.words (omega (arith, none)))
  where
    no-words : (named : Bool) (words : List (List ℕ)) → (if named then length words else 0) ≡ 0 → option_or (if named then estimate_for place words else None) None ≡ None
    no-words true [] h = refl
    no-words true (word ∷ words) h = absurd (omega (arith, h))
    no-words false words h = refl

pub field-estimates : (field : List ℕ) → field_fault field ≡ None → list_all has_estimates (items_of (words_of field)) ≡ true
unfolding field_fault
field-estimates field none =
    ⊎_elim
    (λ zero. rw (zero-items field zero) refl)
    (λ other. if-begins (begins_item (slice_index_or (words_of field) 0 [])) (rw other at none))
    (cases_Bool (is_text (codes "0") field))
  where
    if-begins : (b : Bool) → (if b then first_fault false (items_of (words_of field)) else Some (BadField 18)) ≡ None → list_all has_estimates (items_of (words_of field)) ≡ true
    if-begins true h = all-estimates false (items_of (words_of field)) h
    if-begins false h = cc

-- items have no more estimates than words
count-words : (words : List (List ℕ)) → estimate_count (items_of words) + length (words_before words) ≤ length words
count-words [] = omega arith
count-words (word ∷ words) =
    ⊎_elim
    (λ begins. rw begins (omega (arith, count-words words, in-item (is_text (codes "EET") (take (before_stroke word) word)) (own_words word) (words_before words) (own-one word))))
    (λ goes. rw goes (omega (arith, count-words words)))
    (cases_Bool (begins_item word))
  where
    one-of : (b : Bool) (own : List ℕ) → length (if b then [] else own ∷ []) ≤ 1
    one-of true own = omega arith
    one-of false own = omega arith

    own-one : (word : List ℕ) → length (own_words word) ≤ 1
    own-one word = one-of _ _

    in-item : (named : Bool) (own words : List (List ℕ)) → length own ≤ 1 → (if named then length (own ++ words) else 0) ≤ 1 + length words
    in-item true own words h = omega (arith, h, length-append own words)
    in-item false own words h = omega arith

few-words : (field : List ℕ) → length (words_of field) ≤ length field + 1
unfolding words_of
few-words field = unless (eqb (length field) 0)
  where
    parts : List (List ℕ)
    parts = slice_split (λ b. eqb b 32) field

    unless : (b : Bool) → length (if b then [] else parts) ≤ length field + 1
    unless true = omega arith
    unless false = omega (arith, length-slice_split (λ b. eqb b 32) field, count_by-le-length (λ b. eqb b 32) field)

pub count-fits : (field : List ℕ) → estimate_count (items_of (words_of field)) ≤ length field + 1
count-fits field = omega (arith, count-words (words_of field), few-words field)

-- ---- a word of four letters and an elapsed time

all-weaker : (p q : ℕ → Bool) → ((b : ℕ) → p b ≡ true → q b ≡ true) → (xs : List ℕ) → list_all p xs ≡ true → list_all q xs ≡ true
all-weaker p q weaker [] h = refl
all-weaker p q weaker (x ∷ xs) h =
    let parts = and_parts (p x) (list_all p xs) h in
    rw (weaker x parts.0) (all-weaker p q weaker xs parts.1)

letter-too : (b : ℕ) → is_letter b ≡ true → is_letter_or_digit b ≡ true
letter-too b is = rw is refl

no-stroke : (p : ℕ → Bool) → p 47 ≡ false → (b : ℕ) → p b ≡ true → not (eqb b 47) ≡ true
no-stroke p none b is = ap not (false_from_ne_true _ (λ yes. absurd (false≢true (sym none ∙ ap p (sym (eqb-true b 47 yes)) ∙ is))))

stroke-no-letter : is_letter 47 ≡ false
unfolding is_letter
stroke-no-letter = refl

stroke-no-digit : is_digit 47 ≡ false
unfolding is_digit
stroke-no-digit = refl

-- an elapsed time is of digits
elapsed-digits : (text : List ℕ) → is_some (elapsed_time text) ≡ true → list_all is_digit text ≡ true
unfolding hhmm_below
elapsed-digits text is = (and_parts _ _ (and_parts _ _ (and_parts _ _ (is-found _ _ is)).0).0).1
  where
    is-found : (b : Bool) (minutes : ℕ) → is_some (if b then Some minutes else None) ≡ true → b ≡ true
    is-found true minutes h = refl
    is-found false minutes h = absurd (false≢true h)

pub four_letter_estimate : (word : List ℕ) → IsFourLetterEstimate word → is_estimate word ≡ true
unfolding is_estimate
four_letter_estimate word e = rw (e.long, all-weaker is_letter is_letter_or_digit letter-too (take 4 word) e.place, e.time) refl

pub four_letter_no_item : (word : List ℕ) → IsFourLetterEstimate word → begins_item word ≡ false
four_letter_no_item word e =
    no-item word
    (ap (list_all (λ b. not (eqb b 47))) (sym (take-append-drop 4 word))
    ∙ list_all-append (λ b. not (eqb b 47)) (take 4 word) (drop 4 word)
    ∙ if-both _ _ (all-weaker is_letter (λ b. not (eqb b 47)) (no-stroke is_letter stroke-no-letter) (take 4 word) e.place)
    ∙ all-weaker is_digit (λ b. not (eqb b 47)) (no-stroke is_digit stroke-no-digit) (drop 4 word) (elapsed-digits (drop 4 word) e.time))
