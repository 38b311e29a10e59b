-- A destination, and its alternates.
use Rattle.std.proofs.Common.{◌≡◌, ℕ, ◌+◌, ◌-◌, ◌<◌, ◌≤◌, Bool, true, false, List, [], ◌∷◌, ◌++◌, length, take, drop, get_or, refl, sym, ap, ◌∙◌, arith, length-append, leb, eqb, ltb, ◌&&◌, ⊎_elim}
use Rattle.std.specs.Prelude.{Option, Some, None, position, if◌then◌else◌}
use Rattle.std.specs.Option.{option_map, option_and_then}
use Rattle.std.specs.List.{list_all, slice_split}
use Rattle.std.proofs.lemmas.Bool.{and_left, and_right, and_from, lt-leb, le-leb, cases_lt, eqb-true, cond-true, cond-false, false_from_ne_true}
use Rattle.std.proofs.lemmas.List.{append-nil, length-take, length-drop, get_or-take, get_or-drop}
use Rattle.std.proofs.lemmas.List.Folds.{list_all-append, list_all_at}
use Rattle.std.proofs.lemmas.List.Quantifiers.{position-Some}
use Rattle.fpl_text.specs.declared.place.Destination.{Destination}
use Rattle.fpl_text.specs.Bytes.{is_letter, is_digit}
use Rattle.fpl_text.specs.Times.{elapsed_time, hhmm_below, two_digits}
use Rattle.fpl_text.specs.Places.{is_place, arrival_of, alternates_of, destination_of, destination_of_words}
use Rattle.fpl_text.specs.Words.{words_of}
use Rattle.fpl_text.proofs.WordsLemmas.{no_letter, no_digit, split_found, split_not_found}

-- a third word is one too many
pub alternates_full : (places left rest words : List (List ℕ)) (word : List ℕ) → places ++ left ≡ words → left ≡ word ∷ rest → 2 ≤ length places → alternates_of words ≡ None
unfolding alternates_of
alternates_full places left rest words word h e full =
    cond-false _ _ _ (and_left (leb (length words) 2) (list_all is_place words) (lt-leb (length words) 2 (omega (arith, sym (ap length h), ap length e, length-append places left))))

-- a word that is no aerodrome
pub alternates_bad : (places left rest words : List (List ℕ)) (word : List ℕ) → places ++ left ≡ words → left ≡ word ∷ rest → is_place word ≡ false → alternates_of words ≡ None
unfolding alternates_of
alternates_bad places left rest words word h e bad =
    let all = sym (ap (list_all is_place) (ap (λ l. places ++ l) (sym e) ∙ h)) ∙ list_all-append is_place places (word ∷ rest) in
    cond-false _ _ _ (and_right (leb (length words) 2) (list_all is_place words) (all ∙ and_right (list_all is_place places) (list_all is_place (word ∷ rest)) (and_left (is_place word) (list_all is_place rest) bad)))

pub alternates_end : (places left words : List (List ℕ)) → places ++ left ≡ words → left ≡ [] → list_all is_place places ≡ true → length places ≤ 2 → alternates_of words ≡ Some places
unfolding alternates_of
alternates_end places left words h e good room =
    let same : places ≡ words = sym (append-nil places) ∙ ap (λ l. places ++ l) (sym e) ∙ h in
    rw (← same) (cond-true _ _ _ (and_from (leb (length places) 2) (list_all is_place places) (le-leb (length places) 2 room) good))

-- ---- a destination too short for alternates

few-no-place : (text : List ℕ) → length text < 4 → is_place text ≡ false
unfolding is_place
few-no-place text few = and_left (eqb (length text) 4) (list_all is_letter text) (false_from_ne_true _ (λ yes. absurd (omega (arith, eqb-true (length text) 4 yes))))

few-no-arrival : (text : List ℕ) → length text < 4 → arrival_of text ≡ None
unfolding arrival_of
few-no-arrival text few = cond-false _ _ _ (few-no-place (take 4 text) (omega (arith, length-take 4 text)))

-- letters and digits are no spaces
no-arrival-of-letters : (text : List ℕ) → is_place (take 4 text) ≡ false → arrival_of text ≡ None
unfolding arrival_of
no-arrival-of-letters text bad = cond-false _ _ _ bad

either-way : {A : Type 0} (b : Bool) (x : A) → (if b then x else x) ≡ x
either-way true x = refl
either-way false x = refl

no-arrival-of-digits : (text : List ℕ) → 4 < length text → elapsed_time (drop 4 text) ≡ None → arrival_of text ≡ None
unfolding arrival_of
no-arrival-of-digits text long bad =
    let more : eqb (length text) 4 ≡ false = false_from_ne_true _ (λ yes. absurd (omega (arith, eqb-true (length text) 4 yes))) in
    rw (more, bad) (either-way (is_place (take 4 text)) None)

no-elapsed : (time : List ℕ) → list_all is_digit time ≡ false → elapsed_time time ≡ None
unfolding hhmm_below
no-elapsed time bad =
    cond-false _ _ _ (and_left ((eqb (length time) 4 && list_all is_digit time) && ltb (two_digits time 0) 100) (ltb (two_digits time 2) 60)
    (and_left (eqb (length time) 4 && list_all is_digit time) _ (and_right (eqb (length time) 4) (list_all is_digit time) bad)))

spaced-no-place : (text : List ℕ) (k : ℕ) → k < length text → k < 4 → get_or text k 0 ≡ 32 → is_place (take 4 text) ≡ false
unfolding is_place
spaced-no-place text k inside few space =
    and_right (eqb (length (take 4 text)) 4) (list_all is_letter (take 4 text))
    (list_all_at is_letter (take 4 text) k 0 (omega (arith, length-take 4 text)) (ap is_letter (get_or-take 4 text k 0 few ∙ space) ∙ no_letter))

spaced-no-arrival : (text : List ℕ) (k : ℕ) → k < length text → get_or text k 0 ≡ 32 → arrival_of text ≡ None
spaced-no-arrival text k inside space =
    ⊎_elim
    (λ few. no-arrival-of-letters text (spaced-no-place text k inside few space))
    (λ more.
    let back : 4 + (k - 4) ≡ k = omega arith in
    no-arrival-of-digits text (omega arith) (no-elapsed (drop 4 text)
    (list_all_at is_digit (drop 4 text) (k - 4) 0 (omega (arith, length-drop 4 text))
    (ap is_digit (get_or-drop 4 text (k - 4) 0 ∙ ap (λ n. get_or text n 0) back ∙ space) ∙ no_digit))))
    (cases_lt k 4)

-- fewer than four bytes are no alternate
no-alternates : (word : List ℕ) (words : List (List ℕ)) → is_place word ≡ false → alternates_of (word ∷ words) ≡ None
unfolding alternates_of
no-alternates word words bad = cond-false _ _ _ (and_right (leb (length (word ∷ words)) 2) (list_all is_place (word ∷ words)) (and_left (is_place word) (list_all is_place words) bad))

few-in : (text : List ℕ) (found : Option ℕ) → position (λ b. eqb b 32) text ≡ found → length text < 4 → alternates_of (slice_split (λ b. eqb b 32) text) ≡ None
few-in text None none few = ap alternates_of (split_not_found (λ b. eqb b 32) text none) ∙ no-alternates text [] (few-no-place text few)
few-in text (Some end) at few =
    ap alternates_of (split_found (λ b. eqb b 32) text end at)
    ∙ no-alternates (take end text) _ (few-no-place (take end text) (omega (arith, length-take end text)))

few-no-alternates : (text : List ℕ) → length text < 4 → alternates_of (slice_split (λ b. eqb b 32) text) ≡ None
few-no-alternates text few = few-in text (position (λ b. eqb b 32) text) refl few

-- a destination without alternates
abbrev pub alone : Option (List ℕ × Option ℕ) → Option Destination
alone arrival = option_map (λ a. record { place = a.0; elapsed = a.1; alternates = [] }) arrival

-- a destination with what its other words say
abbrev with : Option (List ℕ × Option ℕ) → Option (List (List ℕ)) → Option Destination
with arrival words = option_and_then (λ a. option_map (λ alternates. record { place = a.0; elapsed = a.1; alternates = alternates }) words) arrival

no-words : alternates_of [] ≡ Some []
unfolding alternates_of
no-words = refl

with-none : (arrival : Option (List ℕ × Option ℕ)) → with arrival (Some []) ≡ alone arrival
with-none None = refl
with-none (Some a) = refl

with-refused : (arrival : Option (List ℕ × Option ℕ)) → with arrival None ≡ None
with-refused None = refl
with-refused (Some a) = refl

short-in : (text : List ℕ) (found : Option ℕ) → position (λ b. eqb b 32) text ≡ found → length text ≤ 8 → destination_of_words (slice_split (λ b. eqb b 32) text) ≡ alone (arrival_of text)
short-in text None none short = ap destination_of_words (split_not_found (λ b. eqb b 32) text none) ∙ ap (with (arrival_of text)) no-words ∙ with-none (arrival_of text)
short-in text (Some end) found short =
    let at = position-Some (λ b. eqb b 32) text end 0 found in
    let spaced = spaced-no-arrival text end at.0 (eqb-true _ 32 at.1) in
    ap destination_of_words (split_found (λ b. eqb b 32) text end found)
    ∙ ⊎_elim
    (λ few. rw (few-no-arrival (take end text) (omega (arith, length-take end text))) refl)
    (λ more. ap (with (arrival_of (take end text))) (few-no-alternates (drop (end + 1) text) (omega (arith, length-drop (end + 1) text))) ∙ with-refused (arrival_of (take end text)))
    (cases_lt end 4)
    ∙ sym (ap alone spaced)

no-destination : destination_of [] ≡ None
unfolding destination_of words_of
no-destination = refl

words-of-some : (b : ℕ) (text : List ℕ) → words_of (b ∷ text) ≡ slice_split (λ b. eqb b 32) (b ∷ text)
unfolding words_of
words-of-some b text = cond-false _ _ _ (false_from_ne_true (eqb (length (b ∷ text)) 0) (λ yes. absurd (omega (arith, eqb-true (length (b ∷ text)) 0 yes))))

pub short-destination : (text : List ℕ) → length text ≤ 8 → destination_of text ≡ alone (arrival_of text)
unfolding destination_of
short-destination [] short = no-destination ∙ sym (ap alone (few-no-arrival [] (omega arith)))
short-destination (b ∷ text) short = ap destination_of_words (words-of-some b text) ∙ short-in (b ∷ text) (position (λ b. eqb b 32) (b ∷ text)) refl short
