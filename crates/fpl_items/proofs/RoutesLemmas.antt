-- The elements of a route, word by word.
use Rattle.std.proofs.Common.{◌≡◌, ℕ, ◌+◌, ◌≤◌, Bool, false, eqb, List, [], ◌∷◌, ◌++◌, length, refl, arith, ⊎_elim}
use Rattle.std.specs.List.{slice_split, onto_first}
use Rattle.std.proofs.lemmas.Bool.{cases_Bool, ne_eqb}
use Rattle.std.proofs.lemmas.List.Splits.{slice_split-cons_yes, slice_split-cons_no, length-slice_split}
use Rattle.fpl_text.specs.Words.{words_of}
use Rattle.std.specs.Prelude.{Option, count_by}
use Rattle.std.specs.Option.{option_map}
use Rattle.fpl_items.specs.declared.route.Element.{Element}
use Rattle.fpl_items.specs.Routes.{total_len}

-- elements found before others
abbrev pub with_front : List Element → Option (List Element) → Option (List Element)
with_front front found = option_map (λ elements. front ++ elements) found

-- cut at each separator, a list has its own length and one more in parts with their separators
total_len-slice_split : (p : ℕ → Bool) (text : List ℕ) → total_len (slice_split p text) ≡ length text + 1
total_len-slice_split p [] = refl
total_len-slice_split p (b ∷ text) =
    ⊎_elim
    (λ k. rw (slice_split-cons_yes p b text k) (omega (arith, total_len-slice_split p text)))
    (λ k. rw (slice_split-cons_no p b text k) (onto b (slice_split p text) (total_len-slice_split p text)))
    (cases_Bool (p b))
  where
    onto : (x : ℕ) (parts : List (List ℕ)) → total_len parts ≡ length text + 1 → total_len (onto_first x parts) ≡ length (x ∷ text) + 1
    onto x [] h = absurd (omega (arith, h))
    onto x (part ∷ parts) h = omega (arith, h)

pub total_len-words_of : (text : List ℕ) → total_len (words_of text) ≤ length text + 1
unfolding words_of
total_len-words_of [] = omega arith
total_len-words_of (b ∷ text) =
    let some : eqb (length (b ∷ text)) 0 ≡ false = ne_eqb (length (b ∷ text)) 0 (λ none. absurd (omega arith)) in
    rw some (omega (arith, total_len-slice_split (λ c. eqb c 32) (b ∷ text)))

-- a text has at most one word more than spaces
pub length-words_of : (text : List ℕ) → length (words_of text) ≤ count_by (λ c. eqb c 32) text + 1
unfolding words_of
length-words_of [] = omega arith
length-words_of (b ∷ text) =
    let some : eqb (length (b ∷ text)) 0 ≡ false = ne_eqb (length (b ∷ text)) 0 (λ none. absurd (omega arith)) in
    rw some (omega (arith, length-slice_split (λ c. eqb c 32) (b ∷ text)))
