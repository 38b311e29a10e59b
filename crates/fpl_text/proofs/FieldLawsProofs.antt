-- The fields of a message text are the one list whose join by hyphens is in its brackets.
use Rattle.std.proofs.Common.{◌≡◌, ℕ, suc, ◌+◌, ◌-◌, ◌<◌, ◌≤◌, Bool, true, false, not, ◌&&◌, eqb, leb, List, [], ◌∷◌, ◌++◌, length, take, get_or, sym, refl, ap, ◌∙◌, arith, ⊎_elim, length-append}
use Rattle.std.proofs.Math.Seq.{get_or-append_seam}
use Rattle.std.specs.Prelude.{All}
use Rattle.std.specs.List.{list_all, join_with_byte, slice_split, onto_first, AllByRecursion}
use Rattle.std.proofs.lemmas.Bool.{cases_Bool, false≢true, and_parts, leb-true, eqb-true, and_from, le-leb, eq-eqb}
use Rattle.std.proofs.lemmas.List.{take_at, take-append-drop, at_drop_more, at_drop_all}
use Rattle.std.proofs.lemmas.List.Elements.{All-cons, All-nil}
use Rattle.std.proofs.lemmas.List.Splits.{slice_split-cons_yes, slice_split-cons_no, slice_split_none, slice_split_at, length-slice_split, join_with_byte-slice_split}
use Rattle.fpl_text.specs.Fields.{is_bracket, inside, stands_in_brackets, is_bracketed, fields_of}
use Rattle.fpl_text.specs.FieldLaws.{AreFields}

abbrev pub is_hyphen : ℕ → Bool
is_hyphen b = eqb b 45

abbrev pub HasNoHyphen : List ℕ → Type 0
HasNoHyphen = All (λ b. eqb b 45 ≡ false)

-- no part has a hyphen
parts_no_hyphen : (text : List ℕ) → AllByRecursion HasNoHyphen (slice_split is_hyphen text)
parts_no_hyphen [] = (All-nil (λ c. eqb c 45 ≡ false), tt)
parts_no_hyphen (b ∷ text) =
    ⊎_elim
    (λ k. rw (slice_split-cons_yes is_hyphen b text k) (All-nil (λ c. eqb c 45 ≡ false), parts_no_hyphen text))
    (λ k. rw (slice_split-cons_no is_hyphen b text k) (onto (slice_split is_hyphen text) k (parts_no_hyphen text)))
    (cases_Bool (is_hyphen b))
  where
    onto : (parts : List (List ℕ)) → is_hyphen b ≡ false → AllByRecursion HasNoHyphen parts → AllByRecursion HasNoHyphen (onto_first b parts)
    onto [] k all = (All-cons (λ c. eqb c 45 ≡ false) b [] k (All-nil (λ c. eqb c 45 ≡ false)), tt)
    onto (part ∷ parts) k all = (All-cons (λ c. eqb c 45 ≡ false) b part k all.0, all.1)

-- texts with no hyphen are the parts of their join
pub split-join : (fields : List (List ℕ)) → 0 < length fields → AllByRecursion HasNoHyphen fields → slice_split is_hyphen (join_with_byte 45 fields) ≡ fields
split-join [] some all = absurd (omega arith)
split-join (x ∷ []) some all = slice_split_none is_hyphen x all.0
split-join (x ∷ y ∷ fields) some all =
    slice_split_at is_hyphen x 45 (join_with_byte 45 (y ∷ fields)) all.0 refl ∙ ap (λ rest. x ∷ rest) (split-join (y ∷ fields) (omega arith) all.1)

-- a list is its front and its last byte
front_and_last : (text : List ℕ) (n : ℕ) → length text ≡ n + 1 → text ≡ take n text ++ (get_or text n 0 ∷ [])
front_and_last text n h =
    sym (take-append-drop n text)
    ∙ at_drop_more (λ rest. take n text ++ rest) text n 0 (omega arith)
    ∙ at_drop_all (λ rest. take n text ++ (get_or text n 0 ∷ rest)) text (n + 1) (omega arith)

-- what a text in brackets is
pub stands_spelled : (text : List ℕ) → stands_in_brackets text ≡ true → text ≡ 40 ∷ inside text ++ 41 ∷ []
unfolding stands_in_brackets
stands_spelled [] h = absurd (false≢true h)
stands_spelled (b ∷ text) h =
    let last = and_parts (leb 2 (length (b ∷ text)) && eqb b 40) (eqb (get_or (b ∷ text) (length (b ∷ text) - 1) 0) 41) h in
    let first = and_parts (leb 2 (length (b ∷ text))) (eqb b 40) last.0 in
    let long : 2 ≤ length (b ∷ text) = leb-true 2 (length (b ∷ text)) first.0 in
    let opens : b ≡ 40 = eqb-true b 40 first.1 in
    let closes : get_or (b ∷ text) (length (b ∷ text) - 1) 0 ≡ 41 = eqb-true _ 41 last.1 in
    let n = length text - 1 in
    let index : length (b ∷ text) - 1 ≡ suc n = omega arith in
    let last_is : get_or text n 0 ≡ 41 = rw index at closes in
    let front : length (b ∷ text) - 1 - 1 ≡ n = omega arith in
    let whole = front_and_last text n (omega arith) in
    rw front (ap (λ c. c ∷ text) opens ∙ ap (λ t. 40 ∷ t) (whole ∙ ap (λ c. take n text ++ (c ∷ [])) last_is))

pub spelled_from : (text : List ℕ) → is_bracketed text ≡ true → text ≡ 40 ∷ inside text ++ 41 ∷ []
unfolding is_bracketed
spelled_from text h = stands_spelled text (and_parts (stands_in_brackets text) (list_all (λ c. not (is_bracket c)) (inside text)) h).0

pub no_bracket_from : (text : List ℕ) → is_bracketed text ≡ true → list_all (λ b. not (is_bracket b)) (inside text) ≡ true
unfolding is_bracketed stands_in_brackets
no_bracket_from text h =
    (and_parts (leb 2 (length text) && eqb (get_or text 0 0) 40 && eqb (get_or text (length text - 1) 0) 41) (list_all (λ c. not (is_bracket c)) (inside text)) h).1

-- the fields that are found are fields of the text
pub fields_found : (text : List ℕ) → is_bracketed text ≡ true → AreFields text (fields_of text)
unfolding fields_of
fields_found text h =
    let joined = join_with_byte-slice_split 45 (inside text) in
    record {
      some = omega (arith, length-slice_split is_hyphen (inside text));
      no_hyphen = parts_no_hyphen (inside text);
      no_bracket = rw joined (no_bracket_from text h);
      spelled = rw joined (spelled_from text h);
    }

inside_spelled : (inner : List ℕ) → inside (40 ∷ inner ++ 41 ∷ []) ≡ inner
inside_spelled inner =
    let cut : length (40 ∷ inner ++ 41 ∷ []) - 1 - 1 ≡ length inner = omega (arith, length-append inner (41 ∷ [])) in
    rw cut (take_at inner (41 ∷ []) (length inner) refl)

spelled_bracketed : (inner : List ℕ) → list_all (λ b. not (is_bracket b)) inner ≡ true → is_bracketed (40 ∷ inner ++ 41 ∷ []) ≡ true
unfolding is_bracketed stands_in_brackets
spelled_bracketed inner good =
    let text : List ℕ = 40 ∷ inner ++ 41 ∷ [] in
    let index : length (40 ∷ inner ++ 41 ∷ []) - 1 ≡ suc (length inner) = omega (arith, length-append inner (41 ∷ [])) in
    let closes : get_or text (length text - 1) 0 ≡ 41 = rw index (get_or-append_seam inner 41 [] 0) in
    let long : 2 ≤ length text = omega (arith, length-append inner (41 ∷ [])) in
    and_from _ _ (and_from _ _ (and_from _ _ (le-leb 2 (length text) long) refl) (eq-eqb _ 41 closes)) (rw (inside_spelled inner) good)

-- and there are no others
pub fields_only : (text : List ℕ) (fields : List (List ℕ)) → AreFields text fields → (is_bracketed text ≡ true) × (fields_of text ≡ fields)
unfolding fields_of
fields_only text fields are =
    let inner = join_with_byte 45 fields in (
      rw are.spelled (spelled_bracketed inner are.no_bracket),
      rw are.spelled (rw (inside_spelled inner) (split-join fields are.some are.no_hyphen)),
    )
