-- The words of a text from the first that begins with one of three names on.
use Rattle.std.proofs.Common.{◌≡◌, ℕ, suc, zero, ◌+◌, ◌-◌, ◌<◌, ◌≤◌, ◌⊎◌, inl, inr, Bool, true, false, ◌&&◌, ◌||◌, not, eqb, List, [], ◌∷◌, length, take, drop, get_or, sym, refl, ap, ◌∙◌, arith, ⊎_elim}
use Rattle.std.specs.List.{slice_split, onto_first, position_or_len}
use Rattle.std.proofs.lemmas.Bool.{cases_Bool, cases_lt, eqb-true, eq-eqb, cond-true, cond-false, false≢true, and_parts, false_from_ne_true}
use Rattle.std.proofs.lemmas.List.{drop-drop, length-drop, length-take, get_or-take, get_or-drop, get_or_past}
use Rattle.std.proofs.lemmas.List.Folds.{list_all_at}
use Rattle.std.proofs.lemmas.List.Sums.{passes_at_first, fails_before_first}
use Rattle.std.proofs.lemmas.List.Splits.{slice_split_first, slice_split-cons_yes, slice_split-cons_no, length-slice_split}
use Rattle.fpl_text.specs.Lanes.{HasLanes, HasFlags, flag}
use Rattle.fpl_text.specs.Words.{lacks, words_from, begins_word, may_begin, is_named, is_one_of, words_from_named, without_first}
use Rattle.fpl_text.proofs.WordsLemmas.{split_nowhere, words-at, words-past}

and-false : (b : Bool) → b && false ≡ false
and-false true = refl
and-false false = refl

-- the four bytes of a name and its stroke
record Four (name text : List ℕ) : Type 0 where
  first : get_or text 0 0 ≡ get_or name 0 0
  second : get_or text 1 0 ≡ get_or name 1 0
  third : get_or text 2 0 ≡ get_or name 2 0
  stroke : get_or text 3 0 ≡ 47

four : (name text : List ℕ) → is_named name text ≡ true → Four name text
four name text is =
    let all = and_parts _ _ is in
    let three = and_parts _ _ all.0 in
    let two = and_parts _ _ three.0 in
    record {
      first = eqb-true _ _ two.0;
      second = eqb-true _ _ two.1;
      third = eqb-true _ _ three.1;
      stroke = eqb-true _ _ all.1;
    }

-- a name has no space
no-space-at : (name : List ℕ) (k : ℕ) → lacks 32 name ≡ true → get_or name k 0 ≡ 32 → ⊥
no-space-at name k none is =
    ⊎_elim
    (λ l. false≢true (sym (list_all_at (λ b. not (eqb b 32)) name k 0 l (ap not (eq-eqb _ 32 is))) ∙ none))
    (λ past. let zero : get_or name k 0 ≡ 0 = get_or_past name k 0 past in absurd (omega (arith, zero, is)))
    (cases_lt k (length name))

-- no space is among the bytes of a name and its stroke
four-solid : (name text : List ℕ) (e : ℕ) → lacks 32 name ≡ true → Four name text → e < 4 → get_or text e 0 ≡ 32 → ⊥
four-solid name text zero none f few is = no-space-at name 0 none (sym f.first ∙ is)
four-solid name text (suc zero) none f few is = no-space-at name 1 none (sym f.second ∙ is)
four-solid name text (suc (suc zero)) none f few is = no-space-at name 2 none (sym f.third ∙ is)
four-solid name text (suc (suc (suc zero))) none f few is = absurd (omega (arith, f.stroke, is))
four-solid name text (suc (suc (suc (suc e)))) none f few is = absurd (omega arith)

-- whether a text begins with a name is seen in its first word
named-front : (name text : List ℕ) (e : ℕ) → lacks 32 name ≡ true → e ≤ length text → (e < length text → eqb (get_or text e 0) 32 ≡ true)
    → is_named name (take e text) ≡ is_named name text
named-front name text e none within space =
    ⊎_elim
    (λ few.
    let past : get_or (take e text) 3 0 ≡ 0 = get_or_past (take e text) 3 0 (omega (arith, length-take e text)) in
    let never : is_named name text ≡ false = false_from_ne_true _ (λ is.
    let f = four name text is in
    ⊎_elim
    (λ l. four-solid name text e none f few (eqb-true _ 32 (space l)))
    (λ end. let zero : get_or text 3 0 ≡ 0 = get_or_past text 3 0 (omega arith) in absurd (omega (arith, zero, f.stroke)))
    (cases_lt e (length text))) in
    rw past (and-false _) ∙ sym never)
    (λ many. rw (get_or-take e text 0 0 (omega arith), get_or-take e text 1 0 (omega arith), get_or-take e text 2 0 (omega arith), get_or-take e text 3 0 (omega arith)) refl)
    (cases_lt e 4)

-- none of three names has a space
pub record AreNames (a b c : List ℕ) : Type 0 where
  pub first : lacks 32 a ≡ true
  pub second : lacks 32 b ≡ true
  pub third : lacks 32 c ≡ true

pub are-names : (a b c : List ℕ) → (lacks 32 a && lacks 32 b && lacks 32 c) ≡ true → AreNames a b c
are-names a b c are =
    let all = and_parts _ _ are in
    let two = and_parts _ _ all.0 in
    record { first = two.0; second = two.1; third = all.1 }

one-front : (a b c text : List ℕ) (e : ℕ) → AreNames a b c → e ≤ length text → (e < length text → eqb (get_or text e 0) 32 ≡ true)
    → is_one_of a b c (take e text) ≡ is_one_of a b c text
one-front a b c text e are within space =
    rw (named-front a text e are.first within space, named-front b text e are.second within space, named-front c text e are.third within space) refl

-- a word begins at an offset of a text that begins with a word
abbrev Starts : List ℕ → ℕ → Type 0
Starts text k = (k ≡ 0) ⊎ (eqb (get_or text (k - 1) 0) 32 ≡ true)

-- an offset is that of the first word with a name, or beyond the end if none has one
record Stops (a b c text : List ℕ) (r : ℕ) : Type 0 where
  before : (k : ℕ) → k < r → Starts text k → is_one_of a b c (drop k text) ≡ true → ⊥
  here : r ≤ length text → Starts text r × (is_one_of a b c (drop r text) ≡ true)
  most : r ≤ length text + 1

abbrev is_space : ℕ → Bool
is_space b = eqb b 32

abbrev first_space : List ℕ → ℕ
first_space text = position_or_len is_space text

-- a later word is a word of what follows the first space
record Behind (a b c text : List ℕ) (r : ℕ) : Type 0 where
  low : first_space text < r
  stops : Stops a b c (drop (first_space text + 1) text) (r - (first_space text + 1))
  same : words_from text r ≡ words_from (drop (first_space text + 1) text) (r - (first_space text + 1))

starts-later : (text : List ℕ) (r : ℕ) → 0 < r → Starts text r → eqb (get_or text (r - 1) 0) 32 ≡ true
starts-later text r some (inl none) = absurd (omega (arith, none, some))
starts-later text r some (inr space) = space

starts-behind : (text : List ℕ) (k : ℕ) → first_space text < length text → Starts (drop (first_space text + 1) text) k → Starts text (first_space text + 1 + k)
starts-behind text k inside (inl none) =
    let back : first_space text + 1 + k - 1 ≡ first_space text = omega (arith, none) in
    inr (ap (λ n. eqb (get_or text n 0) 32) back ∙ passes_at_first is_space text 0 inside)
starts-behind text zero inside (inr space) =
    let back : first_space text + 1 + 0 - 1 ≡ first_space text = omega arith in
    inr (ap (λ n. eqb (get_or text n 0) 32) back ∙ passes_at_first is_space text 0 inside)
starts-behind text (suc k) inside (inr space) =
    let one : suc k - 1 ≡ k = omega arith in
    let back : first_space text + 1 + suc k - 1 ≡ first_space text + 1 + k = omega arith in
    inr (ap (λ n. eqb (get_or text n 0) 32) back ∙ ap (λ b. eqb b 32) (sym (get_or-drop (first_space text + 1) text k 0)) ∙ ap (λ n. eqb (get_or (drop (first_space text + 1) text) n 0) 32) (sym one) ∙ space)

starts-from : (text : List ℕ) (r : ℕ) → first_space text < r → Starts text r → Starts (drop (first_space text + 1) text) (r - (first_space text + 1))
starts-from text r low starts =
    let e = first_space text in
    ⊎_elim
    (λ later.
    let there : e + 1 + (r - (e + 1) - 1) ≡ r - 1 = omega arith in
    inr (ap (λ b. eqb b 32) (get_or-drop (e + 1) text (r - (e + 1) - 1) 0) ∙ ap (λ n. eqb (get_or text n 0) 32) there ∙ starts-later text r (omega arith) starts))
    (λ same. inl (omega arith))
    (cases_lt (e + 1) r)

behind : (a b c text : List ℕ) (r : ℕ) → first_space text < length text → 0 < r → Stops a b c text r → Behind a b c text r
behind a b c text r inside some s =
    let e = first_space text in
    let rest = drop (e + 1) text in
    let long : length rest ≡ length text - (e + 1) = length-drop (e + 1) text in
    let low : e < r =
    ⊎_elim
    (λ within.
    ⊎_elim
    (λ early. absurd (false≢true (sym (fails_before_first is_space text (r - 1) 0 (omega arith)) ∙ starts-later text r some (s.here (omega arith)).0)))
    (λ late. omega arith)
    (cases_lt (r - 1) e))
    (λ past. omega arith)
    (cases_lt r (length text + 1)) in
    let there : e + 1 + (r - (e + 1)) ≡ r = omega arith in
    record {
      low = low;
      stops = record {
        before = λ k l starts is. s.before (e + 1 + k) (omega arith) (starts-behind text k inside starts) (ap (is_one_of a b c) (sym (drop-drop k (e + 1) text)) ∙ is);
        here = λ within.
            let h = s.here (omega (arith, within, long)) in
            (starts-from text r low h.0, ap (is_one_of a b c) (drop-drop (r - (e + 1)) (e + 1) text ∙ ap (λ n. drop n text) there) ∙ h.1);
        most = omega (arith, s.most, long);
      };
      same = ⊎_elim
          (λ within.
          words-at text r (omega arith)
          ∙ ap (slice_split is_space) (sym (drop-drop (r - (e + 1)) (e + 1) text ∙ ap (λ n. drop n text) there))
          ∙ sym (words-at rest (r - (e + 1)) (omega (arith, long))))
          (λ past. words-past text r (omega arith) ∙ sym (words-past rest (r - (e + 1)) (omega (arith, long))))
          (cases_lt r (length text + 1));
    }

-- the first word has a name if the text begins with it
first-named : (a b c text : List ℕ) → AreNames a b c → is_one_of a b c text ≡ true → words_from_named a b c (slice_split is_space text) ≡ slice_split is_space text
first-named a b c text are is =
    ⊎_elim
    (λ inside.
    let cut = slice_split_first is_space text 0 inside in
    let same = one-front a b c text (first_space text) are (omega arith) (λ l. passes_at_first is_space text 0 l) in
    ap (words_from_named a b c) cut ∙ cond-true _ _ _ (same ∙ is) ∙ sym cut)
    (λ whole. let one = split_nowhere is_space text whole in ap (words_from_named a b c) one ∙ cond-true _ _ _ is ∙ sym one)
    (cases_lt (first_space text) (length text))

stops-there : (a b c : List ℕ) → AreNames a b c → (n : ℕ) (text : List ℕ) (r : ℕ) → length text ≤ n → Stops a b c text r
    → words_from text r ≡ words_from_named a b c (slice_split is_space text)
stops-there a b c are n text zero few s = words-at text 0 (omega arith) ∙ sym (first-named a b c text are (s.here (omega arith)).1)
stops-there a b c are zero text (suc r) few s =
    let no : is_one_of a b c text ≡ false = false_from_ne_true _ (s.before 0 (omega arith) (inl refl)) in
    let one = split_nowhere is_space text (omega arith) in
    let past : length text < suc r =
    ⊎_elim (λ within. absurd (let zero : get_or text r 0 ≡ 0 = get_or_past text r 0 (omega arith) in
    let space = eqb-true _ 32 (starts-later text (suc r) (omega arith) (s.here (omega arith)).0) in
    let one : suc r - 1 ≡ r = omega arith in omega (arith, ap (λ n. get_or text n 0) one, zero, space))) (λ l. omega arith) (cases_lt (suc r) (length text + 1)) in
    words-past text (suc r) past ∙ sym (ap (words_from_named a b c) one ∙ cond-false _ _ _ no)
stops-there a b c are (suc n) text (suc r) few s =
    let no : is_one_of a b c text ≡ false = false_from_ne_true _ (s.before 0 (omega arith) (inl refl)) in
    ⊎_elim
    (λ inside.
    let f = behind a b c text (suc r) inside (omega arith) s in
    let cut = slice_split_first is_space text 0 inside in
    let same = one-front a b c text (first_space text) are (omega arith) (λ l. passes_at_first is_space text 0 l) in
    f.same
    ∙ stops-there a b c are n (drop (first_space text + 1) text) (suc r - (first_space text + 1)) (omega (arith, length-drop (first_space text + 1) text)) f.stops
    ∙ sym (ap (words_from_named a b c) cut ∙ cond-false _ _ _ (same ∙ no)))
    (λ whole.
    let one = split_nowhere is_space text whole in
    let past : length text < suc r =
    ⊎_elim
    (λ within.
    ⊎_elim
    (λ early. absurd (false≢true (sym (fails_before_first is_space text (suc r - 1) 0 (omega arith)) ∙ starts-later text (suc r) (omega arith) (s.here (omega arith)).0)))
    (λ late. absurd (omega arith))
    (cases_lt r (length text)))
    (λ l. omega arith)
    (cases_lt (suc r) (length text + 1)) in
    words-past text (suc r) past ∙ sym (ap (words_from_named a b c) one ∙ cond-false _ _ _ no))
    (cases_lt (first_space text) (length text))

-- at an offset of a text
or-cases : (p q : Bool) → (p || q) ≡ true → (p ≡ true) ⊎ (q ≡ true)
or-cases true q h = inl refl
or-cases false q h = inr h

or-first : (p q : Bool) → p ≡ true → (p || q) ≡ true
or-first p q is = rw is refl

or-second : (p q : Bool) → q ≡ true → (p || q) ≡ true
or-second true q is = refl
or-second false q is = is

begins-there : (text : List ℕ) (from k : ℕ) → Starts (drop from text) k → begins_word text from (from + k) ≡ true
begins-there text from k (inl none) = or-first _ _ (eq-eqb (from + k) from (omega (arith, none)))
begins-there text from zero (inr space) = or-first _ _ (eq-eqb (from + 0) from (omega arith))
begins-there text from (suc k) (inr space) =
    let one : suc k - 1 ≡ k = omega arith in
    let back : from + suc k - 1 ≡ from + k = omega arith in
    or-second _ _ (ap (λ n. eqb (get_or text n 0) 32) back ∙ ap (λ b. eqb b 32) (sym (get_or-drop from text k 0)) ∙ ap (λ n. eqb (get_or (drop from text) n 0) 32) (sym one) ∙ space)

starts-there : (text : List ℕ) (from r : ℕ) → from ≤ r → begins_word text from r ≡ true → Starts (drop from text) (r - from)
starts-there text from r low begins =
    ⊎_elim
    (λ same. inl (let e = eqb-true r from same in omega (arith, e)))
    (λ space.
    ⊎_elim
    (λ later.
    let there : from + (r - from - 1) ≡ r - 1 = omega arith in
    inr (ap (λ b. eqb b 32) (get_or-drop from text (r - from - 1) 0) ∙ ap (λ n. eqb (get_or text n 0) 32) there ∙ space))
    (λ first. inl (omega arith))
    (cases_lt from r))
    (or-cases _ _ begins)

-- no word with a name begins from `from` on before `place`
abbrev pub NoneNamed : List ℕ → List ℕ → List ℕ → List ℕ → ℕ → ℕ → Type 0
NoneNamed a b c text from place = (k : ℕ) → from ≤ k → k < place → begins_word text from k ≡ true → is_one_of a b c (drop k text) ≡ true → ⊥

-- where a text has a name, one may begin
named-may : (name a b c text : List ℕ) (k : ℕ) → is_named name (drop k text) ≡ true
    → (eqb (get_or text k 0) (get_or a 0 0) || eqb (get_or text k 0) (get_or b 0 0) || eqb (get_or text k 0) (get_or c 0 0)) ≡ true
    → may_begin (get_or a 0 0) (get_or b 0 0) (get_or c 0 0) text k ≡ true
named-may name a b c text k is one = rw (eq-eqb _ 47 (sym (get_or-drop k text 3 0) ∙ (four name (drop k text) is).stroke)) one

first-of : (name text : List ℕ) (k : ℕ) → is_named name (drop k text) ≡ true → eqb (get_or text k 0) (get_or name 0 0) ≡ true
first-of name text k is =
    let zero : k + 0 ≡ k = omega arith in
    eq-eqb _ _ (ap (λ n. get_or text n 0) (sym zero) ∙ sym (get_or-drop k text 0 0) ∙ (four name (drop k text) is).first)

one-may : (a b c text : List ℕ) (k : ℕ) → is_one_of a b c (drop k text) ≡ true → may_begin (get_or a 0 0) (get_or b 0 0) (get_or c 0 0) text k ≡ true
one-may a b c text k is =
    ⊎_elim
    (λ two.
    ⊎_elim
    (λ x. named-may a a b c text k x (or-first _ _ (or-first _ _ (first-of a text k x))))
    (λ y. named-may b a b c text k y (or-first _ _ (or-second _ _ (first-of b text k y))))
    (or-cases (is_named a (drop k text)) (is_named b (drop k text)) two))
    (λ z. named-may c a b c text k z (or-second _ _ (first-of c text k z)))
    (or-cases (is_named a (drop k text) || is_named b (drop k text)) (is_named c (drop k text)) is)

-- none does up to where the next name may begin
pub none-longer : (a b c text : List ℕ) (from place next : ℕ) → NoneNamed a b c text from place
    → ((k : ℕ) → place ≤ k → k < next → may_begin (get_or a 0 0) (get_or b 0 0) (get_or c 0 0) text k ≡ false) → NoneNamed a b c text from next
none-longer a b c text from place next none without k low high begins is =
    ⊎_elim
    (λ early. none k low early begins is)
    (λ late. false≢true (sym (without k late high) ∙ one-may a b c text k is))
    (cases_lt k place)

-- nor where it may begin and doesn't
pub none-past : (a b c text : List ℕ) (from next : ℕ) → NoneNamed a b c text from next
    → (begins_word text from next ≡ true → is_one_of a b c (drop next text) ≡ true → ⊥) → NoneNamed a b c text from (next + 1)
none-past a b c text from next none other k low high begins is =
    ⊎_elim
    (λ early. none k low early begins is)
    (λ here.
    let same : k ≡ next = omega arith in
    other (ap (begins_word text from) (sym same) ∙ begins) (ap (λ n. is_one_of a b c (drop n text)) (sym same) ∙ is))
    (cases_lt k next)

and-true : (b : Bool) → b && true ≡ b
and-true true = refl
and-true false = refl

pub or-last : (p q r : Bool) → p ≡ false → q ≡ false → (p || q || r) ≡ r
or-last p q r none neither = rw (none, neither) refl

-- three bytes at an offset
abbrev pub at_place : List ℕ → ℕ → List ℕ → Bool
at_place text k name =
    eqb (get_or text k 0) (get_or name 0 0) && eqb (get_or text (k + 1) 0) (get_or name 1 0) && eqb (get_or text (k + 2) 0) (get_or name 2 0)

-- the bytes of a name before a stroke
pub one-drop : (a b c text : List ℕ) (k : ℕ) → eqb (get_or text (k + 3) 0) 47 ≡ true
    → is_one_of a b c (drop k text) ≡ (at_place text k a || at_place text k b || at_place text k c)
one-drop a b c text k stroke =
    let zero : k + 0 ≡ k = omega arith in
    let shift : (j : ℕ) → get_or (drop k text) j 0 ≡ get_or text (k + j) 0 = λ j. get_or-drop k text j 0 in
    rw (shift 0, zero, shift 1, shift 2, shift 3, stroke, and-true (at_place text k a), and-true (at_place text k b), and-true (at_place text k c)) refl

named-there : (a b c text : List ℕ) (from r : ℕ) → (lacks 32 a && lacks 32 b && lacks 32 c) ≡ true → from ≤ length text → from ≤ r → r ≤ length text + 1
    → ((k : ℕ) → from ≤ k → k < r → begins_word text from k ≡ true → is_one_of a b c (drop k text) ≡ true → ⊥) → (r ≤ length text → (begins_word text from r ≡ true) × (is_one_of a b c (drop r text) ≡ true))
    → words_from text r ≡ words_from_named a b c (words_from text from)
named-there a b c text from r names inside low most none here =
    let rest = drop from text in
    let long : length rest ≡ length text - from = length-drop from text in
    let there : from + (r - from) ≡ r = omega arith in
    let s : Stops a b c rest (r - from) = record {
      before = λ k l starts is. none (from + k) (omega arith) (omega arith) (begins-there text from k starts) (ap (is_one_of a b c) (sym (drop-drop k from text)) ∙ is);
      here = λ within.
          let h = here (omega (arith, within, long)) in
          (starts-there text from r low h.0, ap (is_one_of a b c) (drop-drop (r - from) from text ∙ ap (λ n. drop n text) there) ∙ h.1);
      most = omega (arith, most, long);
    } in
    let same : words_from text r ≡ words_from rest (r - from) =
    ⊎_elim
    (λ within.
    words-at text r (omega arith)
    ∙ ap (slice_split is_space) (sym (drop-drop (r - from) from text ∙ ap (λ n. drop n text) there))
    ∙ sym (words-at rest (r - from) (omega (arith, long))))
    (λ past. words-past text r (omega arith) ∙ sym (words-past rest (r - from) (omega (arith, long))))
    (cases_lt r (length text + 1)) in
    same ∙ stops-there a b c (are-names a b c names) (length rest) rest (r - from) (omega arith) s ∙ ap (words_from_named a b c) (sym (words-at text from inside))

-- the first one that does
pub named-here : (a b c text : List ℕ) (from place : ℕ) → (lacks 32 a && lacks 32 b && lacks 32 c) ≡ true → from ≤ length text → from ≤ place → place < length text
    → NoneNamed a b c text from place → begins_word text from place ≡ true → is_one_of a b c (drop place text) ≡ true
    → words_from text place ≡ words_from_named a b c (words_from text from)
named-here a b c text from place names inside low high none begins is =
    named-there a b c text from place names inside low (omega arith) none (λ _. (begins, is))

-- none does in the whole text
pub named-nowhere : (a b c text : List ℕ) (from : ℕ) → (lacks 32 a && lacks 32 b && lacks 32 c) ≡ true → from ≤ length text
    → NoneNamed a b c text from (length text + 1) → words_from text (length text + 1) ≡ words_from_named a b c (words_from text from)
named-nowhere a b c text from names inside none =
    named-there a b c text from (length text + 1) names inside (omega arith) (omega arith) none (λ within. absurd (omega arith))

-- ---- where a name may begin

-- no name begins at one of the last three bytes
pub none-late : (a b c : ℕ) (text : List ℕ) (k : ℕ) → length text ≤ k + 3 → may_begin a b c text k ≡ false
none-late a b c text k past = let zero : get_or text (k + 3) 0 ≡ 0 = get_or_past text (k + 3) 0 past in rw zero refl

-- what lanes show of it
pub lanes-may : (a b c : ℕ) (text first after names : List ℕ) (start k : ℕ) → k < 16 → HasLanes first (λ i. get_or text (start + i) 0) → HasLanes after (λ i. get_or text (start + 3 + i) 0)
    → HasFlags names (λ i. eqb (get_or after i 0) 47 && (eqb (get_or first i 0) a || eqb (get_or first i 0) b || eqb (get_or first i 0) c))
    → get_or names k 0 ≡ flag (may_begin a b c text (start + k))
lanes-may a b c text first after names start k l firsts afters flags =
    let there : start + 3 + k ≡ start + k + 3 = omega arith in
    flags.each k l ∙ rw (firsts.each k l, afters.each k l, there) refl

pub flag-unset : (p : Bool) → not (eqb (flag p) 255) ≡ true → p ≡ false
flag-unset true h = absurd cc
flag-unset false h = refl

pub flag-set : (p : Bool) → not (eqb (flag p) 255) ≡ false → p ≡ true
flag-set true h = refl
flag-set false h = absurd cc

-- ---- the next word

-- whether it has a name is seen in the text
pub head-named : (name text : List ℕ) (from : ℕ) → lacks 32 name ≡ true → is_named name (get_or (words_from text from) 0 []) ≡ is_named name (drop from text)
head-named name text from none =
    ⊎_elim
    (λ within.
    let rest = drop from text in
    ap (λ ws. is_named name (get_or ws 0 [])) (words-at text from (omega arith))
    ∙ ⊎_elim
    (λ inside.
    ap (λ ws. is_named name (get_or ws 0 [])) (slice_split_first is_space rest 0 inside)
    ∙ named-front name rest (first_space rest) none (omega arith) (λ l. passes_at_first is_space rest 0 l))
    (λ whole. ap (λ ws. is_named name (get_or ws 0 [])) (split_nowhere is_space rest whole))
    (cases_lt (first_space rest) (length rest)))
    (λ past.
    let zero : get_or (drop from text) 3 0 ≡ 0 = get_or-drop from text 3 0 ∙ get_or_past text (from + 3) 0 (omega arith) in
    ap (λ ws. is_named name (get_or ws 0 [])) (words-past text from (omega arith)) ∙ and-false _ ∙ sym (rw zero (and-false _)))
    (cases_lt from (length text + 1))

pub named-short : (name text : List ℕ) (from : ℕ) → lacks 32 name ≡ true → eqb (get_or text (from + 3) 0) 47 ≡ false → false ≡ is_named name (get_or (words_from text from) 0 [])
named-short name text from none other =
    sym (head-named name text from none ∙ rw (get_or-drop from text 3 0, other) (and-false _))

pub named-past : (name text : List ℕ) (from : ℕ) → lacks 32 name ≡ true → length text ≤ from + 3 → false ≡ is_named name (get_or (words_from text from) 0 [])
named-past name text from none past =
    let zero : get_or text (from + 3) 0 ≡ 0 = get_or_past text (from + 3) 0 past in
    named-short name text from none (rw zero refl)

pub named-whole : (name text : List ℕ) (from : ℕ) → lacks 32 name ≡ true → eqb (get_or text (from + 3) 0) 47 ≡ true
    → at_place text from name ≡ is_named name (get_or (words_from text from) 0 [])
named-whole name text from none stroke =
    let zero : from + 0 ≡ from = omega arith in
    let shift : (j : ℕ) → get_or (drop from text) j 0 ≡ get_or text (from + j) 0 = λ j. get_or-drop from text j 0 in
    sym (head-named name text from none ∙ rw (shift 0, zero, shift 1, shift 2, shift 3, stroke) (and-true _))

split-without : (text : List ℕ) (n : ℕ) → n ≤ length (get_or (slice_split is_space text) 0 []) → slice_split is_space (drop n text) ≡ without_first n (slice_split is_space text)
split-without [] zero few = refl
split-without [] (suc n) few = absurd (omega arith)
split-without (b ∷ text) zero few = by (slice_split is_space (b ∷ text)) where
  by : (words : List (List ℕ)) → words ≡ without_first 0 words
  by [] = refl
  by (word ∷ words) = refl
split-without (b ∷ text) (suc n) few =
    ⊎_elim
    (λ yes. absurd (let none : length (get_or (slice_split is_space (b ∷ text)) 0 []) ≡ 0 = ap (λ ws. length (get_or ws 0 [])) (slice_split-cons_yes is_space b text yes) in omega arith))
    (λ no.
    let cut = slice_split-cons_no is_space b text no in
    let long = ap (λ ws. length (get_or ws 0 [])) cut in
    onto (slice_split is_space text) (slice_split is_space (drop n text)) (omega (arith, length-slice_split is_space text)) (omega (arith, few, long)) (split-without text n)
    ∙ sym (ap (without_first (suc n)) cut))
    (cases_Bool (eqb b 32))
  where
    onto : (words later : List (List ℕ)) → 0 < length words → suc n ≤ length (get_or (onto_first b words) 0 []) → (n ≤ length (get_or words 0 []) → later ≡ without_first n words)
        → later ≡ without_first (suc n) (onto_first b words)
    onto [] later some few rest = absurd (omega arith)
    onto (word ∷ words) later some few rest = rest (omega arith)

-- how much of a text is left for the next word
pub head-fits : (text : List ℕ) (from n : ℕ) → n ≤ length (get_or (words_from text from) 0 []) → (n ≡ 0) ⊎ (from + n ≤ length text)
head-fits text from n few =
    ⊎_elim
    (λ within.
    let rest = drop from text in
    let head = ap (λ ws. length (get_or ws 0 [])) (words-at text from (omega arith)) in
    inr (⊎_elim
    (λ inside.
    let cut = ap (λ ws. length (get_or ws 0 [])) (slice_split_first is_space rest 0 inside) in
    omega (arith, few, head, cut, length-take (first_space rest) rest, length-drop from text, within))
    (λ whole.
    let one = ap (λ ws. length (get_or ws 0 [])) (split_nowhere is_space rest whole) in
    omega (arith, few, head, one, length-drop from text, within))
    (cases_lt (first_space rest) (length rest))))
    (λ past. let none = ap (λ ws. length (get_or ws 0 [])) (words-past text from (omega arith)) in inl (omega (arith, few, none)))
    (cases_lt from (length text + 1))

pub words-without : (text : List ℕ) (from n : ℕ) → n ≤ length (get_or (words_from text from) 0 []) → words_from text (from + n) ≡ without_first n (words_from text from)
words-without text from n few =
    ⊎_elim
    (λ none. let same : from + n ≡ from = omega arith in ap (words_from text) same ∙ whole (words_from text from) n none)
    (λ within.
    let cut = words-at text from (omega arith) in
    words-at text (from + n) within
    ∙ ap (slice_split is_space) (sym (drop-drop n from text))
    ∙ split-without (drop from text) n (omega (arith, few, ap (λ ws. length (get_or ws 0 [])) cut))
    ∙ sym (ap (without_first n) cut))
    (head-fits text from n few)
  where
    whole : (words : List (List ℕ)) (n : ℕ) → n ≡ 0 → words ≡ without_first n words
    whole [] n none = refl
    whole (word ∷ words) n none = rw none refl
