-- The borders of a text in one pair of brackets cut it into its fields.
use Rattle.std.proofs.Common.{◌≡◌, ℕ, zero, suc, ◌+◌, ◌-◌, ◌<◌, ◌≤◌, Bool, true, false, not, ◌&&◌, cond, eqb, List, [], ◌∷◌, ◌++◌, length, get_or, take, drop, sym, refl, ap, subst, ◌∙◌, arith, ⊎_elim, length-append}
use Rattle.std.specs.Prelude.{Some, slice_get, slice_range, min}
use Rattle.std.specs.List.{list_all, onto_first, count_by}
use Rattle.std.proofs.lemmas.Bool.{cases_Bool, and_parts, eqb-true, ne_eqb}
use Rattle.std.proofs.lemmas.List.{get_or-take, length-take}
use Rattle.std.proofs.lemmas.List.Sums.{sum_by-append}
use Rattle.std.proofs.lemmas.List.Splits.{slice_split-cons_yes, slice_split-cons_no, length-slice_split}
use Rattle.fpl_text.specs.Bytes.{is_border}
use Rattle.fpl_text.specs.Fields.{is_bracket, inside, stands_in_brackets, is_bracketed, fields_of}
use Rattle.fpl_text.specs.Borders.{parts, border_places, AreBorders, IsNoted}
use Rattle.fpl_text.specs.declared.squeezed.Borders.{Borders}
use Rattle.fpl_text.proofs.BordersLemmas.{places-few}
use Rattle.fpl_text.proofs.FieldLawsProofs.{stands_spelled, spelled_from, no_bracket_from}

abbrev is_clean : List ℕ → Bool
is_clean text = list_all (λ b. not (is_bracket b)) text

abbrev one : ℕ → ℕ
one b = cond (is_bracket b) 1 0

closing : is_bracket 41 ≡ true
unfolding is_bracket
closing = refl

opening : is_bracket 40 ≡ true
unfolding is_bracket
opening = refl

zero-plus : (n : ℕ) → 0 + n ≡ n
zero-plus n = omega arith

count-cons : (b : ℕ) (text : List ℕ) → count_by is_bracket (b ∷ text) ≡ one b + count_by is_bracket text
count-cons b text = sum_by-append one (b ∷ []) text ∙ ap (λ n. n + count_by is_bracket text) (zero-plus (one b))

-- ---- a text between brackets has no others if it has two

with-closing : (text : List ℕ) → count_by is_bracket (text ++ 41 ∷ []) ≡ count_by is_bracket text + 1
with-closing text = sum_by-append one text (41 ∷ []) ∙ ap (λ n. count_by is_bracket text + n) (zero-plus (one 41) ∙ ap (λ (b : Bool). cond {A = ℕ} b 1 0) closing)

none-counted : (text : List ℕ) → eqb (count_by is_bracket text) 0 ≡ is_clean text
none-counted [] = refl
none-counted (b ∷ text) =
    ⊎_elim
    (λ k. let more : count_by is_bracket (b ∷ text) ≡ suc (count_by is_bracket text) = count-cons b text ∙ rw k (omega arith) in
    ap (λ n. eqb n 0) more ∙ ne_eqb (suc (count_by is_bracket text)) 0 (λ e. omega arith) ∙ sym (ap (λ c. not c && is_clean text) k))
    (λ k. let same : count_by is_bracket (b ∷ text) ≡ count_by is_bracket text = count-cons b text ∙ rw k (omega arith) in
    ap (λ n. eqb n 0) same ∙ none-counted text ∙ sym (ap (λ c. not c && is_clean text) k))
    (cases_Bool (is_bracket b))

two-counted : (n : ℕ) → eqb (1 + (n + 1)) 2 ≡ eqb n 0
two-counted zero = refl
two-counted (suc n) = ne_eqb (1 + (suc n + 1)) 2 (λ e. omega arith) ∙ sym (ne_eqb (suc n) 0 (λ e. omega arith))

pub brackets-two : (text : List ℕ) → stands_in_brackets text ≡ true → eqb (count_by is_bracket text) 2 ≡ is_bracketed text
unfolding is_bracketed
brackets-two text h =
    let counted : count_by is_bracket text ≡ 1 + (count_by is_bracket (inside text) + 1) =
    ap (count_by is_bracket) (stands_spelled text h) ∙ count-cons 40 (inside text ++ 41 ∷ [])
    ∙ (λ i. cond {A = ℕ} (opening i) 1 0 + with-closing (inside text) i) in
    rw (counted, h) (two-counted (count_by is_bracket (inside text)) ∙ none-counted (inside text))

pub brackets-none : (text : List ℕ) → stands_in_brackets text ≡ false → is_bracketed text ≡ false
unfolding is_bracketed
brackets-none text h = rw h refl

-- ---- its fields are between its borders

hyphen-border : (b : ℕ) → eqb b 45 ≡ true → is_border b ≡ true
unfolding is_border
hyphen-border b h = rw (eqb-true b 45 h) refl

other-no_border : (b : ℕ) → eqb b 45 ≡ false → not (is_bracket b) ≡ true → is_border b ≡ false
unfolding is_border is_bracket
other-no_border b h k = grind arith

closing-border : is_border 41 ≡ true
unfolding is_border
closing-border = refl

opening-border : is_border 40 ≡ true
unfolding is_border
opening-border = refl

-- where part i begins, counted from the offset `from`
abbrev begin : ℕ → List ℕ → ℕ → ℕ
begin from places zero = 0
begin from places (suc i) = get_or places i 0 + 1 - from

record Between (text : List ℕ) (from : ℕ) (places : List ℕ) : Type 0 where
  many : length places ≡ length (parts text)
  low : (i : ℕ) → i < length places → from ≤ get_or places i 0
  order : (i : ℕ) → i < length places → begin from places i ≤ get_or places i 0 - from
  high : (i : ℕ) → i < length places → get_or places i 0 ≤ from + length text
  part : (i : ℕ) → i < length places → slice_get (parts text) i ≡ Some (slice_range text (begin from places i) (get_or places i 0 - from))

-- the same of a text with one byte more in front
range-more : (b : ℕ) (text : List ℕ) (start end : ℕ) → slice_range (b ∷ text) (suc start) (suc end) ≡ slice_range text start end
range-more b text start end = let same : suc end - suc start ≡ end - start = omega arith in ap (λ n. take n (drop start text)) same

get-more : (b : ℕ) (found : List (List ℕ)) (i : ℕ) → 0 < length found → slice_get (onto_first b found) (suc i) ≡ slice_get found (suc i)
get-more b [] i some = absurd (omega arith)
get-more b (part ∷ found) i some = refl

get-first : (b : ℕ) (found : List (List ℕ)) (part : List ℕ) → slice_get found 0 ≡ Some part → slice_get (onto_first b found) 0 ≡ Some (b ∷ part)
get-first b [] part h = absurd (cc)
get-first b (first ∷ found) part h = let same : first ≡ part = cc in rw same refl

length-onto : (b : ℕ) (found : List (List ℕ)) → 0 < length found → length (onto_first b found) ≡ length found
length-onto b [] some = absurd (omega arith)
length-onto b (part ∷ found) some = refl

between-hyphen : (b : ℕ) (text : List ℕ) (from : ℕ) (places : List ℕ) → eqb b 45 ≡ true → Between text (from + 1) places → Between (b ∷ text) from (from ∷ places)
between-hyphen b text from places h rest =
    let split = slice_split-cons_yes (λ c. eqb c 45) b text h in
    record {
      many = omega (arith, rest.many, ap length split);
      low = λ i l. low i l;
      order = λ i l. order i l;
      high = λ i l. high i l;
      part = λ i l. part split i l;
    }
  where
    low : (i : ℕ) → i < length (from ∷ places) → from ≤ get_or (from ∷ places) i 0
    low zero l = omega arith
    low (suc i) l = omega (arith, rest.low i (omega arith))

    order : (i : ℕ) → i < length (from ∷ places) → begin from (from ∷ places) i ≤ get_or (from ∷ places) i 0 - from
    order zero l = omega arith
    order (suc zero) l = omega (arith, rest.low 0 (omega arith))
    order (suc (suc i)) l = omega (arith, rest.low i (omega arith), rest.low (suc i) (omega arith), rest.order (suc i) (omega arith))

    high : (i : ℕ) → i < length (from ∷ places) → get_or (from ∷ places) i 0 ≤ from + length (b ∷ text)
    high zero l = omega arith
    high (suc i) l = omega (arith, rest.high i (omega arith))

    part : parts (b ∷ text) ≡ [] ∷ parts text → (i : ℕ) → i < length (from ∷ places) → slice_get (parts (b ∷ text)) i ≡ Some (slice_range (b ∷ text) (begin from (from ∷ places) i) (get_or (from ∷ places) i 0 - from))
    part split zero l = let none : from - from ≡ 0 = omega arith in rw (split, none) refl
    part split (suc zero) l =
        let start : from + 1 - from ≡ suc 0 = omega arith in
        let end : get_or places 0 0 - from ≡ suc (get_or places 0 0 - (from + 1)) = omega (arith, rest.low 0 (omega arith)) in
        rw (split, start, end, range-more b text 0 (get_or places 0 0 - (from + 1))) (rest.part 0 (omega arith))
    part split (suc (suc i)) l =
        let start : get_or places i 0 + 1 - from ≡ suc (get_or places i 0 + 1 - (from + 1)) = omega (arith, rest.low i (omega arith)) in
        let end : get_or places (suc i) 0 - from ≡ suc (get_or places (suc i) 0 - (from + 1)) = omega (arith, rest.low (suc i) (omega arith)) in
        rw (split, start, end, range-more b text (get_or places i 0 + 1 - (from + 1)) (get_or places (suc i) 0 - (from + 1))) (rest.part (suc i) (omega arith))

between-other : (b : ℕ) (text : List ℕ) (from : ℕ) (places : List ℕ) → eqb b 45 ≡ false → Between text (from + 1) places → Between (b ∷ text) from places
between-other b text from places h rest =
    let split = slice_split-cons_no (λ c. eqb c 45) b text h in
    let some : 0 < length (parts text) = omega (arith, length-slice_split (λ c. eqb c 45) text) in
    record {
      many = rest.many ∙ sym (ap length split ∙ length-onto b (parts text) some);
      low = λ i l. omega (arith, rest.low i l);
      order = λ i l. order i l;
      high = λ i l. omega (arith, rest.high i l);
      part = λ i l. ap (λ found. slice_get found i) split ∙ part some i l;
    }
  where
    order : (i : ℕ) → i < length places → begin from places i ≤ get_or places i 0 - from
    order zero l = omega arith
    order (suc i) l = omega (arith, rest.low i (omega arith), rest.low (suc i) l, rest.order (suc i) l)

    part : 0 < length (parts text) → (i : ℕ) → i < length places → slice_get (onto_first b (parts text)) i ≡ Some (slice_range (b ∷ text) (begin from places i) (get_or places i 0 - from))
    part some zero l =
        let end : get_or places 0 0 - from ≡ suc (get_or places 0 0 - (from + 1)) = omega (arith, rest.low 0 l) in
        let width : suc (get_or places 0 0 - (from + 1)) - 0 ≡ suc (get_or places 0 0 - (from + 1) - 0) = omega arith in
        rw (end, width) (get-first b (parts text) _ (rest.part 0 l))
    part some (suc i) l =
        let start : get_or places i 0 + 1 - from ≡ suc (get_or places i 0 + 1 - (from + 1)) = omega (arith, rest.low i (omega arith)) in
        let end : get_or places (suc i) 0 - from ≡ suc (get_or places (suc i) 0 - (from + 1)) = omega (arith, rest.low (suc i) l) in
        rw (start, end, range-more b text (get_or places i 0 + 1 - (from + 1)) (get_or places (suc i) 0 - (from + 1))) (get-more b (parts text) i some ∙ rest.part (suc i) l)

between-end : (from : ℕ) → Between [] from (from ∷ [])
between-end from = record { many = refl; low = low; order = order; high = high; part = part }
  where
    low : (i : ℕ) → i < 1 → from ≤ get_or (from ∷ []) i 0
    low zero l = omega arith
    low (suc i) l = absurd (omega arith)

    order : (i : ℕ) → i < 1 → begin from (from ∷ []) i ≤ get_or (from ∷ []) i 0 - from
    order zero l = omega arith
    order (suc i) l = absurd (omega arith)

    high : (i : ℕ) → i < 1 → get_or (from ∷ []) i 0 ≤ from + 0
    high zero l = omega arith
    high (suc i) l = absurd (omega arith)

    part : (i : ℕ) → i < 1 → slice_get (parts []) i ≡ Some (slice_range [] (begin from (from ∷ []) i) (get_or (from ∷ []) i 0 - from))
    part zero l = let none : from - from ≡ 0 = omega arith in rw none refl
    part (suc i) l = absurd (omega arith)

between : (text : List ℕ) (from : ℕ) → is_clean text ≡ true → Between text from (border_places from (text ++ 41 ∷ []))
between [] from clean = rw closing-border (between-end from)
between (b ∷ text) from clean =
    let parts = and_parts (not (is_bracket b)) (is_clean text) clean in
    ⊎_elim
    (λ h. rw (hyphen-border b h) (between-hyphen b text from (border_places (from + 1) (text ++ 41 ∷ [])) h (between text (from + 1) parts.1)))
    (λ h. rw (other-no_border b h parts.0) (between-other b text from (border_places (from + 1) (text ++ 41 ∷ [])) h (between text (from + 1) parts.1)))
    (cases_Bool (eqb b 45))

-- all borders of the text
places-of : (text : List ℕ) → is_bracketed text ≡ true → border_places 0 text ≡ 0 ∷ border_places 1 (inside text ++ 41 ∷ [])
places-of text h = ap (border_places 0) (spelled_from text h) ∙ rw opening-border refl

cut-places : (inner places : List ℕ) → Between inner 1 places → AreBorders inner (0 ∷ places)
cut-places inner places rest zero l =
    record { part = rest.part 0 (omega arith); order = omega (arith, rest.low 0 (omega arith)); bound = omega (arith, rest.high 0 (omega arith)) }
cut-places inner places rest (suc i) l =
    let start : get_or places i 0 + 1 - 1 ≡ get_or places i 0 = omega arith in
    let next : suc i + 1 ≡ suc (suc i) = omega arith in
    rw next (record {
      part = rw start at (rest.part (suc i) (omega arith));
      order = omega (arith, rest.order (suc i) (omega arith), rest.low i (omega arith), rest.low (suc i) (omega arith));
      bound = omega (arith, rest.high (suc i) (omega arith));
    })

-- the first of these borders cut the text, too
cut-first : (inner borders : List ℕ) (most : ℕ) → AreBorders inner borders → AreBorders inner (take most borders)
cut-first inner borders most cut = λ place l.
    let few : place + 1 < most = omega (arith, length-take most borders) in
    let all : place + 1 < length borders = omega (arith, length-take most borders) in
    rw (get_or-take most borders place 0 (omega (arith, few)), get_or-take most borders (place + 1) 0 few) (cut place all)

-- what the borders of a text say of its fields
pub record IsCut (text : List ℕ) (borders : Borders) : Type 0 where
  pub counted : length borders.places.items + borders.others ≡ length (parts (inside text)) + 1
  pub few : length (parts (inside text)) ≤ length (inside text) + 1
  pub long : length (inside text) + 2 ≡ length text
  pub noted : AreBorders (inside text) borders.places.items

pub noted-cut : (text : List ℕ) (borders : Borders) → IsNoted text (length borders.places.items) borders → is_bracketed text ≡ true → IsCut text borders
noted-cut text borders noted h =
    let inner = border_places 1 (inside text ++ 41 ∷ []) in
    let rest = between (inside text) 1 (no_bracket_from text h) in
    let places = places-of text h in
    let most = length borders.places.items in
    let recorded : most ≡ min most (length (border_places 0 text)) = ap length noted.places ∙ length-take most (border_places 0 text) in
    let size : length (inside text) + 2 ≡ length text = omega (arith, ap length (spelled_from text h), length-append (inside text) (41 ∷ [])) in
    record {
      counted = omega (arith, noted.others, recorded, ap length places, rest.many);
      few = omega (arith, places-few 0 text, ap length places, rest.many, size);
      long = size;
      noted = subst (AreBorders (inside text)) (sym (noted.places ∙ ap (take most) places)) (cut-first (inside text) (0 ∷ inner) most (cut-places (inside text) inner rest));
    }

pub some-fields : (text : List ℕ) → 0 < length (fields_of text)
unfolding fields_of
some-fields text = omega (arith, length-slice_split (λ b. eqb b 45) (inside text))
