-- A word has a kind if and only if its bytes are those of a route.
use Rattle.std.proofs.Common.{◌≡◌, ℕ, zero, suc, ◌+◌, ◌<◌, Bool, true, false, ◌&&◌, ◌||◌, eqb, List, [], ◌∷◌, length, take, drop, get_or, codes, sym, refl, ap, ◌∙◌, arith, ⊎_elim}
use Rattle.std.specs.Prelude.{Option, Some, None, is_some, is_ok, if◌then◌else◌}
use Rattle.std.specs.List.{list_all, prefix_len}
use Rattle.std.specs.Option.{option_map, option_and_then, ok_or}
use Rattle.std.proofs.lemmas.Bool.{cases_Bool, false≢true, false_from_ne_true, and_parts, and_from, eqb-true, leb-true, ltb-true, or_left, or_right, or_cases}
use Rattle.std.proofs.lemmas.List.{drop-drop, drop_all, drop_more}
use Rattle.std.proofs.lemmas.List.Sums.{passes_at_first}
use lib.Pointwise.{bytes_decides}
use Rattle.fpl_text.specs.Bytes.{is_letter, is_digit, is_letter_or_digit}
use Rattle.fpl_items.specs.declared.route.Kind.{Kind}
use Rattle.fpl_items.specs.declared.route.Kind.TheVariants.{Dct, Vfr, Ifr, Point, Change, Climb, Designator, Other}
use Rattle.fpl_items.specs.declared.route.Element.{Element}
use Rattle.fpl_items.specs.Speeds.{is_letter_and_digits, is_speed, is_height, is_level, is_speed_and_level, speed_len}
use Rattle.fpl_items.specs.Kinds.{is_text, is_name, is_coordinate, is_point, before_stroke, is_change, height_len, is_climb_range, is_climb_speed, is_climb_from, is_climb, is_designator, is_route_byte, kind_of}
use Rattle.fpl_items.specs.declared.fault.ItemFault.TheVariants.{BadField}
use Rattle.fpl_items.specs.Routes.{RouteView, path_or_fault, is_route, elements_of}
use Rattle.fpl_text.specs.Words.{words_of}
use Rattle.fpl_items.proofs.ItemsLemmas.{list_all-prefix}

-- all bytes are those of a route
abbrev pub routed : List ℕ → Type 0
routed word = list_all is_route_byte word ≡ true

every : (p q : ℕ → Bool) (word : List ℕ) → ((b : ℕ) → p b ≡ true → q b ≡ true) → list_all p word ≡ true → list_all q word ≡ true
every p q [] step h = refl
every p q (b ∷ word) step h = let parts = and_parts _ _ h in and_from _ _ (step b parts.0) (every p q word step parts.1)

plain-byte : (b : ℕ) → is_letter_or_digit b ≡ true → is_route_byte b ≡ true
unfolding is_route_byte
plain-byte b h = rw h refl

letter-byte : (b : ℕ) → is_letter b ≡ true → is_route_byte b ≡ true
unfolding is_route_byte
letter-byte b h = rw h refl

digit-byte : (b : ℕ) → is_digit b ≡ true → is_route_byte b ≡ true
unfolding is_route_byte
digit-byte b h = or_left _ _ (or_right (is_letter b) (is_digit b) h)

-- a known byte
byte-is : (c b : ℕ) → is_route_byte c ≡ true → eqb b c ≡ true → is_route_byte b ≡ true
byte-is c b known same = ap is_route_byte (eqb-true b c same) ∙ known

digits : (word : List ℕ) → list_all is_digit word ≡ true → routed word
digits word h = every is_digit is_route_byte word digit-byte h

-- cut in two, a word has the bytes of both
cut : (n : ℕ) (word : List ℕ) → routed (take n word) → routed (drop n word) → routed word
cut zero word a b = b
cut (suc n) [] a b = refl
cut (suc n) (x ∷ word) a b = let parts = and_parts _ _ a in and_from _ _ parts.0 (cut n word parts.1 b)

-- a byte and what follows it
byte : (n : ℕ) (word : List ℕ) → n < length word → is_route_byte (get_or word n 0) ≡ true → routed (drop (n + 1) word) → routed (drop n word)
byte n word l good rest = rw (drop_more word n 0 l) (and_from _ _ good rest)

text-routed : (text word : List ℕ) → routed text → is_text text word ≡ true → routed word
text-routed text word good is = rw ((bytes_decides word text).0 is) good

name-routed : (word : List ℕ) → is_name word ≡ true → routed word
unfolding is_name
name-routed word h =
    let n = prefix_len is_letter word in
    let parts = and_parts _ _ (and_parts _ _ h).0 in
    cut n word (every is_letter is_route_byte (take n word) letter-byte (list_all-prefix is_letter word n (omega arith))) (digits (drop n word) parts.1)

either : (b c d : ℕ) → is_route_byte c ≡ true → is_route_byte d ≡ true → eqb b c || eqb b d ≡ true → is_route_byte b ≡ true
either b c d first second h = ⊎_elim (λ k. byte-is c b first k) (λ k. byte-is d b second k) (or_cases _ _ h)

coordinate-routed : (north east : ℕ) (word : List ℕ) → is_coordinate north east word ≡ true → routed word
unfolding is_coordinate is_route_byte is_letter is_digit
coordinate-routed north east word h =
    let last = and_parts _ _ h in
    let second = and_parts _ _ last.0 in
    let mid = and_parts _ _ second.0 in
    let first = and_parts _ _ mid.0 in
    let long : length word ≡ north + east + 2 = eqb-true (length word) (north + east + 2) first.0 in
    let none : drop (north + east + 1 + 1) word ≡ [] = drop_all (north + east + 1 + 1) word (omega (arith, long)) in
    let tail : routed (drop (north + east + 1) word) = byte (north + east + 1) word (omega (arith, long)) (either (get_or word (north + east + 1) 0) 69 87 refl refl last.1) (rw none refl) in
    let same : drop east (drop (north + 1) word) ≡ drop (north + east + 1) word = drop-drop east (north + 1) word ∙ ap (λ k. drop k word) (omega arith) in
    let behind : routed (drop (north + 1) word) = cut east (drop (north + 1) word) (digits (take east (drop (north + 1) word)) second.1) (rw same tail) in
    cut north word (digits (take north word) first.1) (byte north word (omega (arith, long)) (either (get_or word north 0) 78 83 refl refl mid.1) behind)

point-routed : (word : List ℕ) → is_point word ≡ true → routed word
unfolding is_point
point-routed word h =
    ⊎_elim
    (λ k. ⊎_elim (λ a. name-routed word a) (λ b. coordinate-routed 2 3 word b) (or_cases _ _ k))
    (λ k. coordinate-routed 4 5 word k)
    (or_cases _ _ h)

marked-routed : (letter n : ℕ) (text : List ℕ) → is_route_byte letter ≡ true → is_letter_and_digits letter n text ≡ true → routed text
unfolding is_letter_and_digits
marked-routed letter n text good h =
    let parts = and_parts _ _ h in
    let front = and_parts _ _ parts.0 in
    let long : length text ≡ n + 1 = eqb-true (length text) (n + 1) front.0 in
    byte 0 text (omega (arith, long)) (byte-is letter (get_or text 0 0) good front.1) (digits (drop 1 text) parts.1)

pub speed-routed : (text : List ℕ) → is_speed text ≡ true → routed text
unfolding is_speed is_route_byte is_letter is_digit
speed-routed text h =
    ⊎_elim
    (λ k. ⊎_elim (λ a. marked-routed 75 4 text refl a) (λ b. marked-routed 78 4 text refl b) (or_cases _ _ k))
    (λ k. marked-routed 77 3 text refl k)
    (or_cases _ _ h)

height-routed : (text : List ℕ) → is_height text ≡ true → routed text
unfolding is_height is_route_byte is_letter is_digit
height-routed text h =
    ⊎_elim
    (λ k. ⊎_elim
    (λ j. ⊎_elim (λ a. marked-routed 70 3 text refl a) (λ b. marked-routed 83 4 text refl b) (or_cases _ _ j))
    (λ j. marked-routed 65 3 text refl j)
    (or_cases _ _ k))
    (λ k. marked-routed 77 4 text refl k)
    (or_cases _ _ h)

level-routed : (text : List ℕ) → is_level text ≡ true → routed text
unfolding is_level is_route_byte is_letter is_digit
level-routed text h =
    ⊎_elim (λ a. height-routed text a) (λ b. text-routed (codes "VFR") text refl b) (or_cases _ _ h)

speed_and_level-routed : (text : List ℕ) → is_speed_and_level text ≡ true → routed text
unfolding is_speed_and_level
speed_and_level-routed text h =
    let parts = and_parts _ _ h in
    cut (speed_len text) text (speed-routed _ parts.0) (level-routed _ parts.1)

-- a text up to its first stroke, the stroke, and what follows it
at-stroke : (text : List ℕ) → before_stroke text < length text → routed (take (before_stroke text) text) → routed (drop (before_stroke text + 1) text) → routed text
unfolding is_route_byte is_letter is_digit
at-stroke text inside front behind =
    cut (before_stroke text) text front
    (byte (before_stroke text) text inside (byte-is 47 _ refl (passes_at_first (λ b. eqb b 47) text 0 inside)) behind)

change-routed : (word : List ℕ) → is_change word ≡ true → routed word
unfolding is_change
change-routed word h =
    let parts = and_parts _ _ h in
    let front = and_parts _ _ parts.0 in
    at-stroke word (ltb-true _ _ front.0) (point-routed _ front.1) (speed_and_level-routed _ parts.1)

range-routed : (text : List ℕ) → is_climb_range text ≡ true → routed text
unfolding is_climb_range is_route_byte is_letter is_digit
range-routed text h =
    let parts = and_parts _ _ h in
    let behind = drop (height_len text) text in
    cut (height_len text) text (height-routed _ parts.0)
    (⊎_elim (λ a. height-routed behind a) (λ b. text-routed (codes "PLUS") behind refl b)
    (or_cases (is_height behind) (is_text (codes "PLUS") behind) parts.1))

climb_speed-routed : (text : List ℕ) → is_climb_speed text ≡ true → routed text
unfolding is_climb_speed
climb_speed-routed text h =
    let parts = and_parts _ _ h in
    cut (speed_len text) text (speed-routed _ parts.0) (range-routed _ parts.1)

climb_from-routed : (text : List ℕ) → is_climb_from text ≡ true → routed text
unfolding is_climb_from
climb_from-routed text h =
    let parts = and_parts _ _ h in
    let front = and_parts _ _ parts.0 in
    at-stroke text (ltb-true _ _ front.0) (point-routed _ front.1) (climb_speed-routed _ parts.1)

climb-routed : (word : List ℕ) → is_climb word ≡ true → routed word
unfolding is_climb is_route_byte is_letter is_digit
climb-routed word h =
    let parts = and_parts _ _ h in
    let second = and_parts _ _ parts.0 in
    let first = and_parts _ _ second.0 in
    let long = leb-true 2 (length word) first.0 in
    byte 0 word (omega (arith, long)) (byte-is 67 _ refl first.1)
    (byte 1 word (omega (arith, long)) (byte-is 47 _ refl second.1) (climb_from-routed (drop 2 word) parts.1))

designator-routed : (word : List ℕ) → is_designator word ≡ true → routed word
unfolding is_designator
designator-routed word h =
    let parts = and_parts _ _ (and_parts _ _ h).0 in
    every is_letter_or_digit is_route_byte word plain-byte parts.1

-- one of these tests, the last of which passes, gives a kind
some-kind : (a b c d e f g h last : Bool) → last ≡ true
    → is_some (if a then Some Dct else (if b then Some Vfr else (if c then Some Ifr else (if d then Some Other else (if e then Some Point else (if f then Some Change else (if g then Some Climb else (if h then Some Designator else (if last then Some Other else None))))))))) ≡ true
some-kind true b c d e f g h last k = refl
some-kind false true c d e f g h last k = refl
some-kind false false true d e f g h last k = refl
some-kind false false false true e f g h last k = refl
some-kind false false false false true f g h last k = refl
some-kind false false false false false true g h last k = refl
some-kind false false false false false false true h last k = refl
some-kind false false false false false false false true last k = refl
some-kind false false false false false false false false last k = rw k refl

-- a word has a kind if and only if all its bytes are those of a route
pub word-kind : (word : List ℕ) → is_some (kind_of word) ≡ list_all is_route_byte word
unfolding kind_of is_route_byte is_letter is_digit
word-kind word = ⊎_elim (λ h. found h ∙ sym h) (λ h. lost h ∙ sym h) (cases_Bool (list_all is_route_byte word))
  where
    found : list_all is_route_byte word ≡ true → is_some (kind_of word) ≡ true
    found h =
        some-kind (is_text (codes "DCT") word) (is_text (codes "VFR") word) (is_text (codes "IFR") word)
        (is_text (codes "OAT") word || is_text (codes "GAT") word) (is_point word) (is_change word) (is_climb word)
        (is_designator word) (list_all is_route_byte word) h

    not-so : list_all is_route_byte word ≡ false → (test : Bool) → (test ≡ true → routed word) → test ≡ false
    not-so h test all = false_from_ne_true test (λ k. absurd (false≢true (sym h ∙ all k)))

    lost : list_all is_route_byte word ≡ false → is_some (kind_of word) ≡ false
    lost h =
        rw (
          not-so h (is_text (codes "DCT") word) (text-routed (codes "DCT") word refl),
          not-so h (is_text (codes "VFR") word) (text-routed (codes "VFR") word refl),
          not-so h (is_text (codes "IFR") word) (text-routed (codes "IFR") word refl),
          not-so h (is_text (codes "OAT") word) (text-routed (codes "OAT") word refl),
          not-so h (is_text (codes "GAT") word) (text-routed (codes "GAT") word refl),
          not-so h (is_point word) (point-routed word),
          not-so h (is_change word) (change-routed word),
          not-so h (is_climb word) (climb-routed word),
          not-so h (is_designator word) (designator-routed word),
          h,
        ) refl

-- there are elements if each word has the bytes of a route
pub words-kinds : (from : ℕ) (words : List (List ℕ)) → is_some (elements_of from words) ≡ list_all (list_all is_route_byte) words
words-kinds from [] = refl
words-kinds from (word ∷ words) =
    both (kind_of word) (elements_of (from + length word + 1) words)
    ∙ rw (word-kind word, words-kinds (from + length word + 1) words) refl
  where
    both : (kind : Option Kind) (more : Option (List Element))
        → is_some (option_and_then (λ k. option_map (λ elements. record { kind = k; from = from; to = from + length word } ∷ elements) more) kind) ≡ (is_some kind && is_some more)
    both None more = refl
    both (Some k) None = refl
    both (Some k) (Some elements) = refl

-- a field without a word
pub none-routed : (field : List ℕ) → words_of field ≡ [] → is_route field ≡ false
unfolding path_or_fault
none-routed field none = rw none refl

-- a field with its words
pub field-routed : (field first : List ℕ) (words : List (List ℕ)) → words_of field ≡ first ∷ words → is_route field ≡ (is_speed_and_level first && list_all (list_all is_route_byte) words)
unfolding path_or_fault
field-routed field first words some =
    rw some (told (is_speed_and_level first) (elements_of (length first + 1) words) ∙ rw (words-kinds (length first + 1) words) refl)
  where
    told : (good : Bool) (found : Option (List Element))
        → is_ok {T = RouteView} (ok_or (if good then option_map (λ elements. record { speed = take (speed_len first) first; level = drop (speed_len first) first; elements = elements }) found else None) (BadField 15)) ≡ (good && is_some found)
    told true None = refl
    told true (Some elements) = refl
    told false None = refl
    told false (Some elements) = refl

-- if the first word is a speed and a level, all words are those of a route just if the field is one
pub field-path : (field first : List ℕ) (words : List (List ℕ)) → words_of field ≡ first ∷ words → is_speed_and_level first ≡ true → list_all (list_all is_route_byte) (words_of field) ≡ is_route field
field-path field first words are said =
    ap (λ (q : List (List ℕ)). list_all (list_all is_route_byte) q) are
    ∙ (ap (λ (q : Bool). q && list_all (list_all is_route_byte) words) (speed_and_level-routed first said ∙ sym said) ∙ sym (field-routed field first words are))
