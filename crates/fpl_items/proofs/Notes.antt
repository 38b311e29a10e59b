-- Recording estimates, one after the other.
use Rattle.std.proofs.Common.{◌≡◌, ℕ, ◌+◌, ◌-◌, ◌<◌, ◌≤◌, arith, ◌&&◌, nat_le, Bool, true, false, if◌then◌else◌, List, [], ◌∷◌, ◌++◌, length, take, drop, get_or, refl, Option, Some, None, sym, ap, ◌∙◌}
use Rattle.std.specs.Prelude.{replicate, slice_index}
use Rattle.std.proofs.lemmas.Bool.{false≢true, false_from_ne_true, le-leb, lt-leb, leb-true, and_parts}
use Rattle.std.proofs.Math.ListN.{set}
use Rattle.std.proofs.Math.Seq.{get_or-append_right, take-append_seam, set-append_seam}
use Rattle.std.proofs.lemmas.Grind.{replicate_next}
use Rattle.std.proofs.lemmas.List.{length-replicate, drop-replicate, set-append_right}
use lib.Pointwise.{bytes_decides}
use Rattle.std.specs.Option.{option_or}
use Rattle.fpl_text.specs.Times.{elapsed_time}
use Rattle.fpl_items.specs.Kinds.{is_text}
use Rattle.fpl_items.specs.declared.estimate.Estimate.{Estimate}
use Rattle.fpl_items.specs.Points.{may_have, stored_name}
use Rattle.fpl_items.specs.Estimates.{is_for, first_for, AddsFirst, HasPlacesOf}

-- two tests that follow from one another
same-test : (b c : Bool) → (b ≡ true → c ≡ true) → (c ≡ true → b ≡ true) → b ≡ c
same-test true c f g = sym (f refl)
same-test false true f g = g refl
same-test false false f g = refl

pub if-both : (b c : Bool) → b ≡ true → (b && c) ≡ c
if-both true c e = refl
if-both false c e = absurd (false≢true e)

-- a name written over twelve zeros, and its length over the last, are its stored form
pub name-kept : (place : List ℕ) → length place ≤ 11 → set (place ++ drop (length place) (0 ∷ 0 ∷ 0 ∷ 0 ∷ 0 ∷ 0 ∷ 0 ∷ 0 ∷ 0 ∷ 0 ∷ 0 ∷ 0 ∷ [])) 11 (length place) ≡ stored_name place
unfolding stored_name
name-kept place short =
    let n : ℕ = length place in
    let zeros : List ℕ = replicate (11 - n) 0 in
    let left : 12 - n ≡ 11 - n + 1 = omega arith in
    let behind : drop n (0 ∷ 0 ∷ 0 ∷ 0 ∷ 0 ∷ 0 ∷ 0 ∷ 0 ∷ 0 ∷ 0 ∷ 0 ∷ 0 ∷ []) ≡ zeros ++ 0 ∷ [] =
    drop-replicate n 12 0 ∙ ap (λ m. replicate m 0) left ∙ replicate_next (11 - n) 0 in
    ap (λ zs. set (place ++ zs) 11 n) behind
    ∙ set-append_right place (zeros ++ 0 ∷ []) n 11 n refl short
    ∙ ap (λ zs. place ++ zs) (ap (λ i. set (zeros ++ 0 ∷ []) i n) (sym (length-replicate (11 - n) 0)) ∙ set-append_seam zeros 0 [] n)

-- four letters, seven zeros and a four are the stored form of a name of four letters
pub name_of_four : (place : List ℕ) → length place ≡ 4
    → slice_index place 0 ∷ slice_index place 1 ∷ slice_index place 2 ∷ slice_index place 3 ∷ 0 ∷ 0 ∷ 0 ∷ 0 ∷ 0 ∷ 0 ∷ 0 ∷ 4 ∷ [] ≡ stored_name place
unfolding stored_name
name_of_four [] four = absurd (omega arith)
name_of_four (a ∷ []) four = absurd (omega arith)
name_of_four (a ∷ b ∷ []) four = absurd (omega arith)
name_of_four (a ∷ b ∷ c ∷ []) four = absurd (omega arith)
name_of_four (a ∷ b ∷ c ∷ d ∷ []) four = refl
name_of_four (a ∷ b ∷ c ∷ d ∷ e ∷ place) four = absurd (omega arith)

-- the last byte of a stored form is the length of its name
name-last : (place : List ℕ) → length place ≤ 11 → get_or (stored_name place) 11 0 ≡ length place
unfolding stored_name
name-last place short =
    let zeros : List ℕ = replicate (11 - length place) 0 in
    let none : 11 - length place - length zeros ≡ 0 = omega (arith, length-replicate {A = ℕ} (11 - length place) 0) in
    get_or-append_right place (zeros ++ length place ∷ []) 11 0 short
    ∙ get_or-append_right zeros (length place ∷ []) (11 - length place) 0 (omega (arith, length-replicate {A = ℕ} (11 - length place) 0))
    ∙ ap (λ n. get_or (length place ∷ []) n 0) none

-- and its prefix of that length is the name
name-front : (place : List ℕ) → take (length place) (stored_name place) ≡ place
unfolding stored_name
name-front place = take-append_seam place _

-- two names of one stored form are the same
same-place : (place other : List ℕ) → length place ≤ 11 → length other ≤ 11 → stored_name place ≡ stored_name other → place ≡ other
same-place place other short less same =
    let long : length place ≡ length other = sym (name-last place short) ∙ ap (λ name. get_or name 11 0) same ∙ name-last other less in
    sym (name-front place) ∙ ap (take (length place)) same ∙ ap (λ n. take n (stored_name other)) long ∙ name-front other

-- an estimate is for the point that it is of, and for no other
pub for-place : (name place : List ℕ) (note : Estimate) → length place ≤ 11 → note.name ≡ stored_name place → is_for name note ≡ is_text name place
unfolding is_for
for-place name place note short kept =
    same-test (is_for name note) (is_text name place)
    (λ is.
    let parts = and_parts (nat_le (length name) 11) (is_text (stored_name name) note.name) is in
    let same : stored_name place ≡ stored_name name = sym kept ∙ (bytes_decides note.name (stored_name name)).0 parts.1 in
    (bytes_decides place name).1 (same-place place name short (leb-true (length name) 11 parts.0) same))
    (λ is.
    let same : place ≡ name = (bytes_decides place name).0 is in
    if-both (nat_le (length name) 11) (is_text (stored_name name) note.name) (le-leb (length name) 11 (omega (arith, short, ap length same)))
    ∙ (bytes_decides note.name (stored_name name)).1 (kept ∙ ap stored_name same))

-- no estimate is for a longer name
pub none-for-long : (place : List ℕ) (notes : List Estimate) → 11 < length place → first_for place notes ≡ None
unfolding is_for
none-for-long place [] long = refl
none-for-long place (e ∷ es) long = rw (lt-leb (length place) 11 long) (none-for-long place es long)

-- either way of a test, the two sides agree
note-is-word : (b c : Bool) (time : Option ℕ) (minutes : ℕ) (rest : Option ℕ) → b ≡ c → time ≡ Some minutes → option_or (if b then Some minutes else None) rest ≡ (if c then time else rest)
note-is-word b c time minutes rest e f = rw (e, f) (elim c as (λ v. option_or (if v then Some minutes else None) rest ≡ (if v then Some minutes else rest)) [ true ↦ refl | false ↦ refl ])

-- before both sides
if-or : (b : Bool) (minutes : ℕ) (x y v w : Option ℕ) → option_or x v ≡ option_or y w → option_or (if b then Some minutes else x) v ≡ option_or (if b then Some minutes else y) w
if-or true minutes x y v w e = refl
if-or false minutes x y v w e = e

-- one estimate more says what one word more says
pub one-more : (notes : List Estimate) (note : Estimate) (word : List ℕ) → length (take (length word - 4) word) ≤ 11 → note.name ≡ stored_name (take (length word - 4) word) → elapsed_time (drop (length word - 4) word) ≡ Some note.minutes → AddsFirst notes (notes ++ note ∷ []) (word ∷ [])
one-more [] note word short kept time = λ place words. note-is-word _ _ _ _ _ (for-place place (take (length word - 4) word) note short kept) time
one-more (n ∷ ns) note word short kept time = λ place words. if-or (is_for place n) n.minutes _ _ _ _ (one-more ns note word short kept time place words)

-- if no estimate is for a point, one more is not either
none-more : (place : List ℕ) (notes : List Estimate) (note : Estimate) → is_for place note ≡ false → first_for place notes ≡ None → first_for place (notes ++ note ∷ []) ≡ None
none-more place [] note other none = rw other refl
none-more place (n ∷ ns) note other none = none-after (is_for place n) n.minutes _ _ (none-more place ns note other) none
  where
    none-after : (b : Bool) (minutes : ℕ) (x y : Option ℕ) → (x ≡ None → y ≡ None) → (if b then Some minutes else x) ≡ None → (if b then Some minutes else y) ≡ None
    none-after true minutes x y step h = h
    none-after false minutes x y step h = step h

-- the point of one estimate more, with the points from before
pub place-noted : (own : List ℕ) (places more : ℕ) (before after : List Estimate) (note : Estimate) → length own ≤ 11 → note.name ≡ stored_name own → after ≡ before ++ note ∷ [] → may_have more own ≡ true
    → ((other : List ℕ) → may_have places other ≡ true → may_have more other ≡ true) → HasPlacesOf places before → HasPlacesOf more after
place-noted own places more before after note short named pushed added kept had place without =
    let before_without : may_have places place ≡ false = false_from_ne_true _ (λ is. absurd (false≢true (sym without ∙ kept place is))) in
    let other : is_for place note ≡ false = for-place place own note short named ∙ false_from_ne_true _ (λ is. absurd (false≢true (sym without ∙ ap (may_have more) (sym ((bytes_decides _ _).0 is)) ∙ added))) in
    rw pushed (none-more place before note other (had place before_without))

-- one of three that is there
or-or : (a b c : Option ℕ) → option_or (option_or a b) c ≡ option_or a (option_or b c)
or-or None b c = refl
or-or (Some x) b c = refl
