-- The bits of words in a table by points.
use Rattle.std.proofs.Common.{◌≡◌, ℕ, ◌+◌, ◌*◌, ◌%◌, ◌<◌, ◌≤◌, length, Bool, true, false, cond, not, ◌&&◌, ltb, List, Option, Some, None, refl, sym, ap, subst, ◌∙◌, ◌⊎◌, inl, inr, arith}
use Rattle.std.specs.Prelude.{bit_or, slice_index, IsSome, codes}
use Rattle.std.specs.Int.{bit_at}
use Rattle.std.specs.Option.{option_and_then}
use Rattle.std.specs.Str.{bytes_eq}
use Rattle.std.proofs.lemmas.Bool.{false≢true, true≢false, cases_eq, ltb-true, ltb-false}
use Rattle.std.proofs.lemmas.Nat.Bits.{bit_at-lt, bit_at_or}
use Rattle.std.proofs.Math.Nat.{mod-lt}
use lib.Pointwise.{bytes_decides}
use Rattle.fpl_text.specs.Moments.{moment_within}
use Rattle.fpl_text.specs.Words.{words_of}
use Rattle.fpl_items.specs.Items.{items_of, elapsed_to}
use Rattle.fpl_message.specs.declared.order.Spot.{Spot}
use Rattle.fpl_message.specs.declared.order.Spot.TheVariants.{Dep, Arr, Via}
use Rattle.fpl_items.specs.declared.estimate.Estimate.{Estimate}
use Rattle.flow_plans.specs.Plans.{PlanView, is_filed, is_visual}
use Rattle.fpl_items.specs.Points.{bit_of, may_have}
use Rattle.fpl_items.specs.Estimates.{first_for, AreEstimatesOf}
use Rattle.flow_plans.specs.Entries.{take_off, elapsed_at, entry_at, in_period, subject}
use Rattle.flow_plans.specs.Near.{table_row, word_at, HasBitsOf}

pub or-first : (a b w : ℕ) → HasBitsOf a w → HasBitsOf (bit_or a b) w
or-first a b w h i l s = (let e = h i l s in omega (arith, bit_at_or a b i, bit_at-lt b i, e))

pub or-second : (a b w : ℕ) → HasBitsOf b w → HasBitsOf (bit_or a b) w
or-second a b w h i l s = (let e = h i l s in omega (arith, bit_at_or a b i, bit_at-lt a i, e))

pub bits-same : (a w : ℕ) → a ≡ w → HasBitsOf a w
bits-same a w e i l s = ap (λ v. bit_at v i) e ∙ s

pub bit-below : (place : List ℕ) → bit_of place < 64
unfolding bit_of
bit-below place = cases (ltb (length place) 4) where
  cases : (b : Bool) → cond b 0 ((7 * slice_index place 1 + 2 * slice_index place 2 + slice_index place 3) % 64) < 64
  cases true = omega arith
  cases false = mod-lt (7 * slice_index place 1 + 2 * slice_index place 2 + slice_index place 3) (omega arith)

-- the words of the bits before j were taken in
abbrev pub AreTaken : List ℕ → ℕ → ℕ → ℕ → Type 0
AreTaken table places j words = (b : ℕ) → b < j → b < 64 → bit_at places b ≡ 1 → HasBitsOf words (word_at table (128 + b))

-- none of the next bits is set
pub taken-past : (table : List ℕ) (places i j words : ℕ) → ((b : ℕ) → i ≤ b → b < j → bit_at places b ≡ 0) → AreTaken table places i words → AreTaken table places j words
taken-past table places i j words none taken b l h s = cases (ltb b i) refl where
  cases : (c : Bool) → ltb b i ≡ c → HasBitsOf words (word_at table (128 + b))
  cases true q = taken b (ltb-true b i q) h s
  cases false q =
      let zero = none b (ltb-false b i q) l in
      let no : 0 ≡ 1 = sym zero ∙ s in
      absurd (omega (arith, no))

-- the word of one more was taken in
pub taken-one : (table : List ℕ) (places j words word : ℕ) → word ≡ word_at table (128 + j) → AreTaken table places j words → AreTaken table places (j + 1) (bit_or words word)
taken-one table places j words word e taken b l h s = cases (cases_eq b j) where
  cases : (b ≡ j) ⊎ (b ≡ j → ⊥) → HasBitsOf (bit_or words word) (word_at table (128 + b))
  cases (inl q) =
      let B : ℕ → Type 0 = λ k. HasBitsOf (bit_or words word) (word_at table (128 + k)) in
      subst B (sym q) (or-second words word (word_at table (128 + j)) (bits-same word (word_at table (128 + j)) e))
  cases (inr ne) = or-first words word (word_at table (128 + b)) (taken b (omega (arith, l, ne)) h s)

-- a point with an estimate has its bit
pub some-has : (field place : List ℕ) (places : ℕ) (notes : List Estimate) → AreEstimatesOf (items_of (words_of field)) notes
    → ((other : List ℕ) → IsSome (first_for other notes) → may_have places other ≡ true) → IsSome (elapsed_to place (items_of (words_of field))) → may_have places place ≡ true
some-has field place places notes are has some =
    let S : Option ℕ → Type 0 = λ o. IsSome o in
    has place (subst S (sym (are place)) some)

pub some-first : (o : Option ℕ) (f : ℕ → Option ℕ) → IsSome (option_and_then f o) → IsSome o
some-first None f h = absurd (false≢true h)
some-first (Some m) f h = refl

pub some-if : (b : Bool) (o : Option ℕ) → IsSome (cond b o None) → b ≡ true
some-if true o h = refl
some-if false o h = absurd (false≢true h)

pub some-then : (b : Bool) (o : Option ℕ) → IsSome (cond b o None) → IsSome o
some-then true o h = h
some-then false o h = absurd (false≢true h)

some-in : (start end : ℕ) (o : Option ℕ) → IsSome (in_period start end o) → IsSome o
some-in start end None h = absurd (false≢true h)
some-in start end (Some m) h = refl

-- a flight to which a regulation applies has an entry there
pub subject-enters : (taxi start end : ℕ) (spot : Spot) (p : PlanView) → IsSome (subject taxi spot start end p) → IsSome (entry_at taxi spot p)
unfolding subject
subject-enters taxi start end spot p h =
    some-in start end (entry_at taxi spot p) (some-then (is_filed p.state && not (is_visual p.rules) && not (bytes_eq p.key.dep (codes "AFIL")) && not p.exempt) (in_period start end (entry_at taxi spot p)) h)

-- the flight comes there
pub comes-there : (taxi near : ℕ) (spot : Spot) (p : PlanView) (table : List ℕ) → HasBitsOf near (word_at table (bit_of p.key.dep)) → HasBitsOf near (word_at table (64 + bit_of p.key.dest))
    → ((place : List ℕ) → IsSome (elapsed_at place p) → HasBitsOf near (word_at table (128 + bit_of place))) → IsSome (entry_at taxi spot p) → HasBitsOf near (word_at table (table_row spot))
unfolding entry_at table_row
comes-there taxi near (Dep place) p table dep dest via h =
    let same : p.key.dep ≡ place = (bytes_decides p.key.dep place).0 (some-if (bytes_eq p.key.dep place) (Some (take_off taxi p)) h) in
    let B : List ℕ → Type 0 = λ v. HasBitsOf near (word_at table (bit_of v)) in
    subst B same dep
comes-there taxi near (Arr place) p table dep dest via h =
    let same : p.key.dest ≡ place = (bytes_decides p.key.dest place).0 (some-if (bytes_eq p.key.dest place) (moment_within (take_off taxi p + p.elapsed)) h) in
    let B : List ℕ → Type 0 = λ v. HasBitsOf near (word_at table (64 + bit_of v)) in
    subst B same dest
comes-there taxi near (Via place) p table dep dest via h = via place (some-first (elapsed_at place p) (λ elapsed. moment_within (take_off taxi p + elapsed)) h)

-- no regulation applies to a plan that isn't filed, or is exempt
pub not-filed : (taxi start end near : ℕ) (spot : Spot) (p : PlanView) (table : List ℕ) → is_filed p.state ≡ false → IsSome (subject taxi spot start end p) → HasBitsOf near (word_at table (table_row spot))
unfolding subject
not-filed taxi start end near spot p table never h =
    absurd (out (is_filed p.state) (not (is_visual p.rules)) (not (bytes_eq p.key.dep (codes "AFIL"))) (not p.exempt) never (some-if (is_filed p.state && not (is_visual p.rules) && not (bytes_eq p.key.dep (codes "AFIL")) && not p.exempt) (in_period start end (entry_at taxi spot p)) h)) where
      out : (a b c d : Bool) → a ≡ false → (a && b && c && d) ≡ true → ⊥
      out true b c d n e = true≢false n
      out false b c d n e = false≢true e

pub exempted : (taxi start end near : ℕ) (spot : Spot) (p : PlanView) (table : List ℕ) → p.exempt ≡ true → IsSome (subject taxi spot start end p) → HasBitsOf near (word_at table (table_row spot))
unfolding subject
exempted taxi start end near spot p table is h =
    absurd (out (is_filed p.state) (not (is_visual p.rules)) (not (bytes_eq p.key.dep (codes "AFIL"))) p.exempt is (some-if (is_filed p.state && not (is_visual p.rules) && not (bytes_eq p.key.dep (codes "AFIL")) && not p.exempt) (in_period start end (entry_at taxi spot p)) h)) where
      out : (a b c d : Bool) → d ≡ true → (a && b && c && not d) ≡ true → ⊥
      out true true true true n e = false≢true e
      out true true true false n e = false≢true n
      out true true false d n e = false≢true e
      out true false c d n e = false≢true e
      out false b c d n e = false≢true e
