-- The changes of rows if it is known which plans may have changed.
use Rattle.std.proofs.Common.{◌≡◌, ◌∙◌, ◌+◌, ◌-◌, ◌<◌, ◌≤◌, ℕ, zero, suc, List, [], ◌∷◌, ◌++◌, length, map, take, drop, get_or, refl, sym, ap, arith, Bool, true, false, ◌||◌, eqb, Option, Some, None, IfSome, slice_get}
use Rattle.std.specs.Option.{option_map, option_map_or, option_and_then}
use Rattle.std.specs.List.{All, AllByRecursion, filter_map, cons_option}
use Rattle.std.specs.List.Sorted.{IsStrictlyIncreasing}
use Rattle.std.proofs.lemmas.Bool.{eq-eqb, eqb-true, true≢false}
use Rattle.std.proofs.lemmas.List.{take_more}
use Rattle.std.proofs.lemmas.List.Elements.{recursion_from_All, filter_map-append}
use Rattle.std.proofs.lemmas.Slice.Eq.{bytes_eq-Decides}
use Rattle.flow_plans.specs.declared.plan.PlanState.{PlanState}
use Rattle.flow_plans.specs.declared.plan.PlanState.TheVariants as state
use Rattle.flow_plans.specs.declared.plan.Status.{Status}
use Rattle.flow_plans.specs.Plans.{PlanView, status_of, status_at}
use Rattle.flow_slots.specs.Assignment.{is_in}
use Rattle.flow_regulations.specs.declared.notice.Told.{Told}
use Rattle.flow_traffic.specs.Traffic.{Traffic, told_of}
use Rattle.flow_traffic.specs.Changes.{ChangeAtMost}
use Rattle.flow_core.specs.declared.row.Row.{Row}
use Rattle.flow_core.specs.declared.change.Change.{Change}
use Rattle.flow_core.specs.State.{rows_of}
use Rattle.flow_core.specs.Changes.{same_state, same_told, same_row, change_to, changes_from, changes_between, change_at, row_with, rows_in}

-- ---- rows by their parts

row-get : (ps : List PlanView) (ts : List (Option Told)) (i : ℕ) → length ts ≡ length ps
    → slice_get (rows_of ps ts) i ≡ option_map (row_with (option_map_or (λ t. t) (slice_get ts i) None)) (option_map status_of (slice_get ps i))
row-get [] ts i e = refl
row-get (p ∷ ps) [] i e = absurd (omega (arith, e))
row-get (p ∷ ps) (t ∷ ts) zero e = refl
row-get (p ∷ ps) (t ∷ ts) (suc i) e = row-get ps ts i (omega (arith, e))

pub row-was : (t : Traffic) (number : ℕ) (told : Option Told) (status : Option Status) → length t.told ≡ length t.plans → told ≡ told_of t.told number → status ≡ status_at t.plans number
    → option_map (row_with told) status ≡ slice_get (rows_in t) (number - 1)
row-was t number told status each told_is status_is =
    ap (λ (u : Option Told). option_map (row_with u) status) told_is
    ∙ ap (option_map (row_with (told_of t.told number))) status_is
    ∙ sym (row-get t.plans t.told (number - 1) each)

-- ---- a row is as itself

state-same : (s : PlanState) → same_state s s ≡ true
state-same state.Filed = refl
state-same state.Departed = refl
state-same state.Cancelled = refl

told-same : (t : Option Told) → same_told t t ≡ true
told-same None = refl
told-same (Some t) = rw (eq-eqb t.ctot t.ctot refl, (bytes_eq-Decides t.regulation t.regulation).1 refl) refl

row-same : (r : Row) → same_row r r ≡ true
unfolding same_row
row-same r = rw (state-same r.state, eq-eqb r.off_block r.off_block refl, told-same r.told) refl

no-change : (n : ℕ) (o : Option Row) → option_and_then (change_to n o) o ≡ None
no-change n None = refl
no-change n (Some r) = rw (row-same r) refl

-- a plan that is as it was has no change
unchanged : (before after : Traffic) (numbers : List ℕ) → ChangeAtMost numbers before after → length before.told ≡ length before.plans → length after.told ≡ length after.plans
    → (n : ℕ) → 0 < n → is_in n numbers ≡ false → change_at (rows_in before) (rows_in after) n ≡ None
unchanged before after numbers h each_before each n some out =
    let same : slice_get (rows_in after) (n - 1) ≡ slice_get (rows_in before) (n - 1) =
    sym (row-was after n (told_of before.told n) (status_at before.plans n) each (sym (h.told n some out)) (sym (h.status n some out)))
    ∙ row-was before n (told_of before.told n) (status_at before.plans n) each_before refl refl in
    ap (option_and_then (change_to n (slice_get (rows_in before) (n - 1)))) same ∙ no-change n (slice_get (rows_in before) (n - 1))

-- nor has one that is as it was with the same slot issued
alike : (t u : Option Told) (s : Status) → same_told t u ≡ true → same_row (row_with t s) (row_with u s) ≡ true
unfolding same_row
alike t u s same = rw (state-same s.state, eq-eqb s.off_block s.off_block refl, same) refl

still : (n : ℕ) (t u : Option Told) (status : Option Status) → same_told t u ≡ true → option_and_then (change_to n (option_map (row_with t) status)) (option_map (row_with u) status) ≡ None
still n t u None same = refl
still n t u (Some s) same = rw (alike t u s same) refl

stands-still : (before after : Traffic) (n : ℕ) (told : Option Told) → before.plans ≡ after.plans → length before.told ≡ length before.plans → length after.told ≡ length after.plans
    → told ≡ told_of before.told n → same_told told (told_of after.told n) ≡ true → None ≡ change_at (rows_in before) (rows_in after) n
stands-still before after n told plans each_before each told_is same =
    let status : Option Status = status_at after.plans n in
    let was : option_map (row_with told) status ≡ slice_get (rows_in before) (n - 1) =
    row-was before n told status each_before told_is (ap (λ (ps : List PlanView). status_at ps n) (sym plans)) in
    let is : option_map (row_with (told_of after.told n)) status ≡ slice_get (rows_in after) (n - 1) = row-was after n (told_of after.told n) status each refl refl in
    sym (still n told (told_of after.told n) status same)
    ∙ ap (λ (o : Option Row). option_and_then (change_to n o) (option_map (row_with (told_of after.told n)) status)) was
    ∙ ap (λ (o : Option Row). option_and_then (change_to n (slice_get (rows_in before) (n - 1))) o) is

-- ---- the numbers of the changed plans, one by one

abbrev at-from : ℕ → List Row → List Row → ℕ → Option Change
at-from k before after n = option_and_then (change_to n (slice_get before (n - k))) (slice_get after (n - k))

abbrev Rises : ℕ → List ℕ → Type 0
Rises k [] = Unit {0}
Rises k (n ∷ ns) = (k ≤ n) × Rises (n + 1) ns

rises : (k : ℕ) (ns : List ℕ) → IsStrictlyIncreasing ns → (0 < length ns → k ≤ get_or ns 0 0) → Rises k ns
rises k [] h first = tt
rises k (n ∷ ns) h first = (
  first (omega arith),
  rises (n + 1) ns (λ j within. let e : suc j + 1 ≡ suc (j + 1) = omega arith in rw e at (h (suc j) (omega (arith, within))))
      (λ some. omega (arith, h 0 (omega (arith, some)))),
)

rises-down : (k m : ℕ) (ns : List ℕ) → m ≤ k → Rises k ns → Rises m ns
rises-down k m [] h r = tt
rises-down k m (n ∷ ns) h r = (omega (arith, h, r.0), r.1)

-- what comes before numbers that rise is none of them
not-in : (k m : ℕ) (ns : List ℕ) → m < k → Rises k ns → is_in m ns ≡ false
not-in k m [] h r = refl
not-in k m (n ∷ ns) h r = by (eqb n m) refl (not-in (n + 1) m ns (omega (arith, h, r.0)) r.1) where
  by : (b : Bool) → eqb n m ≡ b → is_in m ns ≡ false → (b || is_in m ns) ≡ false
  by true e rest = absurd (omega (arith, h, r.0, eqb-true n m e))
  by false e rest = rest

get-rest : (before : List Row) (i : ℕ) → slice_get before (suc i) ≡ slice_get (drop 1 before) i
get-rest [] i = refl
get-rest (b ∷ bs) i = refl

at-next : (k : ℕ) (before : List Row) (r : Row) (rs : List Row) (n : ℕ) → k + 1 ≤ n → at-from k before (r ∷ rs) n ≡ at-from (k + 1) (drop 1 before) rs n
at-next k before r rs n h =
    let i : ℕ = n - (k + 1) in
    let e : n - k ≡ suc i = omega (arith, h) in
    ap (λ j. option_and_then (change_to n (slice_get before j)) (slice_get (r ∷ rs) j)) e
    ∙ ap (λ o. option_and_then (change_to n o) (slice_get rs i)) (get-rest before i)

all-next : (k : ℕ) (before : List Row) (r : Row) (rs : List Row) (ns : List ℕ) → Rises (k + 1) ns → filter_map (at-from k before (r ∷ rs)) ns ≡ filter_map (at-from (k + 1) (drop 1 before) rs) ns
all-next k before r rs [] h = refl
all-next k before r rs (n ∷ ns) h =
    ap (λ (o : Option Change). cons_option o (filter_map (at-from k before (r ∷ rs)) ns)) (at-next k before r rs n h.0)
    ∙ ap (λ (cs : List Change). cons_option (at-from (k + 1) (drop 1 before) rs n) cs) (all-next k before r rs ns (rises-down (n + 1) (k + 1) ns (omega (arith, h.0)) h.1))

here : (k : ℕ) (before : List Row) (r : Row) (rs : List Row) → at-from k before (r ∷ rs) k ≡ change_to k (slice_get before 0) r
here k before r rs =
    let e : k - k ≡ 0 = omega arith in
    ap (λ j. option_and_then (change_to k (slice_get before j)) (slice_get (r ∷ rs) j)) e

next-change : (k : ℕ) (before : List Row) (r : Row) (rs : List Row) → changes_from k before (r ∷ rs) ≡ cons_option (change_to k (slice_get before 0) r) (changes_from (k + 1) (drop 1 before) rs)
next-change k [] r rs = refl
next-change k (b ∷ bs) r rs = refl

-- the changes of the plans of these numbers are all, if no other plan has one
abbrev AreAll : ℕ → List Row → List Row → List ℕ → Type 0
AreAll k before after ns =
    Rises k ns → AllByRecursion (λ n. n < k + length after) ns → ((n : ℕ) → k ≤ n → is_in n ns ≡ false → at-from k before after n ≡ None)
    → filter_map (at-from k before after) ns ≡ changes_from k before after

lower : (k : ℕ) (r : Row) (rs : List Row) (ms : List ℕ) → AllByRecursion (λ n. n < k + length (r ∷ rs)) ms → AllByRecursion (λ n. n < k + 1 + length rs) ms
lower k r rs [] a = tt
lower k r rs (m ∷ ms) a = (omega (arith, a.0), lower k r rs ms a.1)

not-first : (n m : ℕ) (ms : List ℕ) → n < m → is_in m ms ≡ false → is_in m (n ∷ ms) ≡ false
not-first n m ms less apart = pick (eqb n m) refl where
  pick : (b : Bool) → eqb n m ≡ b → (b || is_in m ms) ≡ false
  pick true e = absurd (omega (arith, less, eqb-true n m e))
  pick false e = apart

-- the first plan has no change
skip : (k : ℕ) (before : List Row) (r : Row) (rs : List Row) (ms : List ℕ) → AreAll (k + 1) (drop 1 before) rs ms → Rises (k + 1) ms → AllByRecursion (λ n. n < k + length (r ∷ rs)) ms
    → ((n : ℕ) → k ≤ n → is_in n ms ≡ false → at-from k before (r ∷ rs) n ≡ None) → filter_map (at-from k before (r ∷ rs)) ms ≡ changes_from k before (r ∷ rs)
skip k before r rs ms rest up inside none =
    all-next k before r rs ms up
    ∙ rest up (lower k r rs ms inside) (λ n some apart. sym (at-next k before r rs n some) ∙ none n (omega (arith, some)) apart)
    ∙ ap (λ (o : Option Change). cons_option o (changes_from (k + 1) (drop 1 before) rs)) (sym (sym (here k before r rs) ∙ none k (omega arith) (not-in (k + 1) k ms (omega arith) up)))
    ∙ sym (next-change k before r rs)

-- or it may have one
first : (k : ℕ) (before : List Row) (r : Row) (rs : List Row) (n : ℕ) (ms : List ℕ) → AreAll (k + 1) (drop 1 before) rs ms → k ≡ n → Rises (n + 1) ms
    → AllByRecursion (λ m. m < k + length (r ∷ rs)) ms → ((m : ℕ) → k ≤ m → is_in m (n ∷ ms) ≡ false → at-from k before (r ∷ rs) m ≡ None)
    → filter_map (at-from k before (r ∷ rs)) (n ∷ ms) ≡ changes_from k before (r ∷ rs)
first k before r rs n ms rest e up inside none =
    let up_k : Rises (k + 1) ms = rises-down (n + 1) (k + 1) ms (omega (arith, e)) up in
    ap (λ (m : ℕ). cons_option (at-from k before (r ∷ rs) m) (filter_map (at-from k before (r ∷ rs)) ms)) (sym e)
    ∙ ap (λ (o : Option Change). cons_option o (filter_map (at-from k before (r ∷ rs)) ms)) (here k before r rs)
    ∙ ap (λ (cs : List Change). cons_option (change_to k (slice_get before 0) r) cs)
    (all-next k before r rs ms up_k
    ∙ rest up_k (lower k r rs ms inside) (λ m some apart. sym (at-next k before r rs m some) ∙ none m (omega (arith, some)) (not-first n m ms (omega (arith, e, some)) apart)))
    ∙ sym (next-change k before r rs)

either : (k : ℕ) (before : List Row) (r : Row) (rs : List Row) (ns : List ℕ) → ((ms : List ℕ) → AreAll (k + 1) (drop 1 before) rs ms) → AreAll k before (r ∷ rs) ns
either k before r rs [] rest up inside none = skip k before r rs [] (rest []) tt tt none
either k before r rs (n ∷ ms) rest up inside none = pick (eqb k n) refl where
  above : (k ≡ n → ⊥) → k + 1 ≤ n
  above ne = omega (arith, up.0, ne)

  pick : (b : Bool) → eqb k n ≡ b → filter_map (at-from k before (r ∷ rs)) (n ∷ ms) ≡ changes_from k before (r ∷ rs)
  pick true e = first k before r rs n ms (rest ms) (eqb-true k n e) up.1 inside.1 none
  pick false e = skip k before r rs (n ∷ ms) (rest (n ∷ ms)) (above (λ same. true≢false (sym (eq-eqb k n same) ∙ e)), up.1) inside none

walk : (k : ℕ) (before after : List Row) (ns : List ℕ) → AreAll k before after ns
walk k before [] [] up inside none = refl
walk k before [] (n ∷ ns) up inside none = absurd (omega (arith, up.0, inside.0))
walk k before (r ∷ rs) ns up inside none = either k before r rs ns (walk (k + 1) (drop 1 before) rs) up inside none

rows-count : (ps : List PlanView) (ts : List (Option Told)) → length ts ≡ length ps → length (rows_of ps ts) ≡ length ps
rows-count [] ts e = refl
rows-count (p ∷ ps) [] e = absurd (omega (arith, e))
rows-count (p ∷ ps) (t ∷ ts) e = ap suc (rows-count ps ts (omega (arith, e)))

-- the changes of the plans that may have changed are all
pub all-changes : (before after : Traffic) (numbers : List ℕ) → IsStrictlyIncreasing numbers → All (λ n. (0 < n) × (n ≤ length after.plans)) numbers → ChangeAtMost numbers before after
    → length before.told ≡ length before.plans → length after.told ≡ length after.plans
    → filter_map (change_at (rows_in before) (rows_in after)) numbers ≡ changes_between (rows_in before) (rows_in after)
all-changes before after numbers rising within h each_before each =
    walk 1 (rows_in before) (rows_in after) numbers
    (rises 1 numbers rising (λ some. (within 0 0 some).0))
    (recursion_from_All (λ n. n < 1 + length (rows_in after)) numbers (λ k d inside. omega (arith, (within k d inside).1, rows-count after.plans after.told each)))
    (λ n some out. unchanged before after numbers h each_before each n some out)

-- ---- if it is known that there is a traffic before

pub if-row : (o : Option Traffic) (number : ℕ) (told : Option Told) (status : Option Status) → IfSome o (λ b. length b.told ≡ length b.plans) → IfSome o (λ b. told ≡ told_of b.told number)
    → IfSome o (λ b. status ≡ status_at b.plans number) → IfSome o (λ b. option_map (row_with told) status ≡ slice_get (rows_in b) (number - 1))
if-row None number told status each told_is status_is = tt
if-row (Some b) number told status each told_is status_is = row-was b number told status each told_is status_is

pub if-change : (o : Option Traffic) (rows : List Row) (number : ℕ) (before after : Option Row) → after ≡ slice_get rows (number - 1) → IfSome o (λ b. before ≡ slice_get (rows_in b) (number - 1))
    → IfSome o (λ b. option_and_then (change_to number before) after ≡ change_at (rows_in b) rows number)
if-change None rows number before after e h = tt
if-change (Some b) rows number before after e h =
    ap (λ (r : Option Row). option_and_then (change_to number r) after) h
    ∙ ap (option_and_then (change_to number (slice_get (rows_in b) (number - 1)))) e

pub if-still : (o : Option Traffic) (after : Traffic) (number : ℕ) (told : Option Told) → IfSome o (λ b. b.plans ≡ after.plans) → IfSome o (λ b. length b.told ≡ length b.plans)
    → length after.told ≡ length after.plans → IfSome o (λ b. told ≡ told_of b.told number) → same_told told (told_of after.told number) ≡ true
    → IfSome o (λ b. None ≡ change_at (rows_in b) (rows_in after) number)
if-still None after number told plans each_before each told_is same = tt
if-still (Some b) after number told plans each_before each told_is same = stands-still b after number told plans each_before each told_is same

get-map : (f : ℕ → Option Told) (ns : List ℕ) (j : ℕ) (t : Option Told) → j < length ns → get_or (map f ns) j t ≡ f (get_or ns j 0)
get-map f [] j t h = absurd (omega (arith, h))
get-map f (m ∷ ns) zero t h = refl
get-map f (m ∷ ns) (suc j) t h = get-map f ns j t (omega (arith, h))

pub if-told : (o : Option Traffic) (ns : List ℕ) (ts : List (Option Told)) (j : ℕ) (t : Option Told) → IfSome o (λ b. ts ≡ map (told_of b.told) ns) → j < length ns → t ≡ get_or ts j t
    → IfSome o (λ b. t ≡ told_of b.told (get_or ns j 0))
if-told None ns ts j t h within at = tt
if-told (Some b) ns ts j t h within at = at ∙ ap (λ (us : List (Option Told)). get_or us j t) h ∙ get-map (told_of b.told) ns j t within

-- one more number
pub if-more : (o : Option Traffic) (rows : List Row) (ns : List ℕ) (j : ℕ) (cs : List Change) (c : Option Change) → j < length ns
    → IfSome o (λ b. cs ≡ filter_map (change_at (rows_in b) rows) (take j ns)) → IfSome o (λ b. c ≡ change_at (rows_in b) rows (get_or ns j 0))
    → IfSome o (λ b. cs ++ cons_option c [] ≡ filter_map (change_at (rows_in b) rows) (take (j + 1) ns))
if-more None rows ns j cs c within h e = tt
if-more (Some b) rows ns j cs c within h e =
    let f : ℕ → Option Change = change_at (rows_in b) rows in
    ap (λ (ds : List Change). ds ++ cons_option c []) h
    ∙ ap (λ (o : Option Change). filter_map f (take j ns) ++ cons_option o []) e
    ∙ sym (filter_map-append f (take j ns) (get_or ns j 0 ∷ []))
    ∙ ap (filter_map f) (sym (take_more ns j 0 within))

pub if-all : (o : Option Traffic) (after : Traffic) (ns : List ℕ) (cs : List Change) → IsStrictlyIncreasing ns → All (λ n. (0 < n) × (n ≤ length after.plans)) ns → IfSome o (λ b. ChangeAtMost ns b after)
    → IfSome o (λ b. length b.told ≡ length b.plans) → length after.told ≡ length after.plans → IfSome o (λ b. cs ≡ filter_map (change_at (rows_in b) (rows_in after)) ns)
    → IfSome o (λ b. cs ≡ changes_between (rows_in b) (rows_in after))
if-all None after ns cs rising within h each_before each e = tt
if-all (Some b) after ns cs rising within h each_before each e = e ∙ all-changes b after ns rising within h each_before each

-- an ascending list within another is no longer
rises-few : (k m : ℕ) (ns : List ℕ) → Rises k ns → AllByRecursion (λ n. n < m) ns → k ≤ m → k + length ns ≤ m
rises-few k m [] up within h = omega arith
rises-few k m (n ∷ ns) up within h = omega (arith, up.0, rises-few (n + 1) m ns up.1 within.1 (omega (arith, within.0)))

pub numbers-few : (after : Traffic) (ns : List ℕ) → IsStrictlyIncreasing ns → All (λ n. (0 < n) × (n ≤ length after.plans)) ns → length after.told ≡ length after.plans → length ns ≤ length (rows_in after)
numbers-few after ns rising within each =
    let rows : length (rows_in after) ≡ length after.plans = rows-count after.plans after.told each in
    omega (
      arith,
      rows,
      rises-few 1 (1 + length after.plans) ns (rises 1 ns rising (λ some. (within 0 0 some).0))
          (recursion_from_All (λ n. n < 1 + length after.plans) ns (λ k d inside. omega (arith, (within k d inside).1))) (omega arith),
    )
