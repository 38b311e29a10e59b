-- Outlines of plans, and rows of them.
use Rattle.std.proofs.Common.{◌≡◌, ℕ, zero, suc, ◌+◌, ◌-◌, ◌<◌, ◌≤◌, arith, get_or, Bool, true, false, not, ◌&&◌, nat_le, nat_lt, if◌then◌else◌, List, [], ◌∷◌, ◌++◌, length, take, Option, Some, None, slice_get, slice_set, refl, sym, ap, ◌∙◌}
use Rattle.std.specs.Prelude.{IsSome, IfSome, codes}
use Rattle.std.specs.Option.{option_and_then}
use Rattle.std.specs.Str.{bytes_eq}
use Rattle.std.proofs.lemmas.Bool.{false≢true, eq-eqb, and_parts, le-leb, lt-ltb, leb-true, ltb-true}
use Rattle.std.proofs.lemmas.Option.{slice_get-get_or}
use lib.Pointwise.{bytes_decides}
use Rattle.fpl_text.specs.Moments.{moment_within}
use Rattle.fpl_message.specs.declared.order.Spot.{Spot}
use Rattle.fpl_message.specs.declared.order.Spot.TheVariants.{Dep, Arr, Via}
use Rattle.flow_plans.specs.declared.outline.PlanIndexEntry.{PlanIndexEntry}
use Rattle.flow_plans.specs.Plans.{PlanView, is_filed, is_visual, plan_at, filed_moment, filed_off_block}
use Rattle.fpl_items.specs.Points.{may_have}
use Rattle.flow_plans.specs.Letters.{letters_of, AreBytes}
use Rattle.flow_plans.specs.Entries.{take_off, elapsed_at, entry_at, in_period, subject}
use Rattle.flow_plans.specs.Outlines.{may_be_subject, may_come, may_fly, outlined_moment, IsOutlineOf, AreOutlines}
use Rattle.flow_plans.proofs.Departures.{departs-all, departs-none, of-some, outline-there}
use Rattle.flow_plans.proofs.NearLemmas.{some-first, some-if, some-then, subject-enters}

-- regulations apply to no flight but of such a plan
pub subject-may-be : (taxi start end : ℕ) (spot : Spot) (p : PlanView) → IsSome (subject taxi spot start end p) → may_be_subject p ≡ true
unfolding subject
subject-may-be taxi start end spot p h =
    but-third (is_filed p.state) (not (is_visual p.rules)) (not (bytes_eq p.key.dep (codes "AFIL"))) (not p.exempt)
    (some-if (is_filed p.state && not (is_visual p.rules) && not (bytes_eq p.key.dep (codes "AFIL")) && not p.exempt) (in_period start end (entry_at taxi spot p)) h) where
      but-third : (a b c d : Bool) → (a && b && c && d) ≡ true → (a && b && d) ≡ true
      but-third true true true d e = e
      but-third true true false d e = absurd (false≢true e)
      but-third true false c d e = absurd (false≢true e)
      but-third false b c d e = absurd (false≢true e)

no-entry : (o : Option ℕ) (b : Bool) → b ≡ false → (IsSome o → b ≡ true) → o ≡ None
no-entry None b f h = refl
no-entry (Some m) b f h = absurd (false≢true (sym f ∙ h refl))

-- any outline without a departure comes where the flight of a plan does to which no regulation
-- applies
pub outline-of-none : (o : PlanIndexEntry) (p : PlanView) → o.is_filed ≡ is_filed p.state → o.off_block ≡ p.off_block → o.dep ≡ 0 → may_be_subject p ≡ false → IsOutlineOf o p
outline-of-none o p is off_block dep never = record {
  is_filed = is;
  off_block = off_block;
  comes = λ taxi start end spot h. absurd (false≢true (sym never ∙ subject-may-be taxi start end spot p h));
  departs = λ taxi start end place told.
      no-entry (subject taxi (Dep place) start end p) (may_be_subject p) never (subject-may-be taxi start end (Dep place) p)
      ∙ sym (departs-none o taxi start end place dep told);
}

-- when a flight enters a point in a period
record EntersIn (taxi start end : ℕ) (spot : Spot) (p : PlanView) : Type 0 where
  moment : ℕ
  enters : entry_at taxi spot p ≡ Some moment
  from : start ≤ moment
  to : moment < end

in-at : (taxi start end : ℕ) (spot : Spot) (p : PlanView) (o : Option ℕ) → entry_at taxi spot p ≡ o → IsSome (in_period start end o) → EntersIn taxi start end spot p
in-at taxi start end spot p None e h = absurd (false≢true h)
in-at taxi start end spot p (Some m) e h =
    let both = and_parts _ _ (some-if (nat_le start m && nat_lt m end) (Some m) h) in
    record { moment = m; enters = e; from = leb-true _ _ both.0; to = ltb-true _ _ both.1 }

subject-in : (taxi start end : ℕ) (spot : Spot) (p : PlanView) → IsSome (subject taxi spot start end p) → EntersIn taxi start end spot p
unfolding subject
subject-in taxi start end spot p h =
    in-at taxi start end spot p (entry_at taxi spot p) refl
    (some-then (is_filed p.state && not (is_visual p.rules) && not (bytes_eq p.key.dep (codes "AFIL")) && not p.exempt) (in_period start end (entry_at taxi spot p)) h)

if-some : (b : Bool) (o : Option ℕ) (m : ℕ) → (if b then o else None) ≡ Some m → o ≡ Some m
if-some true o m e = e
if-some false o m e = absurd (cc)

same-moment : (x m : ℕ) → Some x ≡ Some m → x ≡ m
same-moment x m e = cc

within-is : (x m : ℕ) → moment_within x ≡ Some m → x ≡ m
unfolding moment_within
within-is x m e = same-moment x m (if-some (nat_le x 100_000_000) (Some x) m e)

-- no earlier than take-off, and no later than the longest time after it
abbrev Between : ℕ → ℕ → ℕ → Type 0
Between take_off longest moment = (take_off ≤ moment) × (moment ≤ take_off + longest)

on-way : (take_off longest moment : ℕ) (o : Option ℕ) → IfSome o (λ minutes. minutes ≤ longest) → option_and_then (λ elapsed. moment_within (take_off + elapsed)) o ≡ Some moment → Between take_off longest moment
on-way take_off longest moment None low e = absurd (cc)
on-way take_off longest moment (Some elapsed) low e =
    let same : take_off + elapsed ≡ moment = within-is (take_off + elapsed) moment e in
    (omega (arith, same), omega (arith, same, low))

enters-between : (taxi longest moment : ℕ) (spot : Spot) (p : PlanView) → p.elapsed ≤ longest → ((place : List ℕ) → IfSome (elapsed_at place p) (λ minutes. minutes ≤ longest))
    → entry_at taxi spot p ≡ Some moment → Between (take_off taxi p) longest moment
unfolding entry_at
enters-between taxi longest moment (Dep place) p arrival way e =
    let same : take_off taxi p ≡ moment = same-moment _ _ (if-some (bytes_eq p.key.dep place) (Some (take_off taxi p)) moment e) in
    (omega (arith, same), omega (arith, same))
enters-between taxi longest moment (Arr place) p arrival way e =
    let same : take_off taxi p + p.elapsed ≡ moment = within-is _ _ (if-some (bytes_eq p.key.dest place) (moment_within (take_off taxi p + p.elapsed)) moment e) in
    (omega (arith, same), omega (arith, same, arrival))
enters-between taxi longest moment (Via place) p arrival way e = on-way (take_off taxi p) longest moment (elapsed_at place p) (way place) e

flies : (taxi start end moment : ℕ) (o : PlanIndexEntry) → Between (o.off_block + taxi) o.longest moment → start ≤ moment → moment < end → may_fly taxi start end o ≡ true
unfolding may_fly
flies taxi start end moment o b from to =
    rw (lt-ltb (o.off_block + taxi) end (omega (arith, b.0, to)), le-leb start (o.off_block + taxi + o.longest) (omega (arith, b.1, from))) refl

-- an outline with the letters of both ends, and the route points, enters what its flight enters
outline-comes : (o : PlanIndexEntry) (p : PlanView) → o.dep ≡ letters_of p.key.dep → o.dest ≡ letters_of p.key.dest
    → ((place : List ℕ) → IsSome (elapsed_at place p) → may_have o.way place ≡ true) → (taxi start end : ℕ) (spot : Spot) → IsSome (subject taxi spot start end p) → may_come spot o ≡ true
unfolding entry_at may_come
outline-comes o p dep dest way taxi start end (Dep place) h =
    let same : p.key.dep ≡ place = (bytes_decides p.key.dep place).0 (some-if (bytes_eq p.key.dep place) (Some (take_off taxi p)) (subject-enters taxi start end (Dep place) p h)) in
    eq-eqb _ _ (dep ∙ ap letters_of same)
outline-comes o p dep dest way taxi start end (Arr place) h =
    let same : p.key.dest ≡ place = (bytes_decides p.key.dest place).0 (some-if (bytes_eq p.key.dest place) (moment_within (take_off taxi p + p.elapsed)) (subject-enters taxi start end (Arr place) p h)) in
    eq-eqb _ _ (dest ∙ ap letters_of same)
outline-comes o p dep dest way taxi start end (Via place) h =
    way place (some-first (elapsed_at place p) (λ elapsed. moment_within (take_off taxi p + elapsed)) (subject-enters taxi start end (Via place) p h))

-- with the off-block time and the longest time it is there when its flight is
pub outline-of-all : (o : PlanIndexEntry) (p : PlanView) → o.is_filed ≡ is_filed p.state → o.off_block ≡ p.off_block → o.dep ≡ letters_of p.key.dep → o.dest ≡ letters_of p.key.dest
    → may_be_subject p ≡ true → length p.key.dep ≤ 4 → AreBytes p.key.dep
    → ((place : List ℕ) → IsSome (elapsed_at place p) → may_have o.way place ≡ true)
    → p.elapsed ≤ o.longest → ((place : List ℕ) → IfSome (elapsed_at place p) (λ minutes. minutes ≤ o.longest)) → IsOutlineOf o p
outline-of-all o p is off_block dep dest may most bytes way arrival minutes = record {
  is_filed = is;
  off_block = off_block;
  departs = departs-all o p may off_block dep most bytes;
  comes = λ taxi start end spot h.
      (let at = subject-in taxi start end spot p h in
      let between : Between (o.off_block + taxi) o.longest at.moment = rw off_block (enters-between taxi o.longest at.moment spot p arrival minutes at.enters) in
      rw (outline-comes o p dep dest way taxi start end spot h, flies taxi start end at.moment o between at.from at.to) refl);
}

-- one outline for each plan
pub outlines-long : (os : List PlanIndexEntry) (ps : List PlanView) → AreOutlines os ps → length os ≡ length ps
outlines-long [] [] h = refl
outlines-long [] (p ∷ ps) h = absurd h
outlines-long (o ∷ os) [] h = absurd h
outlines-long (o ∷ os) (p ∷ ps) h = ap suc (outlines-long os ps h.1)

-- one more of both
pub outlines-push : (os : List PlanIndexEntry) (ps : List PlanView) (o : PlanIndexEntry) (p : PlanView) → AreOutlines os ps → IsOutlineOf o p → AreOutlines (os ++ o ∷ []) (ps ++ p ∷ [])
outlines-push [] [] o p h r = (r, tt)
outlines-push [] (q ∷ ps) o p h r = absurd h
outlines-push (n ∷ os) [] o p h r = absurd h
outlines-push (n ∷ os) (q ∷ ps) o p h r = (h.0, outlines-push os ps o p h.1 r)

-- the first of both
pub outlines-take : (n : ℕ) (os : List PlanIndexEntry) (ps : List PlanView) → AreOutlines os ps → AreOutlines (take n os) (take n ps)
outlines-take zero os ps h = tt
outlines-take (suc n) [] [] h = tt
outlines-take (suc n) [] (p ∷ ps) h = absurd h
outlines-take (suc n) (o ∷ os) [] h = absurd h
outlines-take (suc n) (o ∷ os) (p ∷ ps) h = (h.0, outlines-take n os ps h.1)

-- another of both at one index
pub outlines-set : (os : List PlanIndexEntry) (ps : List PlanView) (i : ℕ) (o : PlanIndexEntry) (p : PlanView) → AreOutlines os ps → IsOutlineOf o p → AreOutlines (slice_set os i o) (slice_set ps i p)
outlines-set [] [] i o p h r = tt
outlines-set [] (q ∷ ps) i o p h r = absurd h
outlines-set (n ∷ os) [] i o p h r = absurd h
outlines-set (n ∷ os) (q ∷ ps) zero o p h r = (r, h.1)
outlines-set (n ∷ os) (q ∷ ps) (suc i) o p h r = (h.0, outlines-set os ps i o p h.1 r)

-- an outline says whether its plan is filed, and its off-block time
outlined-same : (o : PlanIndexEntry) (p : PlanView) → IsOutlineOf o p → outlined_moment o ≡ filed_moment p
outlined-same o p h = rw (h.is_filed, h.off_block) refl

-- so does that at an index
outlined-at : (os : List PlanIndexEntry) (ps : List PlanView) (i : ℕ) → AreOutlines os ps → option_and_then outlined_moment (slice_get os i) ≡ option_and_then filed_moment (slice_get ps i)
outlined-at [] [] i h = refl
outlined-at [] (p ∷ ps) i h = absurd h
outlined-at (o ∷ os) [] i h = absurd h
outlined-at (o ∷ os) (p ∷ ps) zero h = outlined-same o p h.0
outlined-at (o ∷ os) (p ∷ ps) (suc i) h = outlined-at os ps i h.1

-- and that of a number
pub outlined-number : (os read : List PlanIndexEntry) (ps all : List PlanView) (number : ℕ) (o : Option PlanIndexEntry) → AreOutlines os ps → ps ≡ all → read ≡ os → o ≡ slice_get read (number - 1) → option_and_then outlined_moment o ≡ filed_off_block all number
outlined-number os read ps all number o h same all_read at =
    ap (option_and_then outlined_moment) (at ∙ ap (λ (xs : List PlanIndexEntry). slice_get xs (number - 1)) all_read)
    ∙ outlined-at os ps (number - 1) h ∙ ap (λ (qs : List PlanView). filed_off_block qs number) same

-- the index of a plan is one of an outline
pub outline-within : (number len : ℕ) (os : List PlanIndexEntry) (ps all : List PlanView) → len ≡ length os → AreOutlines os ps → ps ≡ all → (0 < number) × (number ≤ length all) → number - 1 < len
outline-within number len os ps all l h same within =
    let long : length os ≡ length ps = outlines-long os ps h in
    let all_long : length ps ≡ length all = ap length same in
    omega (arith, l, long, all_long, within.0, within.1)

-- without the last of both
pub outlines-pop : (m n : ℕ) (os : List PlanIndexEntry) (ps : List PlanView) → m ≡ length os → n ≡ length ps → AreOutlines os ps → AreOutlines (take (m - 1) os) (take (n - 1) ps)
outlines-pop m n os ps a b h =
    let same : m ≡ n = a ∙ outlines-long os ps h ∙ sym b in
    rw same (outlines-take (n - 1) os ps h)

-- what the outline of the plan of a number says of it
pub outline-says : (number len : ℕ) (os : List PlanIndexEntry) (ps all : List PlanView) (o : PlanIndexEntry) (taxi start end : ℕ) (spot : Spot) → len ≡ length os → AreOutlines os ps → ps ≡ all → (0 < number) × (number ≤ length all)
    → o ≡ get_or os (number - 1) o → (may_come spot o && may_fly taxi start end o) ≡ false → IfSome (plan_at all number) (λ p. subject taxi spot start end p ≡ None)
outline-says number len os ps all o taxi start end spot l h same within is never =
    let inside : number - 1 < len = outline-within number len os ps all l h same within in
    of-some (plan_at all number) (IsOutlineOf o) (λ p. subject taxi spot start end p ≡ None)
    (λ p r. no-entry (subject taxi spot start end p) (may_come spot o && may_fly taxi start end o) never (r.comes taxi start end spot))
    (outline-there number len os ps all o inside l h same is)

-- a plan that is read is the one of its number
pub plan-read : (number : ℕ) (read all : List PlanView) (p : PlanView) → read ≡ all → 0 < number → number ≤ length all → p ≡ get_or read (number - 1) p → plan_at all number ≡ Some p
plan-read number read all p same some within is =
    let inside : number - 1 < length all = omega (arith, some, within) in
    let there : p ≡ get_or all (number - 1) p = rw same at is in
    slice_get-get_or all (number - 1) p inside ∙ ap (λ x. Some x) (sym there)
