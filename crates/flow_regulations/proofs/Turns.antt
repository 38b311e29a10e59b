-- Issuing slots plan after plan, by rising number.
use Rattle.std.proofs.Common.{◌≡◌, ℕ, zero, suc, ◌+◌, ◌-◌, ◌<◌, ◌≤◌, ◌||◌, eqb, true, false, List, [], ◌∷◌, ◌++◌, length, get_or, drop, Option, Some, IfSome, refl, sym, ap, ◌∙◌, subst, arith, ⊎_elim, append_assoc, add-one}
use Rattle.std.proofs.Math.ListN.{set, length-set}
use Rattle.std.proofs.Math.Seq.{drop-cons}
use Rattle.std.proofs.lemmas.List.{append-nil, drop_all}
use Rattle.std.proofs.lemmas.Option.{slice_get_read}
use Rattle.std.proofs.lemmas.Bool.{ne_eqb}
use Rattle.std.proofs.lemmas.Bool.Decides.{eqb_tells}
use Rattle.std.proofs.lemmas.List.Sorted.{IsNonDecreasingBy-drop}
use Rattle.std.specs.List.{slice_get}
use Rattle.std.specs.List.Sorted.{IsNonDecreasing}
use Rattle.flow_plans.specs.Plans.{PlanView, plan_at}
use Rattle.flow_slots.specs.Assignment.{is_in}
use Rattle.flow_regulations.specs.declared.notice.Told.{Told}
use Rattle.flow_regulations.specs.declared.notice.Notice.{Notice}
use Rattle.flow_regulations.specs.Regulations.{Regulation}
use Rattle.flow_regulations.specs.Advice.{advice}
use Rattle.flow_regulations.specs.Notices.{notices_to, told_to_plan, notices_from, told_from}
use Rattle.flow_regulations.specs.Quiet.{IsQuietAt, AreQuietBut, AllQuiet}
use Rattle.flow_regulations.proofs.Advised.{plan_at-there}
use Rattle.flow_regulations.proofs.Saying.{quiet-after, quiet-told}
use Rattle.flow_regulations.proofs.Numbers.{said_along, told_along, QuietPlace, said-quiet, told-quiet, said-one, told-one, slice_get-set, slice_get-set_same}

-- the notice to a plan by these regulations, and what is issued to it
abbrev pub say : ℕ → List Regulation → ℕ → PlanView → Option Told → List Notice
say taxi rs n p t = notices_to p t (advice taxi n p rs)

abbrev pub keep : ℕ → List Regulation → ℕ → PlanView → Option Told → Option Told
keep taxi rs n p t = told_to_plan p t (advice taxi n p rs)

notices_from-is : (n taxi : ℕ) (rs : List Regulation) (ps : List PlanView) (ts : List (Option Told))
    → notices_from n taxi rs ps ts ≡ said_along (say taxi rs) n ps ts
notices_from-is n taxi rs [] ts = refl
notices_from-is n taxi rs (p ∷ ps) [] = refl
notices_from-is n taxi rs (p ∷ ps) (t ∷ ts) = ap (λ xs. say taxi rs n p t ++ xs) (notices_from-is (n + 1) taxi rs ps ts)

told_from-is : (n taxi : ℕ) (rs : List Regulation) (ps : List PlanView) (ts : List (Option Told))
    → told_from n taxi rs ps ts ≡ told_along (keep taxi rs) n ps ts
told_from-is n taxi rs [] ts = refl
told_from-is n taxi rs (p ∷ ps) [] = refl
told_from-is n taxi rs (p ∷ ps) (t ∷ ts) = ap (λ (xs : List (Option Told)). keep taxi rs n p t ∷ xs) (told_from-is (n + 1) taxi rs ps ts)

quiet-place : (taxi k : ℕ) (rs : List Regulation) (ps : List PlanView) (ts : List (Option Told)) → IsQuietAt taxi rs ps ts (1 + k) → QuietPlace (say taxi rs) 1 ps ts k
quiet-place taxi k rs ps ts h =
    let e : 1 + k - 1 ≡ k = omega arith in
    subst (λ (j : ℕ). IfSome (slice_get ps j) (λ p. IfSome (slice_get ts j) (λ t. say taxi rs (1 + k) p t ≡ []))) e h

-- if every plan is quiet, there is no notice
pub AllQuiet-said : (taxi : ℕ) (rs : List Regulation) (ps : List PlanView) (ts : List (Option Told)) → AllQuiet taxi rs ps ts → notices_from 1 taxi rs ps ts ≡ []
AllQuiet-said taxi rs ps ts h =
    notices_from-is 1 taxi rs ps ts ∙ said-quiet (say taxi rs) 1 ps ts (λ k. quiet-place taxi k rs ps ts (h (1 + k) (omega arith)))

-- and what was issued stays
pub AllQuiet-told : (taxi : ℕ) (rs : List Regulation) (ps : List PlanView) (ts : List (Option Told)) → length ts ≡ length ps → AllQuiet taxi rs ps ts
    → told_from 1 taxi rs ps ts ≡ ts
AllQuiet-told taxi rs ps ts e h =
    told_from-is 1 taxi rs ps ts
    ∙ told-quiet (say taxi rs) (keep taxi rs) 1 ps ts (λ m p t q. quiet-told p t (advice taxi m p rs) q) e (λ k. quiet-place taxi k rs ps ts (h (1 + k) (omega arith)))

-- a number below all of a list is not in it
absent-below : (x : ℕ) (ys : List ℕ) → ((k d : ℕ) → k < length ys → x < get_or ys k d) → is_in x ys ≡ false
absent-below x [] h = refl
absent-below x (y ∷ ys) h =
    let lt : x < y = h zero zero (omega arith) in
    ap (λ b. b || is_in x ys) (ne_eqb y x (λ e. omega arith)) ∙ absent-below x ys (λ k d l. h (suc k) d (omega arith))

absent-before : (x m : ℕ) (rest : List ℕ) → IsNonDecreasing (m ∷ rest) → x < m → is_in x (m ∷ rest) ≡ false
absent-before x m rest rises lt =
    absent-below x (m ∷ rest) (λ k d l. (let le : m ≤ get_or (m ∷ rest) k d = rises zero k d (omega arith) l in omega arith))

-- slots are issued so far: the notices that are left, and what is issued from here, are those that
-- were left at first, and only the rest may not be quiet
pub record IsTelling (taxi : ℕ) (rs : List Regulation) (ps : List PlanView) (first : List (Option Told)) (begun : List Notice) (told : List (Option Told)) (notices : List Notice) (rest : List ℕ) : Type 0 where
  pub told_on : told_from 1 taxi rs ps told ≡ told_from 1 taxi rs ps first
  pub said_on : notices ++ notices_from 1 taxi rs ps told ≡ begun ++ notices_from 1 taxi rs ps first
  pub quiet : AreQuietBut rest taxi rs ps told
  pub each : length told ≡ length ps

said-new : (taxi m : ℕ) (rs : List Regulation) (p : PlanView) (t new : Option Told) → new ≡ keep taxi rs m p t → say taxi rs m p new ≡ []
said-new taxi m rs p t new is = ap (λ v. say taxi rs m p v) is ∙ quiet-after p t (advice taxi m p rs)

told-again : (taxi m : ℕ) (rs : List Regulation) (p : PlanView) (t new : Option Told) → new ≡ keep taxi rs m p t → keep taxi rs m p new ≡ keep taxi rs m p t
told-again taxi m rs p t new is = quiet-told p new (advice taxi m p rs) (said-new taxi m rs p t new is) ∙ is

-- the plan that was issued its advice is quiet from then on, and the others as before
quiet-but : (taxi m : ℕ) (rs : List Regulation) (ps : List PlanView) (told : List (Option Told)) (rest : List ℕ) (p : PlanView) (t new : Option Told)
    → 0 < m → slice_get ps (m - 1) ≡ Some p → slice_get told (m - 1) ≡ Some t → say taxi rs m p new ≡ [] → AreQuietBut (m ∷ rest) taxi rs ps told
    → AreQuietBut rest taxi rs ps (set told (m - 1) new)
quiet-but taxi m rs ps told rest p t new some at was after quiet number above out =
    ⊎_elim
    (λ (here : (eqb m number ≡ true) × (m ≡ number)). subst (λ (x : ℕ). IsQuietAt taxi rs ps (set told (m - 1) new) x) here.1 (rw (at, slice_get-set_same told (m - 1) t new was) after))
    (λ (apart : (eqb m number ≡ false) × (m ≡ number → ⊥)). (let ne : m - 1 ≡ number - 1 → ⊥ = λ e. apart.1 (omega arith) in
    rw (slice_get-set told (m - 1) (number - 1) new (λ e. ne (sym e))) (quiet number above (ap (λ b. b || is_in number rest) apart.0 ∙ out))))
    (eqb_tells m number)

telling-one : (taxi m : ℕ) (rs : List Regulation) (ps : List PlanView) (first : List (Option Told)) (begun : List Notice) (told : List (Option Told)) (notices : List Notice) (rest : List ℕ)
    (p : PlanView) (t new : Option Told) (made : List Notice)
    → IsTelling taxi rs ps first begun told notices (m ∷ rest) → IsNonDecreasing (m ∷ rest) → 0 < m → slice_get ps (m - 1) ≡ Some p → slice_get told (m - 1) ≡ Some t
    → new ≡ keep taxi rs m p t → made ≡ notices ++ say taxi rs m p t
    → IsTelling taxi rs ps first begun (set told (m - 1) new) made rest
telling-one taxi m rs ps first begun told notices rest p t new made k rises some at was isnew ismade =
    let e : m ≡ 1 + (m - 1) = omega arith in
    let after = said-new taxi m rs p t new isnew in
    let again = told-again taxi m rs p t new isnew in
    let before : (j : ℕ) → j < m - 1 → QuietPlace (say taxi rs) 1 ps told j =
    λ j lt. quiet-place taxi j rs ps told (k.quiet (1 + j) (omega arith) (absent-before (1 + j) m rest rises (omega arith))) in
    let said = said-one (say taxi rs) 1 m (m - 1) ps told p t new e at was after before in
    record {
      told_on = told_from-is 1 taxi rs ps (set told (m - 1) new) ∙ told-one (keep taxi rs) 1 m (m - 1) ps told p t new e at was again ∙ sym (told_from-is 1 taxi rs ps told) ∙ k.told_on;
      said_on = ap (λ (xs : List Notice). xs ++ notices_from 1 taxi rs ps (set told (m - 1) new)) ismade
          ∙ append_assoc notices (say taxi rs m p t) (notices_from 1 taxi rs ps (set told (m - 1) new))
          ∙ ap (λ (xs : List Notice). notices ++ (say taxi rs m p t ++ xs)) (notices_from-is 1 taxi rs ps (set told (m - 1) new))
          ∙ ap (λ (xs : List Notice). notices ++ xs) (sym said)
          ∙ ap (λ (xs : List Notice). notices ++ xs) (sym (notices_from-is 1 taxi rs ps told))
          ∙ k.said_on;
      quiet = quiet-but taxi m rs ps told rest p t new some at was after k.quiet;
      each = length-set told (m - 1) new ∙ k.each;
    }

telling-goes : (taxi j m : ℕ) (rs : List Regulation) (ps : List PlanView) (first : List (Option Told)) (begun : List Notice) (told : List (Option Told)) (notices : List Notice) (changed : List ℕ)
    (p : PlanView) (t new : Option Told) (made : List Notice)
    → IsTelling taxi rs ps first begun told notices (drop j changed) → IsNonDecreasing changed → j < length changed → m ≡ get_or changed j 0 → 0 < m
    → slice_get ps (m - 1) ≡ Some p → slice_get told (m - 1) ≡ Some t
    → new ≡ keep taxi rs m p t → made ≡ notices ++ say taxi rs m p t
    → IsTelling taxi rs ps first begun (set told (m - 1) new) made (drop (j + 1) changed)
telling-goes taxi j m rs ps first begun told notices changed p t new made k rises lt at-m some at was isnew ismade =
    let e : drop j changed ≡ m ∷ drop (suc j) changed = drop-cons changed j 0 lt ∙ ap (λ x. x ∷ drop (suc j) changed) (sym at-m) in
    let k' = subst (λ (xs : List ℕ). IsTelling taxi rs ps first begun told notices xs) e k in
    let rises' = subst IsNonDecreasing e (IsNonDecreasingBy-drop (λ x. x) j changed rises) in
    rw add-one (telling-one taxi m rs ps first begun told notices (drop (suc j) changed) p t new made k' rises' some at was isnew ismade)

-- one turn of a loop over the numbers
pub telling-turn : (taxi j m : ℕ) (rs : List Regulation) (ps : List PlanView) (first : List (Option Told)) (begun : List Notice) (told : List (Option Told)) (notices : List Notice) (changed : List ℕ)
    (t new : Option Told) (made : List Notice)
    → IsTelling taxi rs ps first begun told notices (drop j changed) → IsNonDecreasing changed → j < length changed → m ≡ get_or changed j 0 → 0 < m → m ≤ length ps
    → t ≡ get_or told (m - 1) t
    → IfSome (plan_at ps m) (λ p. new ≡ keep taxi rs m p t) → IfSome (plan_at ps m) (λ p. made ≡ notices ++ say taxi rs m p t)
    → IsTelling taxi rs ps first begun (set told (m - 1) new) made (drop (j + 1) changed)
telling-turn taxi j m rs ps first begun told notices changed t new made k rises lt at-m some within at-t isnew ismade =
    let there = plan_at-there ps m some within in
    let long : m - 1 < length told = omega (arith, k.each) in
    telling-goes taxi j m rs ps first begun told notices changed there.0 t new made k rises lt at-m some there.1
    (slice_get_read told (length told) (m - 1) t refl long at-t) (rw there.1 at isnew) (rw there.1 at ismade)

past : {taxi : ℕ} {rs : List Regulation} {ps : List PlanView} {first : List (Option Told)} {begun : List Notice} {told : List (Option Told)} {notices : List Notice} (i : ℕ) (changed : List ℕ)
    → length changed ≤ i → IsTelling taxi rs ps first begun told notices (drop i changed) → IsTelling taxi rs ps first begun told notices []
past {taxi} {rs} {ps} {first} {begun} {told} {notices} i changed le k =
    subst (λ (xs : List ℕ). IsTelling taxi rs ps first begun told notices xs) (drop_all i changed le) k

pub telling-ends : (taxi : ℕ) (rs : List Regulation) (ps : List PlanView) (first : List (Option Told)) (begun : List Notice) (told : List (Option Told)) (notices : List Notice)
    (i : ℕ) (changed : List ℕ) → length changed ≤ i → IsTelling taxi rs ps first begun told notices (drop i changed) → AllQuiet taxi rs ps told
telling-ends taxi rs ps first begun told notices i changed le k = λ number some. (past i changed le k).quiet number some refl

pub telling-told : (taxi : ℕ) (rs : List Regulation) (ps : List PlanView) (first : List (Option Told)) (begun : List Notice) (told : List (Option Told)) (notices : List Notice)
    (i : ℕ) (changed : List ℕ) → length changed ≤ i → IsTelling taxi rs ps first begun told notices (drop i changed) → told ≡ told_from 1 taxi rs ps first
telling-told taxi rs ps first begun told notices i changed le k =
    sym (AllQuiet-told taxi rs ps told k.each (telling-ends taxi rs ps first begun told notices i changed le k)) ∙ k.told_on

pub telling-said : (taxi : ℕ) (rs : List Regulation) (ps : List PlanView) (first : List (Option Told)) (begun : List Notice) (told : List (Option Told)) (notices : List Notice)
    (i : ℕ) (changed : List ℕ) → length changed ≤ i → IsTelling taxi rs ps first begun told notices (drop i changed) → notices ≡ begun ++ notices_from 1 taxi rs ps first
telling-said taxi rs ps first begun told notices i changed le k =
    sym (append-nil notices)
    ∙ ap (λ (xs : List Notice). notices ++ xs) (sym (AllQuiet-said taxi rs ps told (telling-ends taxi rs ps first begun told notices i changed le k))) ∙ k.said_on
