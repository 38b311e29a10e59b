-- Which plan a message changes.
use Rattle.std.proofs.Common.{◌≡◌, ℕ, ◌+◌, ◌-◌, ◌<◌, if◌then◌else◌, List, [], ◌∷◌, ◌++◌, length, length-append, ap, subst, arith, Bool, true, false, Option, Some, None, Result, Ok, Err}
use Rattle.std.specs.Option.{option_map_or}
use Rattle.std.specs.List.{AllByRecursion, list_any}
use Rattle.std.proofs.lemmas.Option.{slice_get_within}
use Rattle.fpl_message.specs.declared.refusal.Refusal.{Refusal}
use Rattle.fpl_message.specs.declared.refusal.Refusal.TheVariants as refusal
use Rattle.fpl_message.specs.declared.parts.Parts.{Parts}
use Rattle.fpl_message.specs.declared.short_message.Dla.{Dla}
use Rattle.fpl_message.specs.declared.short_message.Cnl.{Cnl}
use Rattle.fpl_message.specs.declared.short_message.Dep.{Dep}
use Rattle.fpl_message.specs.Messages.{FplView, ChgView}
use Rattle.fpl_message.specs.Refusals.{◌>>=◌}
use Rattle.flow_plans.specs.declared.plan.PlanState.TheVariants as state
use Rattle.flow_plans.specs.Times.{unless, delayed_to}
use Rattle.flow_plans.specs.Matching.{is_candidate, is_gone, numbers, the_one, matching}
use Rattle.flow_plans.specs.Plans.{PlanView, is_held_as, plan_at, with_plan, changed_at, with_state, with_off_block}
use Rattle.flow_plans.specs.Changes.{Changed, plan_of, asked_off_block, filed, delayed, amended, cancelled, departed, amended_plan, changes_key, key_after, moved_to, others}
use Rattle.flow_plans.proofs.Keepings.{set-there}
use Rattle.flow_regulations.specs.Listing.{AreSameBut}
use Rattle.flow_regulations.proofs.Steps.{same-filed, same-with, same-changed}

abbrev ok-of : {X : Type 0} → X → Result X Refusal → X
ok-of x (Ok y) = y
ok-of x (Err r) = x

abbrev as-ok : {X : Type 0} → X → Result X Refusal
as-ok x = Ok x

pub ok-same : {X : Type 0} (x y : X) → as-ok x ≡ as-ok y → x ≡ y
ok-same x y e = ap (λ t. ok-of x t) e

pub unless-ok : {X : Type 0} (b : Bool) (r : Refusal) (next : Result X Refusal) (x : X) → unless b r next ≡ Ok x → next ≡ Ok x
unless-ok true r next x e = absurd (cc)
unless-ok false r next x e = e

then-ok : {X Y : Type 0} (r : Result X Refusal) (f : X → Result Y Refusal) (y : Y) → (r >>= f) ≡ Ok y → (x : X) × (f x ≡ Ok y)
then-ok (Ok x) f y e = (x, e)
then-ok (Err r) f y e = absurd (cc)

some-ok : {Y : Type 0} (o : Option PlanView) (f : PlanView → Result Y Refusal) (y : Y) → option_map_or f o (Err refusal.NoPlan) ≡ Ok y → (p : PlanView) × (f p ≡ Ok y)
some-ok (Some p) f y e = (p, e)
some-ok None f y e = absurd (cc)

-- the plan that a message is about has a number from 1
numbers-above : (test : PlanView → Bool) (n : ℕ) (ps : List PlanView) → 0 < n → AllByRecursion (λ k. 0 < k) (numbers test n ps)
numbers-above test n [] some = tt
numbers-above test n (p ∷ ps) some = by (test p) (numbers-above test (n + 1) ps (omega arith)) where
  by : (b : Bool) → AllByRecursion (λ k. 0 < k) (numbers test (n + 1) ps) → AllByRecursion (λ k. 0 < k) (if b then n ∷ numbers test (n + 1) ps else numbers test (n + 1) ps)
  by true rest = (some, rest)
  by false rest = rest

matched : (plans : List PlanView) (parts : Parts) (f : ℕ → Result Changed Refusal) (c : Changed) → (matching plans parts >>= f) ≡ Ok c → (n : ℕ) × (0 < n) × (f n ≡ Ok c)
unfolding matching
matched plans parts f c e = by (list_any (is_gone parts) plans) (numbers (is_candidate parts) 1 plans) (numbers-above (is_candidate parts) 1 plans (omega arith)) e where
  by : (d : Bool) (ns : List ℕ) → AllByRecursion (λ k. 0 < k) ns → (the_one d ns >>= f) ≡ Ok c → (n : ℕ) × (0 < n) × (f n ≡ Ok c)
  by true [] some e = absurd (cc)
  by false [] some e = absurd (cc)
  by d (n ∷ []) some e = (n, some.0, e)
  by d (n ∷ m ∷ ns) some e = absurd (cc)

-- the changed plans are those before but for the plan of their number
same-in : (before plans : List PlanView) (n : ℕ) (c : Changed) → record { plans = plans; number = n } ≡ c → 0 < n → AreSameBut n before plans → (0 < c.number) × AreSameBut c.number before c.plans
same-in before plans n c e some same = subst (λ (d : Changed). (0 < d.number) × AreSameBut d.number before d.plans) e (some, same)

changed-there : (change : PlanView → PlanView) (plans : List PlanView) (n : ℕ) (p : PlanView) → plan_at plans n ≡ Some p → plan_at (changed_at change n plans) n ≡ Some (change p)
unfolding changed_at
changed-there change plans n p there = rw there (set-there plans (n - 1) (change p) (slice_get_within plans (n - 1) p there))

pub filed-same : (max now : ℕ) (plans after : List PlanView) (m : FplView) → filed max now plans m ≡ Ok after → AreSameBut (length after) plans after
unfolding filed
filed-same max now plans after m e =
    let a = unless-ok _ refusal.Past _ after e in
    let b = unless-ok _ refusal.TooEarly _ after a in
    let c = unless-ok _ refusal.AlreadyHeld _ after b in
    let d = unless-ok _ refusal.PlansFull _ after c in
    let p : PlanView = plan_of (asked_off_block now m) m in
    let same : plans ++ p ∷ [] ≡ after = ok-same (plans ++ p ∷ []) after d in
    subst (λ (qs : List PlanView). AreSameBut (length qs) plans qs) same (same-filed plans p (length (plans ++ p ∷ [])) (length-append plans (p ∷ [])))

pub delayed-same : (now : ℕ) (plans : List PlanView) (m : Dla) (c : Changed) → delayed now plans m ≡ Ok c → (0 < c.number) × AreSameBut c.number plans c.plans
unfolding delayed
delayed-same now plans m c e =
    let a = matched plans m.parts _ c e in
    let b = some-ok (plan_at plans a.0) _ c a.2 in
    let d = then-ok (delayed_to now b.0.off_block m.time) _ c b.1 in
    same-in plans (changed_at (with_off_block d.0) a.0 plans) a.0 c (ok-same _ c d.1) a.1 (same-changed (with_off_block d.0) plans a.0 a.1)

pub cancelled-same : (plans : List PlanView) (m : Cnl) (c : Changed) → cancelled plans m ≡ Ok c → (0 < c.number) × AreSameBut c.number plans c.plans
unfolding cancelled
cancelled-same plans m c e =
    let a = matched plans m.parts _ c e in
    same-in plans (changed_at (with_state state.Cancelled) a.0 plans) a.0 c (ok-same _ c a.2) a.1 (same-changed (with_state state.Cancelled) plans a.0 a.1)

pub departed-same : (plans : List PlanView) (m : Dep) (c : Changed) → departed plans m ≡ Ok c → (0 < c.number) × AreSameBut c.number plans c.plans
unfolding departed
departed-same plans m c e =
    let a = matched plans m.parts _ c e in
    same-in plans (changed_at (with_state state.Departed) a.0 plans) a.0 c (ok-same _ c a.2) a.1 (same-changed (with_state state.Departed) plans a.0 a.1)

-- the plan that it is about has departed
pub departed-there : (plans : List PlanView) (m : Dep) (c : Changed) (p : PlanView) → departed plans m ≡ Ok c → plan_at plans c.number ≡ Some p → plan_at c.plans c.number ≡ Some (with_state state.Departed p)
unfolding departed
departed-there plans m c p e =
    let a = matched plans m.parts _ c e in
    subst (λ (d : Changed). plan_at plans d.number ≡ Some p → plan_at d.plans d.number ≡ Some (with_state state.Departed p)) (ok-same _ c a.2) (λ there. changed-there (with_state state.Departed) plans a.0 p there)

pub amended-same : (now : ℕ) (plans : List PlanView) (m : ChgView) (c : Changed) → amended now plans m ≡ Ok c → (0 < c.number) × AreSameBut c.number plans c.plans
unfolding amended
amended-same now plans m c e =
    let a = matched plans m.parts _ c e in
    let b = some-ok (plan_at plans a.0) _ c a.2 in
    let next : ℕ → Result Changed Refusal = λ moment. unless (list_any (is_held_as (key_after b.0.key m)) (others a.0 plans)) refusal.AlreadyHeld (Ok (record { plans = with_plan plans a.0 (amended_plan moment m b.0); number = a.0 })) in
    let d = unless-ok (changes_key m b.0.key) refusal.KeyChange (moved_to now b.0.off_block m.departure >>= next) c b.1 in
    let f = then-ok (moved_to now b.0.off_block m.departure) next c d in
    let made : Changed = record { plans = with_plan plans a.0 (amended_plan f.0 m b.0); number = a.0 } in
    let k = unless-ok (list_any (is_held_as (key_after b.0.key m)) (others a.0 plans)) refusal.AlreadyHeld (Ok made) c f.1 in
    same-in plans made.plans a.0 c (ok-same made c k) a.1 (same-with plans (amended_plan f.0 m b.0) a.0 a.1)
