-- The flights that enter, collected plan by plan.
use Rattle.std.proofs.Common.{◌≡◌, ℕ, zero, suc, ◌+◌, ◌-◌, ◌<◌, ◌≤◌, List, [], ◌∷◌, ◌++◌, length, take, get_or, Option, Some, None, refl, sym, ap, subst, ◌∙◌, arith}
use Rattle.std.specs.Prelude.{IfSome, IsSome}
use Rattle.std.specs.List.{slice_get}
use Rattle.std.proofs.lemmas.List.{append-nil, take_more, take_all, length-take-le}
use Rattle.std.proofs.lemmas.Option.{get_or_from_slice_get}
use Rattle.flow_slots.specs.declared.cell.Planned.{Planned}
use Rattle.flow_plans.specs.Plans.{PlanView, plan_at}
use Rattle.flow_plans.specs.Entries.{entering, entering_from, NoneEarlier}
use Rattle.flow_plans.proofs.Departures.{of-some}

-- there is a plan of each number
there : (ps : List PlanView) (i : ℕ) → i < length ps → (p : PlanView) × (slice_get ps i ≡ Some p)
there [] i h = absurd (omega arith)
there (p ∷ ps) zero h = (p, refl)
there (p ∷ ps) (suc i) h = there ps i (omega arith)

-- one more plan, the last
entering-append : (o : Option ℕ) (f : ℕ) (ws vs : List Planned) → entering o f (ws ++ vs) ≡ entering o f ws ++ vs
entering-append None f ws vs = refl
entering-append (Some e) f ws vs = refl

from-append : (n k : ℕ) (entry : PlanView → Option ℕ) (ps : List PlanView) (p : PlanView) → n ≡ k + length ps → entering_from k entry (ps ++ p ∷ []) ≡ entering_from k entry ps ++ entering (entry p) n []
from-append n k entry [] p e = (let same : k ≡ n = omega (arith, e) in ap (λ m. entering (entry p) m []) same)
from-append n k entry (q ∷ ps) p e =
    ap (entering (entry q) k) (from-append n (k + 1) entry ps p (omega (arith, e)))
    ∙ entering-append (entry q) k (entering_from (k + 1) entry ps) (entering (entry p) n [])

-- no flight has an earlier off-block time, as some are added and the time falls
lower : (first before : ℕ) (plans : List PlanView) (flight : ℕ) → first ≤ before → IfSome (plan_at plans flight) (λ p. before ≤ p.off_block) → IfSome (plan_at plans flight) (λ p. first ≤ p.off_block)
lower first before plans flight low h = by (plan_at plans flight) h where
  by : (o : Option PlanView) → IfSome o (λ p. before ≤ p.off_block) → IfSome o (λ p. first ≤ p.off_block)
  by None h = h
  by (Some p) h = omega (arith, low, h)

lower-and : (first before : ℕ) (plans : List PlanView) (ws vs : List Planned) → first ≤ before → NoneEarlier before plans ws → NoneEarlier first plans vs → NoneEarlier first plans (ws ++ vs)
lower-and first before plans [] vs low h k = k
lower-and first before plans (w ∷ ws) vs low h k = (lower first before plans w.flight low h.0, lower-and first before plans ws vs low h.1 k)

-- one more flight, if it enters
one-more : (first n : ℕ) (plans : List PlanView) (p : PlanView) (o : Option ℕ) → plan_at plans n ≡ Some p → (IsSome o → first ≤ p.off_block) → NoneEarlier first plans (entering o n [])
one-more first n plans p None at own = tt
one-more first n plans p (Some e) at own =
    let P : Option PlanView → Type 0 = λ v. IfSome v (λ q. first ≤ q.off_block) in
    (subst P (sym at) (own refl), tt)

if-some : (Q : PlanView → Type 0) (o : Option PlanView) (p : PlanView) → o ≡ Some p → IfSome o Q → Q p
if-some Q o p e h = (let R : Option PlanView → Type 0 = λ v. IfSome v Q in subst R e h)

-- one more plan
pub noted-on : (entry : PlanView → Option ℕ) (n : ℕ) (plans : List PlanView) (o : Option ℕ) (noted items : List Planned) → 0 < n → n ≤ length plans → IfSome (plan_at plans n) (λ p. o ≡ entry p)
    → noted ≡ entering_from 1 entry (take (n - 1) plans) → items ≡ noted ++ entering o n [] → items ≡ entering_from 1 entry (take (n + 1 - 1) plans)
noted-on entry n plans o noted items some within is so_far made =
    let p = there plans (n - 1) (omega (arith, some, within)) in
    let found : get_or plans (n - 1) p.0 ≡ p.0 = get_or_from_slice_get plans (n - 1) p.0 p.0 p.1 in
    let more : take (n - 1 + 1) plans ≡ take (n - 1) plans ++ p.0 ∷ [] = take_more plans (n - 1) p.0 (omega (arith, some, within)) ∙ ap (λ v. take (n - 1) plans ++ v ∷ []) found in
    let len : length (take (n - 1) plans) ≡ n - 1 = length-take-le (n - 1) plans (omega (arith, within)) in
    let step = ap (entering_from 1 entry) more ∙ from-append n 1 entry (take (n - 1) plans) p.0 (omega (arith, some, len)) in
    let end : n - 1 + 1 ≡ n + 1 - 1 = omega (arith, some) in
    made ∙ (ap (λ v. v ++ entering o n []) so_far ∙ (ap (λ v. entering_from 1 entry (take (n - 1) plans) ++ entering v n []) (if-some (λ q. o ≡ entry q) (plan_at plans n) p.0 p.1 is) ∙ (sym step ∙ ap (λ m. entering_from 1 entry (take m plans)) end)))

pub earlier-on : (n first before own : ℕ) (plans : List PlanView) (o : Option ℕ) (noted items : List Planned) → 0 < n → n ≤ length plans → IfSome (plan_at plans n) (λ p. own ≡ p.off_block)
    → first ≤ before → (IsSome o → first ≤ own) → NoneEarlier before plans noted → items ≡ noted ++ entering o n [] → NoneEarlier first plans items
earlier-on n first before own plans o noted items some within is low least none made =
    let p = there plans (n - 1) (omega (arith, some, within)) in
    let same : own ≡ p.0.off_block = if-some (λ q. own ≡ q.off_block) (plan_at plans n) p.0 p.1 is in
    subst (NoneEarlier first plans) (sym made) (lower-and first before plans noted (entering o n []) low none (one-more first n plans p.0 o p.1 (λ h. (let l = least h in omega (arith, l, same)))))

-- plans to whose flights the regulation doesn't apply
pub noted-pass : (entry : PlanView → Option ℕ) (k from n : ℕ) (plans : List PlanView) (items : List Planned) → n ≡ from + k → 0 < from → n ≤ length plans + 1 → ((m : ℕ) → from ≤ m → m < n → IfSome (plan_at plans m) (λ p. entry p ≡ None))
    → items ≡ entering_from 1 entry (take (from - 1) plans) → items ≡ entering_from 1 entry (take (n - 1) plans)
noted-pass entry zero from n plans items e some within none so_far =
    let same : from ≡ n = omega (arith, e) in
    so_far ∙ ap (λ m. entering_from 1 entry (take (m - 1) plans)) same
noted-pass entry (suc k) from n plans items e some within none so_far =
    noted-pass entry k (from + 1) n plans items (omega (arith, e)) (omega arith) within (λ m low high. none m (omega (arith, low)) high)
    (noted-on entry from plans None items items some (omega (arith, e, within)) (of-some (plan_at plans from) (λ p. entry p ≡ None) (λ p. None ≡ entry p) (λ p q. sym q) (none from (omega arith) (omega (arith, e)))) so_far (sym (append-nil items)))

-- all plans
pub noted-all : (entry : PlanView → Option ℕ) (n : ℕ) (plans : List PlanView) (items : List Planned) → length plans < n → items ≡ entering_from 1 entry (take (n - 1) plans) → items ≡ entering_from 1 entry plans
noted-all entry n plans items past so_far = so_far ∙ ap (entering_from 1 entry) (take_all (n - 1) plans (omega (arith, past)))

-- no more flights than plans
pub entering-few : (k : ℕ) (entry : PlanView → Option ℕ) (ps : List PlanView) → length (entering_from k entry ps) ≤ length ps
entering-few k entry [] = omega arith
entering-few k entry (p ∷ ps) = by (entering-few (k + 1) entry ps) (entry p) where
  by : length (entering_from (k + 1) entry ps) ≤ length ps → (o : Option ℕ) → length (entering o k (entering_from (k + 1) entry ps)) ≤ length (p ∷ ps)
  by again None = omega (arith, again)
  by again (Some e) = omega (arith, again)
