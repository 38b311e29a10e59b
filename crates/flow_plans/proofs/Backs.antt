-- Changes that are undone.
use Rattle.std.proofs.Common.{◌≡◌, ℕ, ◌-◌, ◌<◌, ◌≤◌, refl, List, [], ◌∷◌, arith, length, get_or, ap, sym, ◌∙◌, Some, IfSome, slice_get, slice_set, length-set}
use Rattle.std.proofs.lemmas.List.{set-set, set-get_or, get_or-set_same, get_or_default}
use Rattle.std.proofs.lemmas.Option.{slice_get-get_or}
use Rattle.flow_plans.specs.declared.plan.PlanState.{PlanState}
use Rattle.flow_plans.specs.declared.plan.PlanState.TheVariants as state
use Rattle.flow_plans.specs.Plans.{PlanView, changed_at, with_state, with_off_block}

-- a plan that was replaced and is changed back
pub changed_at-back : (change : PlanView → PlanView) (n : ℕ) (ps : List PlanView) (p q : PlanView) → n - 1 < length ps → p ≡ get_or ps (n - 1) p → change q ≡ p → changed_at change n (slice_set ps (n - 1) q) ≡ ps
unfolding changed_at
changed_at-back change n ps p q h e back =
    let within : n - 1 < length (slice_set ps (n - 1) q) = rw (length-set ps (n - 1) q) h in
    let there : slice_get (slice_set ps (n - 1) q) (n - 1) ≡ Some q =
    slice_get-get_or (slice_set ps (n - 1) q) (n - 1) q within ∙ ap (λ r. Some r) (get_or-set_same ps (n - 1) q q h) in
    rw there (set-set ps (n - 1) q (change q) ∙ ap (λ r. slice_set ps (n - 1) r) (back ∙ e) ∙ set-get_or ps (n - 1) p)

-- a filed plan that is filed again
pub filed-again : (s : PlanState) (ps : List PlanView) (k : ℕ) (p : PlanView) → k < length ps → p ≡ get_or ps k p → IfSome (slice_get ps k) (λ q. q.state ≡ state.Filed) → with_state state.Filed (with_state s p) ≡ p
filed-again s ps k p h e filed =
    let there : slice_get ps k ≡ Some p = slice_get-get_or ps k p h ∙ ap (λ r. Some r) (sym e) in
    let f : p.state ≡ state.Filed = rw there at filed in
    ap (λ (t : PlanState). record p { state = t }) (sym f)

-- a plan that was changed, and is changed back
back-there : (back change : PlanView → PlanView) (n : ℕ) (ps : List PlanView) (p : PlanView) → n - 1 < length ps → p ≡ get_or ps (n - 1) p → back (change p) ≡ p → changed_at back n (changed_at change n ps) ≡ ps
unfolding changed_at
back-there back change n ps p h e same =
    let there : slice_get ps (n - 1) ≡ Some p = slice_get-get_or ps (n - 1) p h ∙ ap (λ r. Some r) (sym e) in
    rw there (changed_at-back back n ps p (change p) h e same)

-- a filed plan that got another state
pub ended-back : (s : PlanState) (n : ℕ) (ps : List PlanView) → n - 1 < length ps → IfSome (slice_get ps (n - 1)) (λ q. q.state ≡ state.Filed) → changed_at (with_state state.Filed) n (changed_at (with_state s) n ps) ≡ ps
ended-back s n [] h filed = absurd (omega (arith, h))
ended-back s n (x ∷ ps) h filed =
    let p : PlanView = get_or (x ∷ ps) (n - 1) x in
    let e : p ≡ get_or (x ∷ ps) (n - 1) p = get_or_default (x ∷ ps) (n - 1) x p h in
    back-there (with_state state.Filed) (with_state s) n (x ∷ ps) p h e (filed-again s (x ∷ ps) (n - 1) p h e filed)

-- a plan that got another off-block time
pub delayed-back : (moment held n : ℕ) (ps : List PlanView) (p : PlanView) → n - 1 < length ps → p ≡ get_or ps (n - 1) p → held ≡ p.off_block → changed_at (with_off_block held) n (changed_at (with_off_block moment) n ps) ≡ ps
delayed-back moment held n ps p h e same =
    back-there (with_off_block held) (with_off_block moment) n ps p h e (ap (λ (m : ℕ). with_off_block m p) same)

-- a plan that was changed at its index
pub changed-there : (change : PlanView → PlanView) (n : ℕ) (ps all : List PlanView) (p q : PlanView) → ps ≡ all → (0 < n) × (n ≤ length all) → p ≡ get_or ps (n - 1) p → q ≡ change p → slice_set ps (n - 1) q ≡ changed_at change n all
unfolding changed_at
changed-there change n ps all p q same within e made =
    let long : length ps ≡ length all = ap length same in
    let h : n - 1 < length ps = omega (arith, long, within.0, within.1) in
    let there : slice_get ps (n - 1) ≡ Some p = slice_get-get_or ps (n - 1) p h ∙ ap (λ r. Some r) (sym e) in
    rw (← same, there, made) refl
