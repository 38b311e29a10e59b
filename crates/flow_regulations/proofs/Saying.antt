-- What one plan is issued, and that it is then quiet.
use Rattle.std.proofs.Common.{◌≡◌, cond, Bool, eqb, true, false, [], Option, None, Some, refl, ap}
use Rattle.std.proofs.lemmas.Bool.{eq-eqb}
use Rattle.flow_plans.specs.Plans.{PlanView, is_departed}
use Rattle.flow_regulations.specs.declared.notice.Told.{Told}
use Rattle.flow_regulations.specs.declared.notice.Said.{Said}
use Rattle.flow_regulations.specs.declared.notice.Said.TheVariants.{Srm}
use Rattle.flow_regulations.specs.Notices.{says, told_then, notice_of, notices_to, told_to_plan}

-- if there is no notice, what was issued stays
pub says-none : (t a : Option Told) → says t a ≡ None → told_then t a ≡ t
says-none None None = λ e. refl
says-none None (Some new) = λ e. cc
says-none (Some old) None = λ e. cc
says-none (Some old) (Some new) =
    elim (eqb old.ctot new.ctot) as (λ b. cond b None (Some (Srm new)) ≡ None → cond b (Some old) (Some new) ≡ Some old) [ true ↦ (λ e. refl) | false ↦ (λ e. cc) ]

-- the same advice once more says nothing
says-again : (t a : Option Told) → says (told_then t a) a ≡ None
says-again None None = refl
says-again None (Some new) = ap (λ b. cond b None (Some (Srm new))) (eq-eqb new.ctot new.ctot refl)
says-again (Some old) None = refl
says-again (Some old) (Some new) = by (eqb old.ctot new.ctot) refl
  where
    by : (b : Bool) → eqb old.ctot new.ctot ≡ b → says (cond b (Some old) (Some new)) (Some new) ≡ None
    by true e = ap (λ b. cond b None (Some (Srm new))) e
    by false e = ap (λ b. cond b None (Some (Srm new))) (eq-eqb new.ctot new.ctot refl)

notice-none : (p : PlanView) (s : Option Said) → notice_of p s ≡ [] → s ≡ None
notice-none p None e = refl
notice-none p (Some s) e = cc

-- a plan that was issued its advice is quiet
pub quiet-after : (p : PlanView) (t a : Option Told) → notices_to p (told_to_plan p t a) a ≡ []
quiet-after p t a =
    elim (is_departed p.state) as (λ b. cond b [] (notice_of p (says (cond b t (told_then t a)) a)) ≡ []) [ true ↦ refl | false ↦ ap (λ s. notice_of p s) (says-again t a) ]

-- and what was issued to a quiet plan stays
pub quiet-told : (p : PlanView) (t a : Option Told) → notices_to p t a ≡ [] → told_to_plan p t a ≡ t
quiet-told p t a =
    elim (is_departed p.state) as (λ b. cond b [] (notice_of p (says t a)) ≡ [] → cond b t (told_then t a) ≡ t)
    [ true ↦ (λ e. refl) | false ↦ (λ e. says-none t a (notice-none p (says t a) e)) ]
