-- The CTOT last issued, by plan number.
use Rattle.std.proofs.Common.{◌≡◌, ◌∙◌, ◌+◌, ◌-◌, ◌<◌, ◌≤◌, ℕ, zero, suc, List, [], ◌∷◌, ◌++◌, length, refl, ap, arith, Bool, true, false, nat_le, Option, None, slice_get}
use Rattle.std.proofs.lemmas.Bool.{leb-true, leb-false}
use Rattle.flow_regulations.specs.Quiet.{told_at}
use Rattle.flow_plans.specs.Plans.{PlanView}
use Rattle.flow_regulations.specs.declared.notice.Told.{Told}
use Rattle.flow_traffic.specs.Answers.{told_to}

-- nothing is added if each plan has its entry
pub told_to-same : (ps : List PlanView) (ts : List (Option Told)) → length ts ≡ length ps → told_to ps ts ≡ ts
told_to-same [] [] e = refl
told_to-same [] (t ∷ ts) e = absurd (omega arith)
told_to-same (p ∷ ps) [] e = absurd (omega arith)
told_to-same (p ∷ ps) (t ∷ ts) e =
    let e' : length ts ≡ length ps = omega arith in ap (λ (xs : List (Option Told)). t ∷ xs) (told_to-same ps ts e')

-- and to a new plan nothing was issued yet
pub told_to-new : (ps : List PlanView) (ts : List (Option Told)) → length ps ≡ length ts + 1 → told_to ps ts ≡ ts ++ None ∷ []
told_to-new [] ts e = absurd (omega arith)
told_to-new (p ∷ ps) (t ∷ ts) e =
    let e' : length ps ≡ length ts + 1 = omega arith in ap (λ (xs : List (Option Told)). t ∷ xs) (told_to-new ps ts e')
told_to-new (p ∷ []) [] e = refl
told_to-new (p ∷ q ∷ ps) [] e = absurd (omega arith)

get-more : (ts : List (Option Told)) (t : Option Told) (i : ℕ) → (i ≡ length ts → ⊥) → slice_get (ts ++ t ∷ []) i ≡ slice_get ts i
get-more [] t zero ne = absurd (ne refl)
get-more [] t (suc i) ne = refl
get-more (u ∷ ts) t zero ne = refl
get-more (u ∷ ts) t (suc i) ne = get-more ts t i (λ e. ne (omega (arith, e)))

-- what was issued to the others stays
pub told-others : (ps : List PlanView) (told after : List (Option Told)) (n f : ℕ) → after ≡ told_to ps told → length told ≤ length ps → length ps ≤ length told + 1
    → (length told < length ps → n ≡ length ps) → 0 < f → (f ≡ n → ⊥) → told_at after f ≡ told_at told f
told-others ps told after n f is one more last some ne = ap (λ (ts : List (Option Told)). told_at ts f) is ∙ by (nat_le (length ps) (length told)) refl where
  by : (b : Bool) → nat_le (length ps) (length told) ≡ b → told_at (told_to ps told) f ≡ told_at told f
  by true e = ap (λ (ts : List (Option Told)). told_at ts f) (told_to-same ps told (omega (arith, one, leb-true (length ps) (length told) e)))
  by false e =
      let grown : length told < length ps = leb-false (length ps) (length told) e in
      let number : n ≡ length ps = last grown in
      ap (λ (ts : List (Option Told)). told_at ts f) (told_to-new ps told (omega (arith, more, grown)))
      ∙ get-more told None (f - 1) (λ q. ne (omega (arith, q, number, more, grown, some)))
