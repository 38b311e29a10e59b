-- The CTOTs issued to plans, restored after they changed.
use Rattle.std.proofs.Common.{◌≡◌, ◌∙◌, ◌+◌, ◌-◌, ◌<◌, ◌≤◌, ℕ, zero, suc, List, [], ◌∷◌, ◌++◌, length, take, refl, sym, ap, subst, arith, Bool, true, false, ◌||◌, eqb, nat_le, Option, Some, None, IfSome, slice_get, slice_set}
use mathlib.Core.Logic.{⊎_elim}
use Rattle.std.specs.List.{AllByRecursion}
use Rattle.std.proofs.lemmas.Bool.{cases_eq, ne_eqb, leb-true, leb-false}
use Rattle.std.proofs.lemmas.List.{length-set}
use Rattle.std.proofs.lemmas.Option.{slice_get_within}
use Rattle.std.proofs.Math.Seq.{take-length, take-append_seam}
use Rattle.flow_plans.specs.Plans.{PlanView}
use Rattle.flow_slots.specs.Assignment.{is_in}
use Rattle.flow_regulations.specs.declared.notice.Told.{Told}
use Rattle.flow_regulations.specs.Regulations.{Regulation}
use Rattle.flow_regulations.specs.Advice.{advice}
use Rattle.flow_regulations.specs.Notices.{told_from}
use Rattle.flow_regulations.specs.Quiet.{IsQuiet, AreQuietBut}
use Rattle.flow_regulations.proofs.Saying.{quiet-told}
use Rattle.flow_traffic.specs.Telling.{AreTold, told_again}
use Rattle.flow_traffic.specs.Answers.{told_to}
use Rattle.flow_traffic.proofs.Both.{some-same}
use Rattle.flow_traffic.proofs.Telling.{told_to-same, told_to-new}

pub told-more : (ns : List ℕ) (told os : List (Option Told)) (n : ℕ) (o : Option Told) → AreTold ns told os → slice_get told (n - 1) ≡ Some o → AreTold (ns ++ n ∷ []) told (os ++ o ∷ [])
told-more [] told [] n o h here = (here, tt)
told-more [] told (p ∷ os) n o h here = absurd h
told-more (m ∷ ns) told [] n o h here = absurd h
told-more (m ∷ ns) told (p ∷ os) n o h here = (h.0, told-more ns told os n o h.1 here)

pub again-more : (ns : List ℕ) (os ts : List (Option Told)) (n : ℕ) (o : Option Told) → length os ≡ length ns → told_again (ns ++ n ∷ []) (os ++ o ∷ []) ts ≡ slice_set (told_again ns os ts) (n - 1) o
again-more [] [] ts n o e = refl
again-more [] (p ∷ os) ts n o e = absurd (omega (arith, e))
again-more (m ∷ ns) [] ts n o e = absurd (omega (arith, e))
again-more (m ∷ ns) (p ∷ os) ts n o e = again-more ns os (slice_set ts (m - 1) p) n o (omega (arith, e))

-- the others stay
pub set-other : (ts : List (Option Told)) (j i : ℕ) (o : Option Told) → (i ≡ j → ⊥) → slice_get (slice_set ts j o) i ≡ slice_get ts i
set-other [] j i o ne = refl
set-other (t ∷ ts) zero zero o ne = absurd (ne refl)
set-other (t ∷ ts) zero (suc i) o ne = refl
set-other (t ∷ ts) (suc j) zero o ne = refl
set-other (t ∷ ts) (suc j) (suc i) o ne = set-other ts j i o (λ e. ne (ap suc e))

set-same : (ts : List (Option Told)) (j : ℕ) (o : Option Told) → j < length ts → slice_get (slice_set ts j o) j ≡ Some o
set-same [] j o h = absurd (omega (arith, h))
set-same (t ∷ ts) zero o h = refl
set-same (t ∷ ts) (suc j) o h = set-same ts j o (omega (arith, h))

same-all : (ts us : List (Option Told)) → length ts ≡ length us → ((i : ℕ) → slice_get ts i ≡ slice_get us i) → ts ≡ us
same-all [] [] e h = refl
same-all [] (u ∷ us) e h = absurd (omega (arith, e))
same-all (t ∷ ts) [] e h = absurd (omega (arith, e))
same-all (t ∷ ts) (u ∷ us) e h =
    ap (λ (x : Option Told). x ∷ ts) (some-same (Some t) t u refl (h zero)) ∙ ap (λ (xs : List (Option Told)). u ∷ xs) (same-all ts us (omega (arith, e)) (λ i. h (suc i)))

again-same : (ns : List ℕ) (os ts us : List (Option Told)) → length ts ≡ length us → AllByRecursion (λ n. 0 < n) ns → AreTold ns us os
    → ((i : ℕ) → is_in (i + 1) ns ≡ false → slice_get ts i ≡ slice_get us i) → told_again ns os ts ≡ us
again-same [] os ts us e some told same = same-all ts us e (λ i. same i refl)
again-same (n ∷ ns) [] ts us e some told same = absurd told
again-same (n ∷ ns) (o ∷ os) ts us e some told same = again-same ns os (slice_set ts (n - 1) o) us (length-set ts (n - 1) o ∙ e) some.1 told.1 each where
  within : n - 1 < length ts
  within = omega (arith, e, slice_get_within us (n - 1) o told.0)

  each : (i : ℕ) → is_in (i + 1) ns ≡ false → slice_get (slice_set ts (n - 1) o) i ≡ slice_get us i
  each i out = ⊎_elim own other (cases_eq i (n - 1)) where
    own : i ≡ n - 1 → slice_get (slice_set ts (n - 1) o) i ≡ slice_get us i
    own q = ap (λ k. slice_get (slice_set ts (n - 1) o) k) q ∙ set-same ts (n - 1) o within ∙ sym told.0 ∙ ap (λ k. slice_get us k) (sym q)

    other : (i ≡ n - 1 → ⊥) → slice_get (slice_set ts (n - 1) o) i ≡ slice_get us i
    other ne =
        let apart : eqb n (i + 1) ≡ false = ne_eqb n (i + 1) (λ q. ne (omega (arith, q))) in
        set-other ts (n - 1) i o ne ∙ same i (ap (λ b. b || is_in (i + 1) ns) apart ∙ out)

-- a quiet plan is issued what it was
told-at : (f n taxi : ℕ) (regulations : List Regulation) (ps : List PlanView) (ts : List (Option Told)) (i : ℕ) → f ≡ n + i → length ts ≡ length ps
    → IfSome (slice_get ps i) (λ p. IfSome (slice_get ts i) (λ t. IsQuiet taxi f regulations p t)) → slice_get (told_from n taxi regulations ps ts) i ≡ slice_get ts i
told-at f n taxi regulations [] [] i e l q = refl
told-at f n taxi regulations [] (t ∷ ts) i e l q = absurd (omega (arith, l))
told-at f n taxi regulations (p ∷ ps) [] i e l q = absurd (omega (arith, l))
told-at f n taxi regulations (p ∷ ps) (t ∷ ts) zero e l q =
    let same : f ≡ n = omega (arith, e) in
    let Q : ℕ → Type 0 = λ m. IsQuiet taxi m regulations p t in
    ap Some (quiet-told p t (advice taxi n p regulations) (subst Q same q))
told-at f n taxi regulations (p ∷ ps) (t ∷ ts) (suc i) e l q = told-at f (n + 1) taxi regulations ps ts i (omega (arith, e)) (omega (arith, l)) q

-- what was issued is restored if it changed, and all plans have the CTOTs that they had
pub told-undone : (taxi : ℕ) (regulations : List Regulation) (plans : List PlanView) (told new : List (Option Told)) (changed : List ℕ) (noted : List (Option Told))
    → new ≡ told_from 1 taxi regulations plans told → length told ≡ length plans → length new ≡ length plans → AreQuietBut changed taxi regulations plans told
    → AreTold changed told noted → AllByRecursion (λ n. 0 < n) changed → told_again changed noted new ≡ told
told-undone taxi regulations plans told new changed noted is each each_new quiet told_is some =
    again-same changed noted new told (each_new ∙ sym each) some told_is (λ i out.
    let back : i + 1 - 1 ≡ i = omega arith in
    let Q : ℕ → Type 0 = λ k. IfSome (slice_get plans k) (λ p. IfSome (slice_get told k) (λ t. IsQuiet taxi (i + 1) regulations p t)) in
    ap (λ (ts : List (Option Told)). slice_get ts i) is ∙ told-at (i + 1) 1 taxi regulations plans told i (omega arith) each (subst Q back (quiet (i + 1) (omega arith) out)))

-- the entry of a new plan is removed
pub told_to-undone : (plans : List PlanView) (told : List (Option Told)) (count : ℕ) → length told ≡ count → count ≤ length plans → length plans ≤ count + 1 → take count (told_to plans told) ≡ told
told_to-undone plans told count e one more = by (nat_le (length plans) (length told)) refl where
  by : (b : Bool) → nat_le (length plans) (length told) ≡ b → take count (told_to plans told) ≡ told
  by true q =
      ap (λ (ts : List (Option Told)). take count ts) (told_to-same plans told (omega (arith, one, e, leb-true (length plans) (length told) q)))
      ∙ ap (λ k. take k told) (sym e) ∙ take-length told
  by false q =
      ap (λ (ts : List (Option Told)). take count ts) (told_to-new plans told (omega (arith, more, e, leb-false (length plans) (length told) q)))
      ∙ ap (λ k. take k (told ++ None ∷ [])) (sym e) ∙ take-append_seam told (None ∷ [])
