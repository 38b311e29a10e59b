-- The CTOTs issued to plans before, in the order of their numbers.
use Rattle.std.proofs.Common.{◌≡◌, ◌∙◌, ◌-◌, ◌<◌, ◌≤◌, ℕ, zero, suc, List, [], ◌∷◌, length, map, take, refl, sym, ap, subst, arith, Bool, true, false, ◌||◌, eqb, nat_lt, Option, None, slice_get, slice_set}
use Rattle.std.specs.Option.{option_map_or}
use Rattle.std.specs.List.{AllByRecursion}
use Rattle.std.specs.List.Sorted.{IsStrictlyIncreasing}
use Rattle.std.proofs.lemmas.Bool.{eq-eqb, true≢false, ltb-true, ltb-false}
use Rattle.std.proofs.lemmas.Option.{slice_get_past}
use Rattle.flow_plans.specs.Plans.{PlanView, plan_at}
use Rattle.flow_plans.proofs.Previous.{first-there, first-end}
use Rattle.flow_slots.specs.Assignment.{is_in}
use Rattle.flow_regulations.specs.declared.notice.Told.{Told}
use Rattle.flow_regulations.specs.Listing.{AreSameBut}
use Rattle.flow_traffic.specs.Traffic.{told_of}
use Rattle.flow_traffic.specs.Telling.{AreTold, told_again}
use Rattle.flow_traffic.specs.Answers.{told_to}
use Rattle.flow_traffic.specs.Undoing.{UndoingView, AreNoted}
use Rattle.flow_traffic.proofs.ToldAgain.{set-other}

abbrev told-in : List (Option Told) → ℕ → Option Told
told-in ts i = option_map_or (λ t. t) (slice_get ts i) None

-- what was recorded of plans is the CTOTs issued to them
pub told-were : (ns : List ℕ) (told os : List (Option Told)) → AreTold ns told os → os ≡ map (told_of told) ns
told-were [] told [] h = refl
told-were [] told (o ∷ os) h = absurd h
told-were (n ∷ ns) told [] h = absurd h
told-were (n ∷ ns) told (o ∷ os) h =
    ap (λ (x : Option Told). x ∷ os) (sym (ap (λ (x : Option (Option Told)). option_map_or (λ t. t) x None) h.0))
    ∙ ap (λ (xs : List (Option Told)). told_of told n ∷ xs) (told-were ns told os h.1)

-- to a new plan nothing was issued, as to one that there is not
new-told : (ps : List PlanView) (ts : List (Option Told)) (i : ℕ) → length ts ≤ length ps → told-in (told_to ps ts) i ≡ told-in ts i
new-told [] [] i e = refl
new-told [] (t ∷ ts) i e = absurd (omega (arith, e))
new-told (p ∷ ps) [] zero e = refl
new-told (p ∷ ps) [] (suc i) e = new-told ps [] i (omega arith)
new-told (p ∷ ps) (t ∷ ts) zero e = refl
new-told (p ∷ ps) (t ∷ ts) (suc i) e = new-told ps ts i (omega (arith, e))

new-told-all : (ps : List PlanView) (ts : List (Option Told)) (ns : List ℕ) → length ts ≤ length ps → map (told_of (told_to ps ts)) ns ≡ map (told_of ts) ns
new-told-all ps ts [] e = refl
new-told-all ps ts (n ∷ ns) e =
    ap (λ (o : Option Told). o ∷ map (told_of (told_to ps ts)) ns) (new-told ps ts (n - 1) e)
    ∙ ap (λ (os : List (Option Told)). told_of ts n ∷ os) (new-told-all ps ts ns e)

-- if no plan changed
pub same-noted : (r : UndoingView) (plans : List PlanView) (told : List (Option Told)) → IsStrictlyIncreasing r.changed → length told ≡ length plans → r.noted ≡ map (told_of told) r.changed
    → AreNoted r plans plans told
same-noted r plans told rising each were = record { rising = rising; each = each; others = λ n some out. refl; were = were }

one-rises : (n : ℕ) → IsStrictlyIncreasing (n ∷ [])
one-rises n k h = absurd (omega (arith, h))

apart : (f n : ℕ) → is_in f (n ∷ []) ≡ false → f ≡ n → ⊥
apart f n out e = true≢false (sym (ap (λ b. b || false) (eq-eqb n f (sym e))) ∙ out)

-- if one did
pub one-noted : (r : UndoingView) (n : ℕ) (plans before : List PlanView) (told mid : List (Option Told)) → r.changed ≡ n ∷ [] → AreSameBut n before plans
    → mid ≡ told_to plans told → length told ≡ length before → length told ≤ length plans → r.noted ≡ map (told_of mid) r.changed → AreNoted r plans before told
one-noted r n plans before told mid one same place each few were = record {
  rising = (let P : List ℕ → Type 0 = IsStrictlyIncreasing in subst P (sym one) (one-rises n));
  each = each;
  others = λ f some out. same f some (apart f n (ap (λ ns. is_in f ns) (sym one) ∙ out));
  were = were ∙ ap (λ (ts : List (Option Told)). map (told_of ts) r.changed) place ∙ new-told-all plans told r.changed few;
}

-- ---- the others

or-false : (a b : Bool) → (a || b) ≡ false → (a ≡ false) × (b ≡ false)
or-false true b e = absurd (true≢false e)
or-false false b e = (refl, e)

-- what is restored is restored of no other plan
again-others : (ns : List ℕ) (os ts : List (Option Told)) (n : ℕ) → 0 < n → AllByRecursion (λ m. 0 < m) ns → is_in n ns ≡ false → slice_get (told_again ns os ts) (n - 1) ≡ slice_get ts (n - 1)
again-others [] os ts n some all out = refl
again-others (m ∷ ns) [] ts n some all out = refl
again-others (m ∷ ns) (o ∷ os) ts n some all out =
    let parts = or-false (eqb m n) (is_in n ns) out in
    let ne : m ≡ n → ⊥ = λ e. true≢false (sym (eq-eqb m n e) ∙ parts.0) in
    again-others ns os (slice_set ts (m - 1) o) n some all.1 parts.1
    ∙ set-other ts (m - 1) (n - 1) o (λ e. ne (omega (arith, e, some, all.0)))

none-past : (ps : List PlanView) (i : ℕ) → slice_get ps i ≡ None → length ps ≤ i
none-past [] i e = omega arith
none-past (p ∷ ps) zero e = absurd (cc)
none-past (p ∷ ps) (suc i) e = omega (arith, none-past ps i e)

-- to the others was issued what is issued now
pub others-told : (r : UndoingView) (plans before : List PlanView) (was told : List (Option Told)) → AreNoted r plans before was → length told ≡ length plans
    → AllByRecursion (λ m. 0 < m) r.changed → (n : ℕ) → 0 < n → is_in n r.changed ≡ false → told_of told n ≡ told_of (take (length before) (told_again r.changed r.noted told)) n
others-told r plans before was told h each all n some out = by (nat_lt (n - 1) (length before)) refl where
  again : List (Option Told)
  again = told_again r.changed r.noted told

  by : (b : Bool) → nat_lt (n - 1) (length before) ≡ b → told_of told n ≡ told_of (take (length before) again) n
  by true e =
      ap (λ (o : Option (Option Told)). option_map_or (λ t. t) o None)
      (sym (first-there (length before) again (n - 1) (ltb-true (n - 1) (length before) e) ∙ again-others r.changed r.noted told n some all out))
  by false e =
      let past : length before ≤ n - 1 = ltb-false (n - 1) (length before) e in
      let gone : plan_at plans n ≡ None = h.others n some out ∙ slice_get_past before (n - 1) past in
      let beyond : length told ≤ n - 1 = omega (arith, each, none-past plans (n - 1) gone) in
      ap (λ (o : Option (Option Told)). option_map_or (λ t. t) o None)
      (slice_get_past told (n - 1) beyond ∙ sym (first-end (length before) again (n - 1) past))
