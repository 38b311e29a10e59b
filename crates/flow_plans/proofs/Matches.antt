-- What a search finds is what the definition of matching says.
use Rattle.std.proofs.Common.{◌≡◌, ℕ, zero, suc, ◌+◌, ◌<◌, ◌≤◌, Bool, true, false, ◌==◌, if◌then◌else◌, List, [], ◌∷◌, length, Ok, Err, refl, ap, ◌∙◌, arith, IfSome, slice_get, ◌&&◌, ◌||◌}
use Rattle.std.proofs.lemmas.Bool.Decides.{nat_tests}
use Rattle.std.specs.List.{list_any}
use Rattle.fpl_message.specs.declared.refusal.Refusal.TheVariants as refusal
use Rattle.flow_plans.specs.declared.matching.Found.{Found}
use Rattle.flow_plans.specs.declared.matching.Found.TheVariants as found
use Rattle.fpl_message.specs.declared.parts.Parts.{Parts}
use Rattle.flow_plans.specs.declared.plan.PlanState.{PlanState}
use Rattle.flow_plans.specs.declared.plan.PlanState.TheVariants as state
use Rattle.flow_plans.specs.Plans.{PlanView, is_filed}
use Rattle.flow_plans.specs.Matching.{agrees, is_candidate, numbers, the_one}
use Rattle.flow_plans.specs.Searching.{with_candidate, with_gone, with_one_more, number_found, passes_at, IsTrueOf, IsCounted}

-- no plan passes
numbers-none : (test : PlanView → Bool) (n : ℕ) (ps : List PlanView) → ((k : ℕ) → passes_at test ps k ≡ false) → numbers test n ps ≡ []
numbers-none test n [] h = refl
numbers-none test n (p ∷ ps) h = let e : test p ≡ false = h zero in rw e (numbers-none test (n + 1) ps (λ k. h (suc k)))

-- a test that is not passed, or else by that one
not-passed : (b : Bool) (k i : ℕ) → (b ≡ true → k ≡ i) → (k ≡ i → ⊥) → b ≡ false
not-passed true k i h apart = absurd (apart (h refl))
not-passed false k i h apart = refl

-- just one plan passes
numbers-one : (test : PlanView → Bool) (n : ℕ) (ps : List PlanView) (i : ℕ) → passes_at test ps i ≡ true → ((k : ℕ) → passes_at test ps k ≡ true → k ≡ i) → numbers test n ps ≡ (n + i) ∷ []
numbers-one test n [] i t u = absurd (cc)
numbers-one test n (p ∷ ps) zero t u =
    let e : test p ≡ true = t in
    let none : numbers test (n + 1) ps ≡ [] = numbers-none test (n + 1) ps (λ k. not-passed (passes_at test ps k) (suc k) zero (u (suc k)) (λ z. omega (arith, z))) in
    rw (e, none) (ap (λ m. m ∷ []) (omega arith))
numbers-one test n (p ∷ ps) (suc i) t u =
    let e : test p ≡ false = not-passed (test p) zero (suc i) (u zero) (λ z. omega (arith, z)) in
    rw e (numbers-one test (n + 1) ps i t (λ k h. let s : suc k ≡ suc i = u (suc k) h in omega (arith, s)) ∙ ap (λ m. m ∷ []) (omega arith))

-- one more besides a first
two-of-rest : (test : PlanView → Bool) (d : Bool) (m n : ℕ) (ps : List PlanView) (i : ℕ) → passes_at test ps i ≡ true → the_one d (m ∷ numbers test n ps) ≡ Err refusal.Ambiguous
two-of-rest test d m n [] i t = absurd (cc)
two-of-rest test d m n (p ∷ ps) zero t = let e : test p ≡ true = t in rw e refl
two-of-rest test d m n (p ∷ ps) (suc i) t =
    elim (test p) as (λ b. the_one d (m ∷ (if b then n ∷ numbers test (n + 1) ps else numbers test (n + 1) ps)) ≡ Err refusal.Ambiguous)
    [ true ↦ refl | false ↦ two-of-rest test d m (n + 1) ps i t ]

-- two plans pass
numbers-two : (test : PlanView → Bool) (d : Bool) (n : ℕ) (ps : List PlanView) (i j : ℕ) → (i ≡ j → ⊥) → passes_at test ps i ≡ true → passes_at test ps j ≡ true → the_one d (numbers test n ps) ≡ Err refusal.Ambiguous
numbers-two test d n [] i j apart s t = absurd (cc)
numbers-two test d n (p ∷ ps) zero zero apart s t = absurd (apart refl)
numbers-two test d n (p ∷ ps) zero (suc j) apart s t = let e : test p ≡ true = s in rw e (two-of-rest test d n (n + 1) ps j t)
numbers-two test d n (p ∷ ps) (suc i) zero apart s t = let e : test p ≡ true = t in rw e (two-of-rest test d n (n + 1) ps i s)
numbers-two test d n (p ∷ ps) (suc i) (suc j) apart s t =
    elim (test p) as (λ b. the_one d (if b then n ∷ numbers test (n + 1) ps else numbers test (n + 1) ps) ≡ Err refusal.Ambiguous)
    [ true ↦ two-of-rest test d n (n + 1) ps i s | false ↦ numbers-two test d (n + 1) ps i j (λ e. apart (ap suc e)) s t ]

pub any-none : (test : PlanView → Bool) (ps : List PlanView) → ((k : ℕ) → passes_at test ps k ≡ false) → list_any test ps ≡ false
any-none test [] h = refl
any-none test (p ∷ ps) h = let e : test p ≡ false = h zero in rw e (any-none test ps (λ k. h (suc k)))

pub any-one : (test : PlanView → Bool) (ps : List PlanView) (i : ℕ) → passes_at test ps i ≡ true → list_any test ps ≡ true
any-one test [] i t = absurd (cc)
any-one test (p ∷ ps) zero t = let e : test p ≡ true = t in rw e refl
any-one test (p ∷ ps) (suc i) t =
    elim (test p) as (λ b. (b || list_any test ps) ≡ true) [ true ↦ refl | false ↦ any-one test ps i t ]

-- what was found, once all plans are counted
pub the_one-found : (test gone : PlanView → Bool) (ps : List PlanView) (f : Found) → IsTrueOf test gone ps f → ((k : ℕ) → IsCounted test gone ps f k) → the_one (list_any gone ps) (numbers test 1 ps) ≡ number_found f
the_one-found test gone ps found.Nothing s c =
    rw (numbers-none test 1 ps (λ k. (c k).0), any-none gone ps (λ k. (c k).1)) refl
the_one-found test gone ps found.Gone s c =
    rw (numbers-none test 1 ps c, any-one gone ps s.0 s.1) refl
the_one-found test gone ps (found.One i) s c = rw (numbers-one test 1 ps i s c) (ap (λ m. Ok m) (omega arith))
the_one-found test gone ps found.Several s c = s (list_any gone ps)

pub passes_at-past : (test : PlanView → Bool) (ps : List PlanView) (k : ℕ) → length ps ≤ k → passes_at test ps k ≡ false
passes_at-past test [] k h = refl
passes_at-past test (p ∷ ps) zero h = absurd (omega (arith, h))
passes_at-past test (p ∷ ps) (suc k) h = passes_at-past test ps k (omega (arith, h))

pub passes_at-within : (test : PlanView → Bool) (ps : List PlanView) (k : ℕ) → passes_at test ps k ≡ true → k < length ps
passes_at-within test [] k t = absurd (cc)
passes_at-within test (p ∷ ps) zero t = omega arith
passes_at-within test (p ∷ ps) (suc k) t = let h : k < length ps = passes_at-within test ps k t in omega (arith, h)

module _ (test gone : PlanView → Bool) (ps : List PlanView) where
  candidate-sound : (f : Found) (i : ℕ) → passes_at test ps i ≡ true → IsTrueOf test gone ps f → IsTrueOf test gone ps (with_candidate i f)
  candidate-sound found.Nothing i t s = t
  candidate-sound found.Gone i t s = t
  candidate-sound (found.One j) i t s = same (j == i) refl where
    same : (b : Bool) → (j == i) ≡ b → IsTrueOf test gone ps (if b then found.One j else found.Several)
    same true e = s
    same false e = λ d. numbers-two test d 1 ps j i (λ h. grind (arith, nat_tests, e, h)) s t
  candidate-sound found.Several i t s = s

  candidate-counted : (f : Found) (i k : ℕ) → IsCounted test gone ps f k → IsCounted test gone ps (with_candidate i f) k
  candidate-counted found.Nothing i k c = λ t. absurd (cc)
  candidate-counted found.Gone i k c = λ t. absurd (cc)
  candidate-counted (found.One j) i k c =
      elim (j == i) as (λ b. IsCounted test gone ps (if b then found.One j else found.Several) k) [ true ↦ c | false ↦ tt ]
  candidate-counted found.Several i k c = tt

  candidate-here : (f : Found) (i : ℕ) → IsCounted test gone ps (with_candidate i f) i
  candidate-here found.Nothing i = λ t. refl
  candidate-here found.Gone i = λ t. refl
  candidate-here (found.One j) i = same (j == i) refl where
    same : (b : Bool) → (j == i) ≡ b → IsCounted test gone ps (if b then found.One j else found.Several) i
    same true e = λ t. grind (arith, nat_tests, e)
    same false e = tt
  candidate-here found.Several i = tt

  gone-sound : (f : Found) (i : ℕ) → passes_at gone ps i ≡ true → IsTrueOf test gone ps f → IsTrueOf test gone ps (with_gone f)
  gone-sound found.Nothing i g s = (i, g)
  gone-sound found.Gone i g s = s
  gone-sound (found.One j) i g s = s
  gone-sound found.Several i g s = s

  gone-counted : (f : Found) (k : ℕ) → IsCounted test gone ps f k → IsCounted test gone ps (with_gone f) k
  gone-counted found.Nothing k c = c.0
  gone-counted found.Gone k c = c
  gone-counted (found.One j) k c = c
  gone-counted found.Several k c = tt

  gone-here : (f : Found) (i : ℕ) → passes_at test ps i ≡ false → IsCounted test gone ps (with_gone f) i
  gone-here found.Nothing i t = t
  gone-here found.Gone i t = t
  gone-here (found.One j) i t = λ u. absurd (cc)
  gone-here found.Several i t = tt

  pub neither-here : (f : Found) (i : ℕ) → passes_at test ps i ≡ false → passes_at gone ps i ≡ false → IsCounted test gone ps f i
  neither-here found.Nothing i t g = (t, g)
  neither-here found.Gone i t g = t
  neither-here (found.One j) i t g = λ u. absurd (cc)
  neither-here found.Several i t g = tt

  pub sound-more : (f : Found) (i : ℕ) (c g : Bool) → passes_at test ps i ≡ c → passes_at gone ps i ≡ g → IsTrueOf test gone ps f → IsTrueOf test gone ps (with_one_more c g i f)
  sound-more f i true g t u s = candidate-sound f i t s
  sound-more f i false true t u s = gone-sound f i u s
  sound-more f i false false t u s = s

  pub counted-more : (f : Found) (i k : ℕ) (c g : Bool) → IsCounted test gone ps f k → IsCounted test gone ps (with_one_more c g i f) k
  counted-more f i k true g h = candidate-counted f i k h
  counted-more f i k false true h = gone-counted f k h
  counted-more f i k false false h = h

  pub counted-here : (f : Found) (i : ℕ) (c g : Bool) → passes_at test ps i ≡ c → passes_at gone ps i ≡ g → IsCounted test gone ps (with_one_more c g i f) i
  counted-here f i true g t u = candidate-here f i
  counted-here f i false true t u = gone-here f i t
  counted-here f i false false t u = neither-here f i t u

-- the candidate that was found is a filed plan
pub passes_at-filed : (parts : Parts) (ps : List PlanView) (i : ℕ) → passes_at (is_candidate parts) ps i ≡ true → IfSome (slice_get ps i) (λ p. p.state ≡ state.Filed)
passes_at-filed parts [] i t = tt
passes_at-filed parts (p ∷ ps) zero t = filed p.state (agrees parts p.key) t where
  filed : (s : PlanState) (b : Bool) → (is_filed s && b) ≡ true → s ≡ state.Filed
  filed state.Filed b h = refl
  filed state.Departed b h = absurd (cc)
  filed state.Cancelled b h = absurd (cc)
passes_at-filed parts (p ∷ ps) (suc i) t = passes_at-filed parts ps i t

pub passes_at-filed-there : (parts : Parts) (ps : List PlanView) (i j : ℕ) → j ≡ i → passes_at (is_candidate parts) ps i ≡ true → IfSome (slice_get ps j) (λ p. p.state ≡ state.Filed)
passes_at-filed-there parts ps i j e t = rw e (passes_at-filed parts ps i t)
