-- Walks along plans and the CTOTs last issued to them, for any rule that says which notice a plan
-- gets, and what is issued to it.
use Rattle.std.proofs.Common.{◌≡◌, ℕ, zero, suc, ◌+◌, ◌<◌, List, [], ◌∷◌, ◌++◌, length, Option, Some, IfSome, refl, sym, ap, ◌∙◌, subst, arith}
use Rattle.std.proofs.Math.ListN.{set}
use Rattle.std.specs.List.{slice_get}
use Rattle.flow_plans.specs.Plans.{PlanView}
use Rattle.flow_regulations.specs.declared.notice.Told.{Told}
use Rattle.flow_regulations.specs.declared.notice.Notice.{Notice}

-- what is said to the plans numbered from n
abbrev pub said_along : (ℕ → PlanView → Option Told → List Notice) → ℕ → List PlanView → List (Option Told) → List Notice
said_along f n [] ts = []
said_along f n (p ∷ ps) [] = []
said_along f n (p ∷ ps) (t ∷ ts) = f n p t ++ said_along f (n + 1) ps ts

-- and what is issued to them
abbrev pub told_along : (ℕ → PlanView → Option Told → Option Told) → ℕ → List PlanView → List (Option Told) → List (Option Told)
told_along g n [] ts = []
told_along g n (p ∷ ps) [] = []
told_along g n (p ∷ ps) (t ∷ ts) = g n p t ∷ told_along g (n + 1) ps ts

-- the plan at this index gets no notice
abbrev pub QuietPlace : (ℕ → PlanView → Option Told → List Notice) → ℕ → List PlanView → List (Option Told) → ℕ → Type 0
QuietPlace f n ps ts k = IfSome (slice_get ps k) (λ p. IfSome (slice_get ts k) (λ t. f (n + k) p t ≡ []))

quiet-next : (f : ℕ → PlanView → Option Told → List Notice) (n k : ℕ) (p : PlanView) (ps : List PlanView) (t : Option Told) (ts : List (Option Told))
    → QuietPlace f n (p ∷ ps) (t ∷ ts) (suc k) → QuietPlace f (n + 1) ps ts k
quiet-next f n k p ps t ts h =
    let e : n + suc k ≡ n + 1 + k = omega arith in
    subst (λ (m : ℕ). IfSome (slice_get ps k) (λ p. IfSome (slice_get ts k) (λ t. f m p t ≡ []))) e h

quiet-first : (f : ℕ → PlanView → Option Told → List Notice) (n : ℕ) (p : PlanView) (t : Option Told) → f (n + zero) p t ≡ [] → f n p t ≡ []
quiet-first f n p t h = let e : n + zero ≡ n = omega arith in subst (λ (m : ℕ). f m p t ≡ []) e h

-- nothing is said to quiet plans
pub said-quiet : (f : ℕ → PlanView → Option Told → List Notice) (n : ℕ) (ps : List PlanView) (ts : List (Option Told))
    → ((k : ℕ) → QuietPlace f n ps ts k) → said_along f n ps ts ≡ []
said-quiet f n [] ts h = refl
said-quiet f n (p ∷ ps) [] h = refl
said-quiet f n (p ∷ ps) (t ∷ ts) h =
    ap (λ xs. xs ++ said_along f (n + 1) ps ts) (quiet-first f n p t (h zero)) ∙ said-quiet f (n + 1) ps ts (λ k. quiet-next f n k p ps t ts (h (suc k)))

-- and what was issued to them stays
pub told-quiet : (f : ℕ → PlanView → Option Told → List Notice) (g : ℕ → PlanView → Option Told → Option Told) (n : ℕ) (ps : List PlanView) (ts : List (Option Told))
    → ((m : ℕ) (p : PlanView) (t : Option Told) → f m p t ≡ [] → g m p t ≡ t) → length ts ≡ length ps → ((k : ℕ) → QuietPlace f n ps ts k)
    → told_along g n ps ts ≡ ts
told-quiet f g n [] [] stays e h = refl
told-quiet f g n [] (t ∷ ts) stays e h = absurd (omega arith)
told-quiet f g n (p ∷ ps) [] stays e h = absurd (omega arith)
told-quiet f g n (p ∷ ps) (t ∷ ts) stays e h =
    let e' : length ts ≡ length ps = omega arith in
    ap (λ u. u ∷ told_along g (n + 1) ps ts) (stays n p t (quiet-first f n p t (h zero)))
    ∙ ap (λ (us : List (Option Told)). t ∷ us) (told-quiet f g (n + 1) ps ts stays e' (λ k. quiet-next f n k p ps t ts (h (suc k))))

-- one plan is issued its advice, and those before it are quiet
pub said-one : (f : ℕ → PlanView → Option Told → List Notice) (n m i : ℕ) (ps : List PlanView) (ts : List (Option Told)) (p : PlanView) (t new : Option Told)
    → m ≡ n + i → slice_get ps i ≡ Some p → slice_get ts i ≡ Some t → f m p new ≡ [] → ((k : ℕ) → k < i → QuietPlace f n ps ts k)
    → said_along f n ps ts ≡ f m p t ++ said_along f n ps (set ts i new)
said-one f n m i [] ts p t new e at was after h = cc
said-one f n m i (q ∷ ps) [] p t new e at was after h = cc
said-one f n m zero (q ∷ ps) (u ∷ ts) p t new e at was after h =
    let same : m ≡ n = omega arith in
    let first : f n q u ≡ f m p t = cc in
    let then : f n q new ≡ [] = cc in
    ap (λ xs. xs ++ said_along f (n + 1) ps ts) first ∙ ap (λ xs. f m p t ++ (xs ++ said_along f (n + 1) ps ts)) (sym then)
said-one f n m (suc i) (q ∷ ps) (u ∷ ts) p t new e at was after h =
    let e' : m ≡ n + 1 + i = omega arith in
    let first = quiet-first f n q u (h zero (omega arith)) in
    ap (λ xs. xs ++ said_along f (n + 1) ps ts) first
    ∙ said-one f (n + 1) m i ps ts p t new e' at was after (λ k lt. quiet-next f n k q ps u ts (h (suc k) (omega arith)))
    ∙ ap (λ xs. f m p t ++ (xs ++ said_along f (n + 1) ps (set ts i new))) (sym first)

-- which changes nothing when it is issued again
pub told-one : (g : ℕ → PlanView → Option Told → Option Told) (n m i : ℕ) (ps : List PlanView) (ts : List (Option Told)) (p : PlanView) (t new : Option Told)
    → m ≡ n + i → slice_get ps i ≡ Some p → slice_get ts i ≡ Some t → g m p new ≡ g m p t
    → told_along g n ps (set ts i new) ≡ told_along g n ps ts
told-one g n m i [] ts p t new e at was again = cc
told-one g n m i (q ∷ ps) [] p t new e at was again = cc
told-one g n m zero (q ∷ ps) (u ∷ ts) p t new e at was again =
    let same : m ≡ n = omega arith in
    let then : g n q new ≡ g n q u = cc in
    ap (λ v. v ∷ told_along g (n + 1) ps ts) then
told-one g n m (suc i) (q ∷ ps) (u ∷ ts) p t new e at was again =
    let e' : m ≡ n + 1 + i = omega arith in
    ap (λ (us : List (Option Told)). g n q u ∷ us) (told-one g (n + 1) m i ps ts p t new e' at was again)

-- what was issued at other indices
pub slice_get-set : (ts : List (Option Told)) (i k : ℕ) (new : Option Told) → (k ≡ i → ⊥) → slice_get (set ts i new) k ≡ slice_get ts k
slice_get-set [] i k new ne = refl
slice_get-set (t ∷ ts) zero zero new ne = absurd (ne refl)
slice_get-set (t ∷ ts) zero (suc k) new ne = refl
slice_get-set (t ∷ ts) (suc i) zero new ne = refl
slice_get-set (t ∷ ts) (suc i) (suc k) new ne = slice_get-set ts i k new (λ e. ne (ap suc e))

pub slice_get-set_same : (ts : List (Option Told)) (i : ℕ) (t new : Option Told) → slice_get ts i ≡ Some t → slice_get (set ts i new) i ≡ Some new
slice_get-set_same [] i t new is = cc
slice_get-set_same (u ∷ ts) zero t new is = refl
slice_get-set_same (u ∷ ts) (suc i) t new is = slice_get-set_same ts i t new is
