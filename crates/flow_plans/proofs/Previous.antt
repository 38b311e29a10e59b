-- What plans were before a change of one of them.
use Rattle.std.proofs.Common.{◌≡◌, ℕ, zero, suc, ◌-◌, ◌<◌, ◌≤◌, List, [], ◌∷◌, length, take, Option, Some, None, slice_get, slice_set, refl, ap, arith}
use Rattle.std.specs.Option.{option_map_or}
use Rattle.flow_plans.specs.Plans.{PlanView, plan_at, with_plan, changed_at}
use Rattle.flow_plans.proofs.Keepings.{set-there}

-- the first ones are among all
pub first-there : {X : Type 0} (k : ℕ) (ps : List X) (i : ℕ) → i < k → slice_get (take k ps) i ≡ slice_get ps i
first-there zero ps i h = absurd (omega (arith, h))
first-there (suc k) [] i h = refl
first-there (suc k) (p ∷ ps) zero h = refl
first-there (suc k) (p ∷ ps) (suc i) h = first-there k ps i (omega (arith, h))

-- and none comes after them
pub first-end : {X : Type 0} (k : ℕ) (ps : List X) (i : ℕ) → k ≤ i → slice_get (take k ps) i ≡ None
first-end zero ps i h = refl
first-end (suc k) [] i h = refl
first-end (suc k) (p ∷ ps) zero h = absurd (omega (arith, h))
first-end (suc k) (p ∷ ps) (suc i) h = first-end k ps i (omega (arith, h))

-- another plan stays
set-elsewhere : (ps : List PlanView) (j i : ℕ) (p : PlanView) → (i ≡ j → ⊥) → slice_get (slice_set ps j p) i ≡ slice_get ps i
set-elsewhere [] j i p ne = refl
set-elsewhere (q ∷ ps) zero zero p ne = absurd (ne refl)
set-elsewhere (q ∷ ps) zero (suc i) p ne = refl
set-elsewhere (q ∷ ps) (suc j) zero p ne = refl
set-elsewhere (q ∷ ps) (suc j) (suc i) p ne = set-elsewhere ps j i p (λ e. ne (ap suc e))

with-elsewhere : (ps : List PlanView) (m n : ℕ) (p : PlanView) → 0 < m → 0 < n → (n ≡ m → ⊥) → plan_at (with_plan ps m p) n ≡ plan_at ps n
with-elsewhere ps m n p a b ne = set-elsewhere ps (m - 1) (n - 1) p (λ e. ne (omega (arith, a, b, e)))

pub changed-elsewhere : (f : PlanView → PlanView) (ps : List PlanView) (m n : ℕ) → 0 < m → 0 < n → (n ≡ m → ⊥) → plan_at (changed_at f m ps) n ≡ plan_at ps n
unfolding changed_at
changed-elsewhere f ps m n a b ne = by (plan_at ps m) where
  by : (o : Option PlanView) → plan_at (option_map_or (λ p. with_plan ps m (f p)) o ps) n ≡ plan_at ps n
  by None = refl
  by (Some p) = with-elsewhere ps m n (f p) a b ne

-- the plan itself changes
pub changed-own : (f : PlanView → PlanView) (ps : List PlanView) (n : ℕ) (p : PlanView) → n - 1 < length ps → plan_at ps n ≡ Some p → plan_at (changed_at f n ps) n ≡ Some (f p)
unfolding changed_at
changed-own f ps n p h there = rw there (set-there ps (n - 1) (f p) h)
