-- For the callers of the regulations: which plans a message leaves as they were, and what a closing
-- leaves.
use Rattle.std.proofs.Common.{◌≡◌, ℕ, zero, suc, ◌+◌, ◌-◌, ◌<◌, List, [], ◌∷◌, ◌++◌, length, true, false, Option, Some, None, refl, arith}
use Rattle.std.specs.List.{slice_get}
use Rattle.std.specs.Prelude.{slice_set}
use Rattle.std.specs.Option.{option_map_or}
use Rattle.flow_plans.specs.Plans.{PlanView, plan_at, with_plan, changed_at}
use Rattle.flow_regulations.specs.Settling.{keeps_pair, is_due_flight}
use Rattle.flow_regulations.specs.Listing.{RegulationView, regulation_of, IsListedIn, IsListed, IsSettledIn, IsSettled, IsSettledBut, AreSettledBut, AreSameBut, without_named}
use Rattle.flow_regulations.proofs.FixedOnes.{all-map}
use Rattle.flow_regulations.proofs.Closings.{all-named}

get-append : (xs : List PlanView) (x : PlanView) (i : ℕ) → (i ≡ length xs → ⊥) → slice_get (xs ++ x ∷ []) i ≡ slice_get xs i
get-append [] x zero ne = absurd (ne refl)
get-append [] x (suc i) ne = refl
get-append (y ∷ xs) x zero ne = refl
get-append (y ∷ xs) x (suc i) ne = get-append xs x i (λ e. ne (omega (arith, e)))

get-set : (xs : List PlanView) (x : PlanView) (i j : ℕ) → (i ≡ j → ⊥) → slice_get (slice_set xs j x) i ≡ slice_get xs i
get-set [] x i j ne = refl
get-set (y ∷ xs) x zero zero ne = absurd (ne refl)
get-set (y ∷ xs) x (suc i) zero ne = refl
get-set (y ∷ xs) x zero (suc j) ne = refl
get-set (y ∷ xs) x (suc i) (suc j) ne = get-set xs x i j (λ e. ne (omega (arith, e)))

-- one more plan is the last
pub same-filed : (before : List PlanView) (p : PlanView) (n : ℕ) → n ≡ length before + 1 → AreSameBut n before (before ++ p ∷ [])
same-filed before p n e = λ f positive ne. get-append before p (f - 1) (λ q. ne (omega (arith, e, q, positive)))

-- the plan of one number is changed
pub same-with : (before : List PlanView) (p : PlanView) (n : ℕ) → 0 < n → AreSameBut n before (with_plan before n p)
same-with before p n h = λ f positive ne. get-set before p (f - 1) (n - 1) (λ q. ne (omega (arith, h, q, positive)))

pub same-changed : (change : PlanView → PlanView) (before : List PlanView) (n : ℕ) → 0 < n → AreSameBut n before (changed_at change n before)
unfolding changed_at
same-changed change before n h = cases (plan_at before n) where
  cases : (o : Option PlanView) → AreSameBut n before (option_map_or (λ plan. with_plan before n (change plan)) o before)
  cases None = λ f positive ne. refl
  cases (Some p) = same-with before (change p) n h

-- settled regulations are settled but for any flight
pub settled-but : (n taxi now : ℕ) (plans : List PlanView) (ls : List RegulationView) → IsSettled taxi now plans ls → AreSettledBut n taxi now plans ls
settled-but n taxi now plans ls s =
    all-map (IsSettledIn taxi now plans) (IsSettledBut n taxi now plans) ls
    (λ l h. record {
      fixed = all-map (λ a. (0 < a.flight) × (keeps_pair taxi now plans (regulation_of l) a ≡ true)) (λ a. (0 < a.flight) × ((a.flight ≡ n → ⊥) → keeps_pair taxi now plans (regulation_of l) a ≡ true)) l.lineup.fixed (λ a q. (q.0, λ _. q.1)) h.fixed;
      waiting = all-map (λ w. is_due_flight now plans w.flight ≡ false) (λ w. (w.flight ≡ n → ⊥) → is_due_flight now plans w.flight ≡ false) l.lineup.waiting (λ w q _. q) h.waiting;
    }) s

-- closing a regulation leaves the others listed and settled
pub shut-listed : (taxi max : ℕ) (plans : List PlanView) (id : List ℕ) (ls : List RegulationView) → IsListed taxi max plans ls → IsListed taxi max plans (without_named id ls)
shut-listed taxi max plans id ls h = all-named (IsListedIn taxi max plans) id ls h

pub shut-settled : (taxi now : ℕ) (plans : List PlanView) (id : List ℕ) (ls : List RegulationView) → IsSettled taxi now plans ls → IsSettled taxi now plans (without_named id ls)
shut-settled taxi now plans id ls h = all-named (IsSettledIn taxi now plans) id ls h
