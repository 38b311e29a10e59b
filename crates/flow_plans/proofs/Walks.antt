-- A walk over a chain.
use Rattle.std.proofs.Common.{◌≡◌, ℕ, zero, suc, ◌+◌, ◌-◌, ◌<◌, ◌≤◌, Bool, true, false, ◌&&◌, ◌==◌, not, ◌⊎◌, inl, inr, List, [], ◌∷◌, length, get_or, slice_set, refl, sym, ap, subst, ◌∙◌, arith}
use Rattle.std.specs.List.{list_any}
use Rattle.std.specs.Str.{bytes_eq}
use Rattle.std.proofs.lemmas.Bool.Decides.{nat_tests}
use Rattle.std.proofs.lemmas.Bool.{cases_eq, cases_lt}
use Rattle.std.proofs.lemmas.Option.{slice_get-get_or}
use Rattle.std.proofs.lemmas.Slice.Eq.{bytes_eq-Decides}
use Rattle.fpl_message.specs.declared.parts.Parts.{Parts}
use Rattle.flow_plans.specs.declared.chains.FlightName.{FlightName}
use Rattle.flow_plans.specs.declared.matching.Found.{Found}
use Rattle.flow_plans.specs.declared.matching.Found.TheVariants as found
use Rattle.flow_plans.specs.declared.plan.PlanState.{PlanState}
use Rattle.flow_plans.specs.declared.plan.Key.{Key}
use Rattle.flow_plans.specs.declared.plan.PlanState.TheVariants as state
use Rattle.flow_plans.specs.Plans.{PlanView, same_key, is_held, is_held_as, is_filed, is_departed, changed_at, with_state}
use Rattle.flow_plans.specs.Matching.{agrees, is_on, is_candidate, is_gone}
use Rattle.flow_plans.specs.Searching.{with_one_more, passes_at, IsCounted, IsFreeAt, IsHeldBeside}
use Rattle.flow_plans.specs.Chains.{flight_named, flight_of_key, flight_of_parts, same_flight, is_held_under, is_held_there, newest_held, IsNewest}
use Rattle.flow_plans.specs.Changes.{others}
use Rattle.flow_plans.proofs.LastNumbers.{last-none, last-passes}
use Rattle.flow_plans.proofs.ChainLemmas.{and-left, and-right, same_flight-refl}
use Rattle.flow_plans.proofs.Matches.{counted-more, counted-here, neither-here, passes_at-past, any-none, any-one}

named-equally : (i d e i' d' e' : List ℕ) → bytes_eq i i' ≡ true → bytes_eq d d' ≡ true → bytes_eq e e' ≡ true → flight_named i d e ≡ flight_named i' d' e'
named-equally i d e i' d' e' a b c =
    let ident : i ≡ i' = (bytes_eq-Decides i i').0 a in
    let dep : d ≡ d' = (bytes_eq-Decides d d').0 b in
    let dest : e ≡ e' = (bytes_eq-Decides e e').0 c in
    λ j. flight_named (ident j) (dep j) (dest j)

four-true : (a b c d : Bool) → (a && b && c && d) ≡ true → (a ≡ true) × (b ≡ true) × (c ≡ true)
four-true a b c d h =
    let abc : (a && b && c) ≡ true = and-left (a && b && c) d h in
    let ab : (a && b) ≡ true = and-left (a && b) c abc in
    (and-left a b ab, and-right a b ab, and-right (a && b) c abc)

agreed-flight : (parts : Parts) (key : Key) → agrees parts key ≡ true → flight_of_key key ≡ flight_of_parts parts
unfolding agrees
agreed-flight parts key h =
    let t = four-true (bytes_eq key.ident parts.ident) (bytes_eq key.dep parts.dep) (bytes_eq key.dest parts.dest) (is_on parts.day key.day) h in
    named-equally key.ident key.dep key.dest parts.ident parts.dep parts.dest t.0 t.1 t.2

same-flight : (k l : Key) → same_key k l ≡ true → flight_of_key k ≡ flight_of_key l
unfolding same_key
same-flight k l h =
    let t = four-true (bytes_eq k.ident l.ident) (bytes_eq k.dep l.dep) (bytes_eq k.dest l.dest) _ h in
    named-equally k.ident k.dep k.dest l.ident l.dep l.dest t.0 t.1 t.2

-- what is held under no name of a flight is no plan of it
free-there : (test : PlanView → Bool) (name : FlightName) (ps : List PlanView) (k : ℕ) → ((p : PlanView) → test p ≡ true → is_held_under name p ≡ true)
    → is_held_there name ps k ≡ false → passes_at test ps k ≡ false
free-there test name [] k held f = refl
free-there test name (p ∷ ps) zero held f = by (test p) refl where
  by : (b : Bool) → test p ≡ b → test p ≡ false
  by true t = let h = held p t in absurd (cc)
  by false t = t
free-there test name (p ∷ ps) (suc k) held f = free-there test name ps k held f

filed-held : (s : PlanState) → is_filed s ≡ true → is_held s ≡ true
filed-held state.Filed t = refl
filed-held state.Departed t = absurd (cc)
filed-held state.Cancelled t = absurd (cc)

departed-held : (s : PlanState) → is_departed s ≡ true → is_held s ≡ true
departed-held state.Filed t = absurd (cc)
departed-held state.Departed t = refl
departed-held state.Cancelled t = absurd (cc)

under-own : (name : FlightName) (p : PlanView) → is_held p.state ≡ true → flight_of_key p.key ≡ name → is_held_under name p ≡ true
under-own name p h e = rw h (subst (λ (n : FlightName). same_flight name n ≡ true) (sym e) (same_flight-refl name))

module _ (parts : Parts) (ps : List PlanView) (k : ℕ) (f : is_held_there (flight_of_parts parts) ps k ≡ false) where
  pub no-candidate : passes_at (is_candidate parts) ps k ≡ false
  no-candidate = free-there (is_candidate parts) (flight_of_parts parts) ps k (λ p t. under-own (flight_of_parts parts) p
      (filed-held p.state (and-left (is_filed p.state) (agrees parts p.key) t)) (agreed-flight parts p.key (and-right (is_filed p.state) (agrees parts p.key) t))) f

  pub no-gone : passes_at (is_gone parts) ps k ≡ false
  no-gone = free-there (is_gone parts) (flight_of_parts parts) ps k (λ p t. under-own (flight_of_parts parts) p
      (departed-held p.state (and-left (is_departed p.state) (agrees parts p.key) t)) (agreed-flight parts p.key (and-right (is_departed p.state) (agrees parts p.key) t))) f

pub no-holder : (key : Key) (ps : List PlanView) (k : ℕ) → is_held_there (flight_of_key key) ps k ≡ false → passes_at (is_held_as key) ps k ≡ false
no-holder key ps k f = free-there (is_held_as key) (flight_of_key key) ps k (λ p t. under-own (flight_of_key key) p
    (and-left (is_held p.state) (same_key p.key key) t) (same-flight p.key key (and-right (is_held p.state) (same_key p.key key) t))) f

pub free-of : (place but : ℕ) (b : Bool) → (not (place == but) && b) ≡ false → (place ≡ but → ⊥) → b ≡ false
free-of place but true h apart = absurd (apart (grind (arith, nat_tests, h)))
free-of place but false h apart = refl

-- what the search in a chain says of all plans
pub held-searched : (key : Key) (ps : List PlanView) (b : Bool) → (b ≡ true → IsHeldBeside key ps (length ps)) → (b ≡ false → (k : ℕ) → IsFreeAt key ps (length ps) k) → b ≡ list_any (is_held_as key) ps
held-searched key ps true found free = sym (any-one (is_held_as key) ps (found refl).0 (found refl).2)
held-searched key ps false found free = sym (any-none (is_held_as key) ps (λ k. split k (cases_eq k (length ps)))) where
  split : (k : ℕ) → (k ≡ length ps) ⊎ (k ≡ length ps → ⊥) → passes_at (is_held_as key) ps k ≡ false
  split k (inl same) = passes_at-past (is_held_as key) ps k (omega (arith, same))
  split k (inr apart) = free refl k apart

pub passes_at-set-other : (test : PlanView → Bool) (ps : List PlanView) (i k : ℕ) (q : PlanView) → (k ≡ i → ⊥) → passes_at test (slice_set ps i q) k ≡ passes_at test ps k
passes_at-set-other test [] i k q apart = refl
passes_at-set-other test (p ∷ ps) zero zero q apart = absurd (apart refl)
passes_at-set-other test (p ∷ ps) zero (suc k) q apart = refl
passes_at-set-other test (p ∷ ps) (suc i) zero q apart = refl
passes_at-set-other test (p ∷ ps) (suc i) (suc k) q apart = passes_at-set-other test ps i k q (λ e. apart (ap suc e))

pub passes_at-set-same : (test : PlanView → Bool) (ps : List PlanView) (i : ℕ) (q : PlanView) → test q ≡ false → passes_at test (slice_set ps i q) i ≡ false
passes_at-set-same test [] i q f = refl
passes_at-set-same test (p ∷ ps) zero q f = f
passes_at-set-same test (p ∷ ps) (suc i) q f = passes_at-set-same test ps i q f

-- and of all plans but one
beside-searched : (key : Key) (ps : List PlanView) (i : ℕ) (q : PlanView) (b : Bool) → is_held_as key q ≡ false → (b ≡ true → IsHeldBeside key ps i) → (b ≡ false → (k : ℕ) → IsFreeAt key ps i k) → b ≡ list_any (is_held_as key) (slice_set ps i q)
beside-searched key ps i q true f found free =
    let h = found refl in
    sym (any-one (is_held_as key) (slice_set ps i q) h.0 (passes_at-set-other (is_held_as key) ps i h.0 q h.1 ∙ h.2))
beside-searched key ps i q false f found free = sym (any-none (is_held_as key) (slice_set ps i q) (λ k. split k (cases_eq k i))) where
  split : (k : ℕ) → (k ≡ i) ⊎ (k ≡ i → ⊥) → passes_at (is_held_as key) (slice_set ps i q) k ≡ false
  split k (inl same) = rw same (passes_at-set-same (is_held_as key) ps i q f)
  split k (inr apart) = passes_at-set-other (is_held_as key) ps i k q apart ∙ free refl k apart

pub others-searched : (key : Key) (n : ℕ) (ps : List PlanView) (b : Bool) → 0 < n → n ≤ length ps → (b ≡ true → IsHeldBeside key ps (n - 1)) → (b ≡ false → (k : ℕ) → IsFreeAt key ps (n - 1) k) → b ≡ list_any (is_held_as key) (others n ps)
unfolding changed_at
others-searched key n [] b some within found free = absurd (omega (arith, some, within))
others-searched key n (p ∷ ps) b some within found free =
    rw (slice_get-get_or (p ∷ ps) (n - 1) p (omega (arith, some, within)))
    (beside-searched key (p ∷ ps) (n - 1) (with_state state.Cancelled (get_or (p ∷ ps) (n - 1) p)) b refl found free)

-- A walk over the chain of a flight goes from each plan that is held under its name to the next
-- older one, and passes by no other.
module _ (name : FlightName) (ps : List PlanView) where
  pub nothing-newer : (k : ℕ) → newest_held name ps (length ps) ≤ k → is_held_there name ps k ≡ false
  nothing-newer k a = by (cases_lt k (length ps)) where
    by : (k < length ps) ⊎ (length ps ≤ k) → is_held_there name ps k ≡ false
    by (inl within) = last-none (is_held_there name ps) (length ps) k a within
    by (inr past) = passes_at-past (is_held_under name) ps k past

  pub nothing-between : (i k : ℕ) → newest_held name ps i ≤ k → k < i → is_held_there name ps k ≡ false
  nothing-between i k a b = last-none (is_held_there name ps) i k a b

  pub newest-there : (n : ℕ) → IsNewest (is_held_there name ps) (newest_held name ps n)
  newest-there n k e = last-passes (is_held_there name ps) n k e

-- one more index is counted, and all between it and the next
module _ (parts : Parts) (ps : List PlanView) where
  pub counted-at-first : (k : ℕ) → newest_held (flight_of_parts parts) ps (length ps) ≤ k → IsCounted (is_candidate parts) (is_gone parts) ps found.Nothing k
  counted-at-first k a =
      let f : is_held_there (flight_of_parts parts) ps k ≡ false = nothing-newer (flight_of_parts parts) ps k a in
      neither-here (is_candidate parts) (is_gone parts) ps found.Nothing k (no-candidate parts ps k f) (no-gone parts ps k f)

  pub counted-on : (f : Found) (i : ℕ) → ((k : ℕ) → i + 1 ≤ k → IsCounted (is_candidate parts) (is_gone parts) ps f k)
      → (k : ℕ) → newest_held (flight_of_parts parts) ps i ≤ k
      → IsCounted (is_candidate parts) (is_gone parts) ps (with_one_more (passes_at (is_candidate parts) ps i) (passes_at (is_gone parts) ps i) i f) k
  counted-on f i counted k a = by (cases_lt k i) (cases_eq k i) where
    on : Found
    on = with_one_more (passes_at (is_candidate parts) ps i) (passes_at (is_gone parts) ps i) i f

    by : (k < i) ⊎ (i ≤ k) → (k ≡ i) ⊎ (k ≡ i → ⊥) → IsCounted (is_candidate parts) (is_gone parts) ps on k
    by (inl below) e =
        let free : is_held_there (flight_of_parts parts) ps k ≡ false = nothing-between (flight_of_parts parts) ps i k a below in
        neither-here (is_candidate parts) (is_gone parts) ps on k (no-candidate parts ps k free) (no-gone parts ps k free)
    by (inr above) (inl same) =
        subst (λ j. IsCounted (is_candidate parts) (is_gone parts) ps on j) (sym same)
        (counted-here (is_candidate parts) (is_gone parts) ps f i _ _ refl refl)
    by (inr above) (inr apart) = counted-more (is_candidate parts) (is_gone parts) ps f i k _ _ (counted k (omega (arith, above, apart)))

-- and free
module _ (key : Key) (ps : List PlanView) (but : ℕ) where
  pub free-at-first : (k : ℕ) → newest_held (flight_of_key key) ps (length ps) ≤ k → IsFreeAt key ps but k
  free-at-first k a apart = no-holder key ps k (nothing-newer (flight_of_key key) ps k a)

  pub free-on : (i : ℕ) → (not (i == but) && passes_at (is_held_as key) ps i) ≡ false → ((k : ℕ) → i + 1 ≤ k → IsFreeAt key ps but k)
      → (k : ℕ) → newest_held (flight_of_key key) ps i ≤ k → IsFreeAt key ps but k
  free-on i none free k a apart = by (cases_lt k i) (cases_eq k i) where
    by : (k < i) ⊎ (i ≤ k) → (k ≡ i) ⊎ (k ≡ i → ⊥) → passes_at (is_held_as key) ps k ≡ false
    by (inl below) e = no-holder key ps k (nothing-between (flight_of_key key) ps i k a below)
    by (inr above) (inl same) =
        subst (λ j. passes_at (is_held_as key) ps j ≡ false) (sym same)
        (free-of i but (passes_at (is_held_as key) ps i) none (λ e. apart (same ∙ e)))
    by (inr above) (inr other) = free k (omega (arith, above, other)) apart
