-- Plans and their chains when a plan replaces another.
use Rattle.std.proofs.Common.{◌≡◌, ℕ, zero, suc, ◌-◌, ◌<◌, ◌≤◌, Bool, true, false, ◌&&◌, ◌⊎◌, inl, inr, List, [], ◌∷◌, ◌++◌, length, take, Option, Some, None, IfSome, slice_get, slice_set, get_or, unwrap_or, refl, sym, ap, subst, ◌∙◌, arith, length-set}
use Rattle.std.specs.Map.{lookup}
use Rattle.std.specs.Option.{option_map_or}
use Rattle.std.proofs.lemmas.Bool.{cases_eq}
use Rattle.std.proofs.lemmas.List.{get_or-set_same, length_push}
use Rattle.std.proofs.lemmas.Option.{slice_get-get_or, slice_get_within}
use Rattle.flow_plans.specs.declared.chains.FlightName.{FlightName}
use Rattle.flow_plans.specs.declared.plan.PlanState.{PlanState}
use Rattle.flow_plans.specs.declared.plan.PlanState.TheVariants as state
use Rattle.flow_plans.specs.declared.undo.LastChange as last_change
use Rattle.flow_plans.specs.declared.undo.LastChange.TheVariants as change
use Rattle.flow_plans.specs.Undoing.{CanReturn}
use Rattle.flow_plans.specs.Plans.{PlanView, is_held, plan_at, changed_at, with_state}
use Rattle.flow_plans.specs.Searching.{passes_at}
use Rattle.flow_plans.specs.Changes.{others}
use Rattle.flow_plans.specs.Chains.{ChainsView, newest, same_flight, flight_of_key, is_held_under, is_held_there, last_number, newest_held, HasRoomFor, StayChained, AreChained}
use Rattle.flow_plans.proofs.LastNumbers.{last-above}
use Rattle.flow_plans.proofs.ChainLemmas.{same_flight-refl, chained-same}
use Rattle.flow_plans.proofs.ChainMoves.{others-are, others-length, others-same, others-gone}
use Rattle.flow_plans.proofs.Matches.{passes_at-within}
use Rattle.flow_plans.proofs.Walks.{passes_at-set-other}

pub set-there : (ps : List PlanView) (i : ℕ) (p : PlanView) → i < length ps → slice_get (slice_set ps i p) i ≡ Some p
set-there [] i p h = absurd (omega (arith, h))
set-there (x ∷ ps) zero p h = refl
set-there (x ∷ ps) (suc i) p h = set-there ps i p (omega (arith, h))

pub plan-stood : (ps : List PlanView) (n : ℕ) (p : PlanView) → 0 < n → n ≤ length ps → p ≡ get_or ps (n - 1) p → plan_at ps n ≡ Some p
plan-stood ps n p some within stood = slice_get-get_or ps (n - 1) p (omega (arith, some, within)) ∙ ap (λ r. Some r) (sym stood)

passes_at-there : (test : PlanView → Bool) (ps : List PlanView) (i : ℕ) (p : PlanView) → slice_get ps i ≡ Some p → passes_at test ps i ≡ test p
passes_at-there test ps i p there = rw there refl

-- a plan of the same flight that is held where that was
pub set-held : (ps : List PlanView) (i : ℕ) (p q : PlanView) → slice_get ps i ≡ Some p → is_held q.state ≡ is_held p.state → flight_of_key q.key ≡ flight_of_key p.key
    → (name : FlightName) (k : ℕ) → is_held_there name (slice_set ps i q) k ≡ is_held_there name ps k
set-held ps i p q there held flight name k = by (cases_eq k i) where
  here : is_held_there name (slice_set ps i q) i ≡ is_held_there name ps i
  here =
      passes_at-there (is_held_under name) (slice_set ps i q) i q (set-there ps i q (slice_get_within ps i p there))
      ∙ ap (λ b. b && same_flight name (flight_of_key q.key)) held
      ∙ ap (λ (f : FlightName). is_held p.state && same_flight name f) flight
      ∙ sym (passes_at-there (is_held_under name) ps i p there)

  by : (k ≡ i) ⊎ (k ≡ i → ⊥) → is_held_there name (slice_set ps i q) k ≡ is_held_there name ps k
  by (inl e) = subst (λ j. is_held_there name (slice_set ps i q) j ≡ is_held_there name ps j) (sym e) here
  by (inr ne) = passes_at-set-other (is_held_under name) ps i k q ne

pub chained-set : (chains : ChainsView) (ps : List PlanView) (i : ℕ) (p q : PlanView) → slice_get ps i ≡ Some p → is_held q.state ≡ is_held p.state → flight_of_key q.key ≡ flight_of_key p.key
    → AreChained chains ps → AreChained chains (slice_set ps i q)
chained-set chains ps i p q there held flight are = chained-same chains ps (slice_set ps i q) (length-set ps i q) (set-held ps i p q there held flight) are

-- a plan that is changed
pub changed-length : (f : PlanView → PlanView) (n : ℕ) (ps : List PlanView) → length (changed_at f n ps) ≡ length ps
unfolding changed_at
changed-length f n ps = by (plan_at ps n) where
  by : (o : Option PlanView) → length (option_map_or (λ p. slice_set ps (n - 1) (f p)) o ps) ≡ length ps
  by None = refl
  by (Some p) = length-set ps (n - 1) (f p)

-- and stays of its flight, and held where it was
abbrev pub StaysHeld : (PlanView → PlanView) → ℕ → List PlanView → Type 0
StaysHeld f n ps = IfSome (plan_at ps n) (λ p. (is_held (f p).state ≡ is_held p.state) × (flight_of_key (f p).key ≡ flight_of_key p.key))

changed-held : (f : PlanView → PlanView) (n : ℕ) (ps : List PlanView) → StaysHeld f n ps → (name : FlightName) (k : ℕ) → is_held_there name (changed_at f n ps) k ≡ is_held_there name ps k
unfolding changed_at
changed-held f n ps stays name k = by (plan_at ps n) refl stays where
  by : (o : Option PlanView) → plan_at ps n ≡ o → IfSome o (λ p. (is_held (f p).state ≡ is_held p.state) × (flight_of_key (f p).key ≡ flight_of_key p.key))
      → is_held_there name (option_map_or (λ p. slice_set ps (n - 1) (f p)) o ps) k ≡ is_held_there name ps k
  by None e s = refl
  by (Some p) e s = set-held ps (n - 1) p (f p) e s.0 s.1 name k

pub chained-changed : (chains : ChainsView) (f : PlanView → PlanView) (n : ℕ) (ps : List PlanView) → StaysHeld f n ps → AreChained chains ps → AreChained chains (changed_at f n ps)
chained-changed chains f n ps stays are = chained-same chains ps (changed_at f n ps) (changed-length f n ps) (changed-held f n ps stays) are

pub chained-unchanged : (chains : ChainsView) (f : PlanView → PlanView) (n : ℕ) (ps : List PlanView) → StaysHeld f n ps → AreChained chains (changed_at f n ps) → AreChained chains ps
chained-unchanged chains f n ps stays are =
    chained-same chains (changed_at f n ps) ps (sym (changed-length f n ps)) (λ name k. sym (changed-held f n ps stays name k)) are

-- what replaces a plan that counts as cancelled does not matter
pub others-set : (chains : ChainsView) (ps : List PlanView) (n : ℕ) (p q : PlanView) → 0 < n → n ≤ length ps → p ≡ get_or ps (n - 1) p
    → AreChained chains (others n ps) → AreChained chains (others n (slice_set ps (n - 1) q))
others-set chains ps n p q some within stood are =
    chained-same chains (others n ps) (others n (slice_set ps (n - 1) q))
    (others-length (slice_set ps (n - 1) q) n q some wide there ∙ length-set ps (n - 1) q ∙ sym (others-length ps n p some within stood))
    (λ name k. by name k (cases_eq k (n - 1))) are where
      wide : n ≤ length (slice_set ps (n - 1) q)
      wide = omega (arith, within, length-set ps (n - 1) q)

      there : q ≡ get_or (slice_set ps (n - 1) q) (n - 1) q
      there = sym (get_or-set_same ps (n - 1) q q (omega (arith, some, within)))

      by : (name : FlightName) (k : ℕ) → (k ≡ n - 1) ⊎ (k ≡ n - 1 → ⊥) → is_held_there name (others n (slice_set ps (n - 1) q)) k ≡ is_held_there name (others n ps) k
      by name k (inl e) =
          subst (λ j. is_held_there name (others n (slice_set ps (n - 1) q)) j ≡ is_held_there name (others n ps) j) (sym e)
          (others-gone (slice_set ps (n - 1) q) n q some wide there name ∙ sym (others-gone ps n p some within stood name))
      by name k (inr ne) =
          others-same (slice_set ps (n - 1) q) n q some wide there name k ne ∙ passes_at-set-other (is_held_under name) ps (n - 1) k q ne
          ∙ sym (others-same ps n p some within stood name k ne)

-- a plan that is not held is in no chain
pub others-of-unheld : (chains : ChainsView) (ps : List PlanView) (n : ℕ) (p q : PlanView) → 0 < n → n ≤ length ps → p ≡ get_or ps (n - 1) p → is_held p.state ≡ false
    → AreChained chains ps → AreChained chains (others n (slice_set ps (n - 1) q))
others-of-unheld chains ps n p q some within stood free are =
    others-set chains ps n p q some within stood
    (rw (others-are ps n p some within stood)
    (chained-set chains ps (n - 1) p (with_state state.Cancelled p) (plan-stood ps n p some within stood) (sym free) refl are))

pub changed-is : (f : PlanView → PlanView) (n : ℕ) (ps : List PlanView) (p : PlanView) → plan_at ps n ≡ Some p → changed_at f n ps ≡ slice_set ps (n - 1) (f p)
unfolding changed_at
changed-is f n ps p there = rw there refl

-- chains from which a flight without plans was removed, or that got more capacity
pub chained-forgot : (chains later : ChainsView) (ps : List PlanView) → ((q : FlightName) → newest later.heads q ≡ newest chains.heads q) → later.older ≡ chains.older
    → AreChained chains ps → AreChained later ps
chained-forgot chains later ps heads older are = record {
  count = ap (λ (xs : List ℕ). length xs) older ∙ are.count;
  heads = λ name. heads name ∙ are.heads name;
  links = λ name k t. ap (λ (xs : List ℕ). get_or xs k 0) older ∙ are.links name k t;
}

pub chained-stay : (chains later : ChainsView) (ps : List PlanView) → StayChained chains later → AreChained chains ps → AreChained later ps
chained-stay chains later ps stay are = chained-forgot chains later ps (λ q. ap (λ (es : List (FlightName × ℕ)). newest es q) stay.0) stay.1 are

-- the flight of a held plan is in the map
pub held-known : (chains : ChainsView) (ps : List PlanView) (n : ℕ) (p : PlanView) → plan_at ps n ≡ Some p → is_held p.state ≡ true → AreChained chains ps
    → lookup (same_flight (flight_of_key p.key)) chains.heads ≡ None → ⊥
held-known chains ps n p there held are none =
    let here : is_held_there (flight_of_key p.key) ps (n - 1) ≡ true = rw (there, held) (same_flight-refl (flight_of_key p.key)) in
    let up : n - 1 < newest_held (flight_of_key p.key) ps (length ps) =
    last-above (is_held_there (flight_of_key p.key) ps) (length ps) (n - 1) (passes_at-within (is_held_under (flight_of_key p.key)) ps (n - 1) here) here in
    let no : newest chains.heads (flight_of_key p.key) ≡ 0 = ap (λ o. unwrap_or o 0) none in
    omega (arith, up, no, are.heads (flight_of_key p.key))

pub not-cancelled : (s : PlanState) → (s ≡ state.Cancelled → ⊥) → is_held s ≡ true
not-cancelled state.Filed n = refl
not-cancelled state.Departed n = refl
not-cancelled state.Cancelled n = absurd (n refl)

-- a filed plan that gets another state in which it is held
pub filed-stays : (s : PlanState) (n : ℕ) (ps : List PlanView) → is_held s ≡ true → IfSome (plan_at ps n) (λ p. p.state ≡ state.Filed) → StaysHeld (with_state s) n ps
filed-stays s n ps h filed = by (plan_at ps n) filed where
  by : (o : Option PlanView) → IfSome o (λ p. p.state ≡ state.Filed)
      → IfSome o (λ p. (is_held (with_state s p).state ≡ is_held p.state) × (flight_of_key (with_state s p).key ≡ flight_of_key p.key))
  by None f = tt
  by (Some p) f = (h ∙ sym (ap (λ (t : PlanState). is_held t) f), refl)

-- the flight of a filed plan that ends stays known
pub ended-room : (chains later : ChainsView) (s : PlanState) (n : ℕ) (ps : List PlanView) → IfSome (plan_at ps n) (λ p. p.state ≡ state.Filed) → AreChained chains ps
    → ((name : FlightName) → lookup (same_flight name) later.heads ≡ None → lookup (same_flight name) chains.heads ≡ None)
    → IfSome (plan_at (changed_at (with_state s) n ps) n) (λ p. HasRoomFor later (flight_of_key p.key))
unfolding changed_at
ended-room chains later s n ps filed are names = by (plan_at ps n) refl filed where
  by : (o : Option PlanView) → plan_at ps n ≡ o → IfSome o (λ p. p.state ≡ state.Filed)
      → IfSome (plan_at (option_map_or (λ p. slice_set ps (n - 1) (with_state s p)) o ps) n) (λ p. HasRoomFor later (flight_of_key p.key))
  by None e f = rw e tt
  by (Some p) e f =
      rw (set-there ps (n - 1) (with_state s p) (slice_get_within ps (n - 1) p e))
      (λ none. absurd (held-known chains ps n p e (ap (λ (t : PlanState). is_held t) f) are (names (flight_of_key p.key) none)))

-- what keeps the state and the key of any plan
pub any-stays : (f : PlanView → PlanView) (n : ℕ) (ps : List PlanView) → ((p : PlanView) → (is_held (f p).state ≡ is_held p.state) × (flight_of_key (f p).key ≡ flight_of_key p.key)) → StaysHeld f n ps
any-stays f n ps keeps = by (plan_at ps n) where
  by : (o : Option PlanView) → IfSome o (λ p. (is_held (f p).state ≡ is_held p.state) × (flight_of_key (f p).key ≡ flight_of_key p.key))
  by None = tt
  by (Some p) = keeps p

-- what can be undone with these chains can be with those that stayed
pub returns-stay : {A : Type 0} (chains later : ChainsView) (last : last_change.LastChange A) (ps : List PlanView) → StayChained chains later → CanReturn chains last ps → CanReturn later last ps
returns-stay chains later change.Nothing ps stay can = tt
returns-stay chains later change.Filed ps stay can = tt
returns-stay chains later (change.Delayed n m) ps stay can = tt
returns-stay chains later (change.Ended n) ps stay can = by (plan_at ps n) can where
  by : (o : Option PlanView) → IfSome o (λ p. HasRoomFor chains (flight_of_key p.key)) → IfSome o (λ p. HasRoomFor later (flight_of_key p.key))
  by None h = tt
  by (Some p) h = λ none. omega (arith, stay.2, h (rw stay.0 at none))
returns-stay chains later (change.Amended n plan) ps stay can = λ none. omega (arith, stay.2, can (rw stay.0 at none))

-- a list without the last item is the list before
pub pushed-back : (ps : List PlanView) (p : PlanView) → take (length (ps ++ p ∷ []) - 1) (ps ++ p ∷ []) ≡ ps
pushed-back ps p = front ps (length (ps ++ p ∷ []) - 1) (omega (arith, length_push ps p)) where
  front : (qs : List PlanView) (n : ℕ) → n ≡ length qs → take n (qs ++ p ∷ []) ≡ qs
  front [] zero e = refl
  front [] (suc n) e = absurd (omega (arith, e))
  front (q ∷ qs) zero e = absurd (omega (arith, e))
  front (q ∷ qs) (suc n) e = ap (λ (r : List PlanView). q ∷ r) (front qs n (omega (arith, e)))

pub nothing-chained : (chains : ChainsView) → chains.heads ≡ [] → chains.older ≡ [] → AreChained chains []
unfolding last_number
nothing-chained chains heads older = record {
  count = ap (λ (xs : List ℕ). length xs) older;
  heads = λ name. ap (λ (es : List (FlightName × ℕ)). newest es name) heads;
  links = λ name k t. absurd (cc);
}
