-- What taking a plan out of its chain, or putting it into one, means for all plans of which these
-- are the chains.
use Rattle.std.proofs.Common.{◌≡◌, ℕ, zero, suc, ◌-◌, ◌<◌, ◌≤◌, Bool, true, false, List, [], ◌∷◌, length, Some, Option, IfSome, unwrap_or, slice_get, slice_set, slice_index, get_or, cond, refl, sym, ap, subst, ◌∙◌, arith}
use Rattle.std.specs.Map.{lookup}
use Rattle.flow_plans.specs.declared.chains.FlightName.{FlightName}
use Rattle.flow_plans.specs.declared.plan.PlanState.{PlanState}
use Rattle.flow_plans.specs.declared.plan.PlanState.TheVariants as state
use Rattle.flow_plans.specs.Plans.{PlanView, is_held, plan_at, with_plan, changed_at, with_state}
use Rattle.flow_plans.specs.Changes.{others}
use Rattle.flow_plans.specs.Chains.{ChainsView, newest, same_flight, IsUpdated, IsForgotten, flight_of_key, is_held_there, AreLinks, IsNewest, AreChained, IsApart, LeaveOut, TakeIn}
use Rattle.flow_plans.proofs.ChainLemmas.{same_flight-flip}
use Rattle.flow_plans.proofs.ChainMoves.{head-newest, head-within, others-length, leave-absent, leave-past, leave-newest, leave-later, join-newest, join-later, join-apart, join-below}
use Rattle.flow_plans.proofs.Keepings.{set-there, plan-stood, changed-length, changed-is, others-set, chained-forgot}

-- there is a plan of each number
pub there-is : (ps : List PlanView) (i : ℕ) (R : Type 0) → i < length ps → ((p : PlanView) → slice_get ps i ≡ Some p → p ≡ get_or ps i p → R) → R
there-is [] i R h use-it = absurd (omega (arith, h))
there-is (x ∷ ps) zero R h use-it = use-it x refl refl
there-is (x ∷ ps) (suc i) R h use-it = there-is ps i R (omega (arith, h)) use-it

-- the index that a walk down a chain reached has a plan of that chain
abbrev pub IsReached : ChainsView → FlightName → ℕ → Type 0
IsReached chains name l = (test : ℕ → Bool) → AreLinks test chains.older → IsNewest test (newest chains.heads name) → test l ≡ true

reached-held : (chains : ChainsView) (ps : List PlanView) (name : FlightName) (l : ℕ) → AreChained chains ps → IsReached chains name l → is_held_there name ps l ≡ true
reached-held chains ps name l are reached = reached (is_held_there name ps) (are.links name) (head-newest chains ps name are)

module _ (chains : ChainsView) (name : FlightName) (n : ℕ) (some : 0 < n) (inside : n ≤ length chains.older) where
  within : (ps : List PlanView) → AreChained chains ps → n ≤ length ps
  within ps are = omega (arith, inside, are.count)

  out : (later : ChainsView)
      → ((ps : List PlanView) (p : PlanView) → n ≤ length ps → p ≡ get_or ps (n - 1) p → flight_of_key p.key ≡ name → AreChained chains ps → AreChained later (others n ps))
      → LeaveOut chains later name n
  out later by ps are named =
      there-is ps (n - 1) (AreChained later (others n ps)) (omega (arith, some, within ps are))
      (λ p there stood. by ps p (within ps are) stood (rw there at named) are)

  pub out-absent : newest chains.heads name < n → LeaveOut chains chains name n
  out-absent few = out chains (λ ps p most stood own are.
      leave-absent ps n p some most stood chains are (subst (λ (q : FlightName). newest chains.heads q < n) (sym own) few))

  pub out-newest : (heads : List (FlightName × ℕ)) (room : ℕ) → newest chains.heads name ≡ n
      → IsUpdated chains.heads heads name (slice_index chains.older (n - 1))
      → LeaveOut chains (record { heads = heads; older = chains.older; room = room }) name n
  out-newest heads room first updates = out (record { heads = heads; older = chains.older; room = room }) (λ ps p most stood own are.
      leave-newest ps n p some most stood chains are heads room (subst (λ (q : FlightName). newest chains.heads q ≡ n) (sym own) first)
      (subst (λ (q : FlightName). IsUpdated chains.heads heads q (slice_index chains.older (n - 1))) (sym own) updates))

  pub out-later : (l room : ℕ) → n ≤ l → IsReached chains name l → slice_index chains.older l ≡ n
      → LeaveOut chains (record { heads = chains.heads; older = slice_set chains.older l (slice_index chains.older (n - 1)); room = room }) name n
  out-later l room a reached next =
      out (record { heads = chains.heads; older = slice_set chains.older l (slice_index chains.older (n - 1)); room = room }) (λ ps p most stood own are.
      leave-later ps n p some most stood chains are l room a
      (subst (λ (q : FlightName). is_held_there q ps l ≡ true) (sym own) (reached-held chains ps name l are reached)) next)

  pub out-past : (l : ℕ) → n ≤ l → IsReached chains name l → slice_index chains.older l ≤ n → (slice_index chains.older l ≡ n → ⊥)
      → LeaveOut chains chains name n
  out-past l a reached most other = out chains (λ ps p few stood own are.
      leave-past ps n p some few stood chains are l a
      (subst (λ (q : FlightName). is_held_there q ps l ≡ true) (sym own) (reached-held chains ps name l are reached)) most other)

pub out-stay : (chains left later : ChainsView) (name : FlightName) (n : ℕ) → ((q : FlightName) → lookup (same_flight q) later.heads ≡ lookup (same_flight q) left.heads)
    → later.older ≡ left.older → LeaveOut chains left name n → LeaveOut chains later name n
out-stay chains left later name n heads older gone ps are named =
    chained-forgot left later (others n ps) (λ q. ap (λ (o : Option ℕ). unwrap_or o 0) (heads q)) older (gone ps are named)

-- the newest plan of its chain, which is the oldest, too, is taken out, and its flight forgotten
pub out-forgotten : (chains : ChainsView) (name : FlightName) (n : ℕ) (heads : List (FlightName × ℕ)) (room : ℕ) → 0 < n → n ≤ length chains.older
    → newest chains.heads name ≡ n → slice_index chains.older (n - 1) ≡ 0 → IsForgotten chains.heads heads name
    → LeaveOut chains (record { heads = heads; older = chains.older; room = room }) name n
out-forgotten chains name n heads room some inside first last gone ps are named =
    chained-forgot (record { heads = (name, 0) ∷ heads; older = chains.older; room = room }) (record { heads = heads; older = chains.older; room = room }) (others n ps)
    (λ q. zeroed q (same_flight q name) refl) refl
    (out-newest chains name n some inside ((name, 0) ∷ heads) room first (λ q. lowered q (same_flight q name) refl) ps are named)
  where
    lowered : (q : FlightName) (b : Bool) → same_flight q name ≡ b
        → lookup (same_flight q) ((name, 0) ∷ heads) ≡ cond (same_flight name q) (Some (slice_index chains.older (n - 1))) (lookup (same_flight q) chains.heads)
    lowered q true e = rw (e, same_flight-flip q name true e, last) refl
    lowered q false e = rw (e, gone q, same_flight-flip q name false e) refl

    zeroed : (q : FlightName) (b : Bool) → same_flight q name ≡ b → newest heads q ≡ newest ((name, 0) ∷ heads) q
    zeroed q true e = rw (e, gone q, same_flight-flip q name true e) refl
    zeroed q false e = rw e refl

module _ (chains : ChainsView) (n : ℕ) (apart : IsApart chains n) where
  pub apart-within : n - 1 < length chains.older
  apart-within = there-is apart.plans (n - 1) (n - 1 < length chains.older) (omega (arith, apart.within)) (λ p there stood.
      omega (arith, apart.within, apart.chained.count, others-length apart.plans n p apart.within.0 apart.within.1 stood))

  pub apart-newest-within : (name : FlightName) → newest chains.heads name ≤ length chains.older
  apart-newest-within name = omega (arith, head-within chains (others n apart.plans) name apart.chained, apart.chained.count)

  pub apart-newest : (name : FlightName) → newest chains.heads name ≡ n → ⊥
  apart-newest name first = there-is apart.plans (n - 1) ⊥ (omega (arith, apart.within)) (λ p there stood.
      join-apart apart.plans n p apart.within.0 apart.within.1 stood chains apart.chained name first)

  pub apart-below : (name : FlightName) (l : ℕ) → IsReached chains name l → slice_index chains.older l ≡ n → ⊥
  apart-below name l reached next = there-is apart.plans (n - 1) ⊥ (omega (arith, apart.within)) (λ p there stood.
      join-below apart.plans n p apart.within.0 apart.within.1 stood chains apart.chained name l
      (reached-held chains (others n apart.plans) name l apart.chained reached) next)

  within-these : (ps : List PlanView) → AreChained chains (others n ps) → length ps ≡ length apart.plans
  within-these ps are = omega (arith, are.count, apart.chained.count, same ps, same apart.plans) where
    same : (qs : List PlanView) → length (others n qs) ≡ length qs
    same qs = changed-length (with_state state.Cancelled) n qs

  module _ (name : FlightName) where
    into : (later : ChainsView)
        → ((ps : List PlanView) (p : PlanView) → n ≤ length ps → p ≡ get_or ps (n - 1) p → is_held p.state ≡ true → flight_of_key p.key ≡ name
        → AreChained chains (others n ps) → AreChained later ps)
        → TakeIn chains later name n
    into later by ps are named =
        there-is ps (n - 1) (AreChained later ps) (omega (arith, apart.within, within-these ps are)) (λ p there stood.
        (let own = rw there at named in
        by ps p (omega (arith, apart.within, within-these ps are)) stood own.0 own.1 are))

    pub into-newest : (heads : List (FlightName × ℕ)) (room : ℕ) → newest chains.heads name < n → IsUpdated chains.heads heads name n
        → TakeIn chains (record { heads = heads; older = slice_set chains.older (n - 1) (newest chains.heads name); room = room }) name n
    into-newest heads room few updates =
        into (record { heads = heads; older = slice_set chains.older (n - 1) (newest chains.heads name); room = room }) (λ ps p most stood held own are.
        subst (λ (q : FlightName). AreChained (record { heads = heads; older = slice_set chains.older (n - 1) (newest chains.heads q); room = room }) ps) own
        (join-newest ps n p apart.within.0 most stood chains are held heads room
        (subst (λ (q : FlightName). newest chains.heads q < n) (sym own) few)
        (subst (λ (q : FlightName). IsUpdated chains.heads heads q n) (sym own) updates)))

    pub into-later : (heads : List (FlightName × ℕ)) (l room : ℕ) → ((q : FlightName) → newest heads q ≡ newest chains.heads q) → n ≤ l
        → IsReached chains name l → slice_index chains.older l ≤ n
        → TakeIn chains (record { heads = heads; older = slice_set (slice_set chains.older (n - 1) (slice_index chains.older l)) l n; room = room }) name n
    into-later heads l room stay a reached most =
        into (record { heads = heads; older = slice_set (slice_set chains.older (n - 1) (slice_index chains.older l)) l n; room = room }) (λ ps p few stood held own are.
        chained-forgot (record { heads = chains.heads; older = slice_set (slice_set chains.older (n - 1) (slice_index chains.older l)) l n; room = room })
        (record { heads = heads; older = slice_set (slice_set chains.older (n - 1) (slice_index chains.older l)) l n; room = room }) ps stay refl
        (join-later ps n p apart.within.0 few stood chains are held l room a
        (subst (λ (q : FlightName). is_held_there q (others n ps) l ≡ true) (sym own) (reached-held chains (others n ps) name l are reached)) most))

-- a plan that replaces another
module _ (ps qs : List PlanView) (n : ℕ) (q : PlanView) (some : 0 < n) (most : n ≤ length ps) (changed : qs ≡ with_plan ps n q) where
  pub exchanged-out : (chains left : ChainsView) (p : PlanView) (name : FlightName) → p ≡ get_or ps (n - 1) p → name ≡ flight_of_key p.key
      → AreChained chains ps → LeaveOut chains left name n → AreChained left (others n qs)
  exchanged-out chains left p name stood own are gone =
      rw changed (others-set left ps n p q some most stood (gone ps are (rw (plan-stood ps n p some most stood) (sym own))))

  pub exchanged-in : (left joined : ChainsView) (name : FlightName) → is_held q.state ≡ true → name ≡ flight_of_key q.key
      → AreChained left (others n qs) → TakeIn left joined name n → AreChained joined qs
  exchanged-in left joined name held own are taken =
      taken qs are (rw (changed, set-there ps (n - 1) q (omega (arith, some, most))) (held, sym own))

-- a plan that was changed, and keeps its state
module _ (f : PlanView → PlanView) (keeps : (p : PlanView) → (f p).state ≡ p.state) (ps : List PlanView) (n : ℕ) (some : 0 < n) (most : n ≤ length ps)
    (held : IfSome (plan_at ps n) (λ p. is_held p.state ≡ true)) where
  own : (p : PlanView) → plan_at ps n ≡ Some p → is_held (f p).state ≡ true
  own p there = ap (λ (s : PlanState). is_held s) (keeps p) ∙ (rw there at held)

  pub changed-stands : (qs : List PlanView) → qs ≡ changed_at f n ps → IfSome (plan_at qs n) (λ p. is_held p.state ≡ true)
  changed-stands qs changed =
      there-is ps (n - 1) (IfSome (plan_at qs n) (λ p. is_held p.state ≡ true)) (omega (arith, some, most)) (λ p there stood.
      rw (changed, changed-is f n ps p there, set-there ps (n - 1) (f p) (omega (arith, some, most))) (own p there))

  pub changed-chained : (later : ChainsView) (name : FlightName)
      → ((p : PlanView) → is_held p.state ≡ true → flight_of_key p.key ≡ name → AreChained later (with_plan ps n p))
      → ((p : PlanView) → plan_at ps n ≡ Some p → flight_of_key (f p).key ≡ name) → AreChained later (changed_at f n ps)
  changed-chained later name chained named =
      there-is ps (n - 1) (AreChained later (changed_at f n ps)) (omega (arith, some, most)) (λ p there stood.
      rw (changed-is f n ps p there) (chained (f p) (own p there) (named p there)))
