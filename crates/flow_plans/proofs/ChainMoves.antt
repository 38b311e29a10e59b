-- The chains after a plan of the list left its chain, joined it, came to the list, or was taken
-- from its end.
use Rattle.std.proofs.Common.{◌≡◌, ℕ, zero, suc, ◌+◌, ◌-◌, ◌<◌, ◌≤◌, Bool, true, false, if◌then◌else◌, ◌⊎◌, inl, inr, List, [], ◌∷◌, ◌++◌, length, take, Some, slice_get, slice_set, slice_index, get_or, refl, sym, ap, subst, ◌∙◌, arith, length-set}
use Rattle.std.proofs.lemmas.Bool.{cases_eq, cases_lt}
use Rattle.std.proofs.lemmas.Option.{slice_get-get_or}
use Rattle.std.proofs.lemmas.List.{length_push, length-take-le, get_or-set_same, get_or-set_other, get_or_push, get_or_append_left, get_or-take, get_or_past}
use Rattle.flow_plans.specs.declared.chains.FlightName.{FlightName}
use Rattle.flow_plans.specs.declared.plan.PlanState.TheVariants as state
use Rattle.flow_plans.specs.Plans.{PlanView, is_held, changed_at, with_state}
use Rattle.flow_plans.specs.Searching.{passes_at}
use Rattle.flow_plans.specs.Changes.{others}
use Rattle.flow_plans.specs.Chains.{ChainsView, newest, IsUpdated, same_flight, flight_of_key, is_held_under, is_held_there, newest_held, GoDown, IsNewest, AreChained}
use Rattle.flow_plans.proofs.LastNumbers.{last-le, last-passes, last-same, last-more}
use Rattle.flow_plans.proofs.ChainLemmas.{same_flight-same, same_flight-refl, and-right, held-name, left-absent, left-past, left-newest, left-later, joined-newest, joined-later, updated-newest}
use Rattle.flow_plans.proofs.Matches.{passes_at-within}
use Rattle.flow_plans.proofs.Walks.{passes_at-set-other, passes_at-set-same}

-- the number in the map is that of a plan held under the name
pub head-newest : (chains : ChainsView) (ps : List PlanView) (name : FlightName) → AreChained chains ps → IsNewest (is_held_there name ps) (newest chains.heads name)
head-newest chains ps name are k e = last-passes (is_held_there name ps) (length ps) k (sym (are.heads name) ∙ e)

pub head-within : (chains : ChainsView) (ps : List PlanView) (name : FlightName) → AreChained chains ps → newest chains.heads name ≤ length ps
head-within chains ps name are = omega (arith, are.heads name, last-le (is_held_there name ps) (length ps))

-- links that go down still do
pub down-set : (older : List ℕ) (i v : ℕ) → i < length older → v ≤ i → GoDown older → GoDown (slice_set older i v)
down-set older i v within small down k = by (cases_eq k i) where
  by : (k ≡ i) ⊎ (k ≡ i → ⊥) → slice_index (slice_set older i v) k ≤ k
  by (inl e) = subst (λ j. slice_index (slice_set older i v) j ≤ j) (sym e) (omega (arith, get_or-set_same older i v 0 within, small))
  by (inr ne) = omega (arith, get_or-set_other older i k v 0 ne, down k)

pub down-push : (older : List ℕ) (v : ℕ) → v ≤ length older → GoDown older → GoDown (older ++ v ∷ [])
down-push older v small down k = by (cases_lt k (length older)) where
  at : (k ≡ length older) ⊎ (k ≡ length older → ⊥) → length older ≤ k → slice_index (older ++ v ∷ []) k ≤ k
  at (inl e) a = omega (arith, get_or_push older v 0 k (sym e), small, e)
  at (inr ne) a = omega (arith, get_or_past (older ++ v ∷ []) k 0 (omega (arith, length_push older v, a, ne)))

  by : (k < length older) ⊎ (length older ≤ k) → slice_index (older ++ v ∷ []) k ≤ k
  by (inl within) = omega (arith, get_or_append_left older (v ∷ []) 0 k within, down k)
  by (inr past) = at (cases_eq k (length older)) past

pub down-take : (older : List ℕ) (n : ℕ) → GoDown older → GoDown (take n older)
down-take older n down k = by (cases_lt k n) where
  by : (k < n) ⊎ (n ≤ k) → slice_index (take n older) k ≤ k
  by (inl within) = omega (arith, get_or-take n older k 0 within, down k)
  by (inr past) = omega (arith, get_or_past (take n older) k 0 (short n older past)) where
    short : (n : ℕ) (xs : List ℕ) → n ≤ k → length (take n xs) ≤ k
    short zero xs a = omega arith
    short (suc n) [] a = omega arith
    short (suc n) (x ∷ xs) a = omega (arith, shorter n xs (omega (arith, a)), a) where
      shorter : (n : ℕ) (xs : List ℕ) → n ≤ k → length (take n xs) ≤ n
      shorter zero xs a = omega arith
      shorter (suc n) [] a = omega arith
      shorter (suc n) (x ∷ xs) a = omega (arith, shorter n xs (omega (arith, a)))

-- the plan of a number, which the others leave out
module _ (ps : List PlanView) (n : ℕ) (p : PlanView) (some : 0 < n) (within : n ≤ length ps) (stood : p ≡ get_or ps (n - 1) p) where
  there : slice_get ps (n - 1) ≡ Some p
  there = slice_get-get_or ps (n - 1) p (omega (arith, some, within)) ∙ ap (λ r. Some r) (sym stood)

  at : n ≡ n - 1 + 1
  at = omega (arith, some)

  pub others-are : others n ps ≡ slice_set ps (n - 1) (with_state state.Cancelled p)
  unfolding changed_at
  others-are = rw there refl

  pub others-length : length (others n ps) ≡ length ps
  others-length = ap (λ (qs : List PlanView). length qs) others-are ∙ length-set ps (n - 1) (with_state state.Cancelled p)

  pub others-same : (name : FlightName) (k : ℕ) → (k ≡ n - 1 → ⊥) → is_held_there name (others n ps) k ≡ is_held_there name ps k
  others-same name k ne =
      ap (λ (qs : List PlanView). is_held_there name qs k) others-are ∙ passes_at-set-other (is_held_under name) ps (n - 1) k (with_state state.Cancelled p) ne

  pub others-gone : (name : FlightName) → is_held_there name (others n ps) (n - 1) ≡ false
  others-gone name =
      ap (λ (qs : List PlanView). is_held_there name qs (n - 1)) others-are ∙ passes_at-set-same (is_held_under name) ps (n - 1) (with_state state.Cancelled p) refl

  only-own : (name : FlightName) → is_held_there name ps (n - 1) ≡ true → name ≡ flight_of_key p.key
  only-own name t = held-name ps (n - 1) p name there t

  own-held : is_held p.state ≡ true → is_held_there (flight_of_key p.key) ps (n - 1) ≡ true
  own-held h = rw (there, h) (same_flight-refl (flight_of_key p.key))

  module _ (chains : ChainsView) (are : AreChained chains ps) where
    pub leave-absent : newest chains.heads (flight_of_key p.key) < n → AreChained chains (others n ps)
    leave-absent few =
        left-absent chains ps (others n ps) (n - 1) (flight_of_key p.key) others-length (omega (arith, some, within)) others-same others-gone only-own are (omega (arith, few))

    pub leave-past : (l : ℕ) → n ≤ l → is_held_there (flight_of_key p.key) ps l ≡ true → slice_index chains.older l ≤ n → (slice_index chains.older l ≡ n → ⊥)
        → AreChained chains (others n ps)
    leave-past l a held most other =
        left-past chains ps (others n ps) (n - 1) (flight_of_key p.key) others-length (omega (arith, some, within)) others-same others-gone only-own are
        l (omega (arith, a, some)) held (omega (arith, most)) (λ e. other (omega (arith, e, some)))

    pub leave-newest : (heads : List (FlightName × ℕ)) (room : ℕ) → newest chains.heads (flight_of_key p.key) ≡ n
        → IsUpdated chains.heads heads (flight_of_key p.key) (slice_index chains.older (n - 1))
        → AreChained (record { heads = heads; older = chains.older; room = room }) (others n ps)
    leave-newest heads room first updates =
        left-newest chains ps (others n ps) (n - 1) (flight_of_key p.key) others-length (omega (arith, some, within)) others-same others-gone only-own are
        heads room (first ∙ at) (updated-newest chains.heads heads (flight_of_key p.key) (slice_index chains.older (n - 1)) updates)

    pub leave-later : (l room : ℕ) → n ≤ l → is_held_there (flight_of_key p.key) ps l ≡ true → slice_index chains.older l ≡ n
        → AreChained (record { heads = chains.heads; older = slice_set chains.older l (slice_index chains.older (n - 1)); room = room }) (others n ps)
    leave-later l room a held next =
        left-later chains ps (others n ps) (n - 1) (flight_of_key p.key) others-length (omega (arith, some, within)) others-same others-gone only-own are
        l room (omega (arith, a, some)) held (next ∙ at)

  module _ (chains : ChainsView) (are : AreChained chains (others n ps)) where
    same-back : (name : FlightName) (k : ℕ) → (k ≡ n - 1 → ⊥) → is_held_there name ps k ≡ is_held_there name (others n ps) k
    same-back name k ne = sym (others-same name k ne)

    inside : n - 1 < length (others n ps)
    inside = omega (arith, some, within, others-length)

    pub join-newest : is_held p.state ≡ true → (heads : List (FlightName × ℕ)) (room : ℕ) → newest chains.heads (flight_of_key p.key) < n
        → IsUpdated chains.heads heads (flight_of_key p.key) n
        → AreChained (record { heads = heads; older = slice_set chains.older (n - 1) (newest chains.heads (flight_of_key p.key)); room = room }) ps
    join-newest held heads room few updates =
        joined-newest chains (others n ps) ps (n - 1) (flight_of_key p.key) (sym others-length) inside same-back others-gone (own-held held) only-own are
        heads room (omega (arith, few)) (λ q. rw (sym at) (updated-newest chains.heads heads (flight_of_key p.key) n updates q))

    pub join-later : is_held p.state ≡ true → (l room : ℕ) → n ≤ l → is_held_there (flight_of_key p.key) (others n ps) l ≡ true → slice_index chains.older l ≤ n
        → AreChained (record { heads = chains.heads; older = slice_set (slice_set chains.older (n - 1) (slice_index chains.older l)) l n; room = room }) ps
    join-later held l room a there most =
        subst (λ (m : ℕ). AreChained (record { heads = chains.heads; older = slice_set (slice_set chains.older (n - 1) (slice_index chains.older l)) l m; room = room }) ps) (sym at)
        (joined-later chains (others n ps) ps (n - 1) (flight_of_key p.key) (sym others-length) inside same-back others-gone (own-held held) only-own are
        l room (omega (arith, a, some)) there (omega (arith, most)))

    -- it isn't in a chain yet
    never : (b : Bool) → b ≡ true → b ≡ false → ⊥
    never b t f = absurd (cc)

    pub join-apart : (name : FlightName) → newest chains.heads name ≡ n → ⊥
    join-apart name e =
        never (is_held_there name (others n ps) (n - 1))
        (last-passes (is_held_there name (others n ps)) (length (others n ps)) (n - 1) (sym (are.heads name) ∙ e ∙ at))
        (others-gone name)

    pub join-below : (name : FlightName) (l : ℕ) → is_held_there name (others n ps) l ≡ true → slice_index chains.older l ≡ n → ⊥
    join-below name l t e =
        never (is_held_there name (others n ps) (n - 1))
        (last-passes (is_held_there name (others n ps)) l (n - 1) (sym (are.links name l t) ∙ e ∙ at))
        (others-gone name)

-- a list with one plan more
push-before : (test : PlanView → Bool) (ps : List PlanView) (p : PlanView) (k : ℕ) → k < length ps → passes_at test (ps ++ p ∷ []) k ≡ passes_at test ps k
push-before test [] p k h = absurd (omega (arith, h))
push-before test (x ∷ ps) p zero h = refl
push-before test (x ∷ ps) p (suc k) h = push-before test ps p k (omega (arith, h))

push-at : (test : PlanView → Bool) (ps : List PlanView) (p : PlanView) → passes_at test (ps ++ p ∷ []) (length ps) ≡ test p
push-at test [] p = refl
push-at test (x ∷ ps) p = push-at test ps p

module _ (chains : ChainsView) (ps : List PlanView) (p : PlanView) (held : is_held p.state ≡ true) (are : AreChained chains ps) where
  more : List PlanView
  more = ps ++ p ∷ []

  under : (name : FlightName) (b : Bool) → is_held_under name p ≡ b → same_flight (flight_of_key p.key) name ≡ b
  under name true t =
      let o : name ≡ flight_of_key p.key = same_flight-same name (flight_of_key p.key) (and-right (is_held p.state) _ t) in
      subst (λ (n : FlightName). same_flight (flight_of_key p.key) n ≡ true) (sym o) (same_flight-refl (flight_of_key p.key))
  under name false f = by (same_flight (flight_of_key p.key) name) refl where
    by : (b : Bool) → same_flight (flight_of_key p.key) name ≡ b → same_flight (flight_of_key p.key) name ≡ false
    by true e =
        let o : flight_of_key p.key ≡ name = same_flight-same (flight_of_key p.key) name e in
        let t : is_held_under name p ≡ true = rw held (subst (λ (n : FlightName). same_flight n (flight_of_key p.key) ≡ true) o (same_flight-refl (flight_of_key p.key))) in
        absurd (cc)
    by false e = e

  old-newest : (name : FlightName) (n : ℕ) → n ≤ length ps → newest_held name ps n ≡ newest_held name (ps ++ p ∷ []) n
  old-newest name n a = sym (last-same (is_held_there name ps) (is_held_there name (ps ++ p ∷ [])) n (λ k l. push-before (is_held_under name) ps p k (omega (arith, l, a))))

  pub append-chained : (heads : List (FlightName × ℕ)) (room : ℕ) → IsUpdated chains.heads heads (flight_of_key p.key) (length ps + 1)
      → AreChained (record { heads = heads; older = chains.older ++ newest chains.heads (flight_of_key p.key) ∷ []; room = room }) (ps ++ p ∷ [])
  append-chained heads room updates = record {
    count = length_push chains.older (newest chains.heads (flight_of_key p.key)) ∙ ap (λ n. n + 1) are.count ∙ sym (length_push ps p);
    heads = λ q. updated-newest chains.heads heads (flight_of_key p.key) (length ps + 1) updates q ∙ head q (is_held_under q p) refl ∙ ap (λ n. newest_held q (ps ++ p ∷ []) n) (sym (length_push ps p));
    links = λ name k t. link name k t (cases_eq k (length ps));
  } where
    head : (q : FlightName) (b : Bool) → is_held_under q p ≡ b → (if same_flight (flight_of_key p.key) q then length ps + 1 else newest chains.heads q) ≡ newest_held q (ps ++ p ∷ []) (length ps + 1)
    head q true e =
        rw (under q true e) (sym (last-more (is_held_there q (ps ++ p ∷ [])) (length ps) true (push-at (is_held_under q) ps p ∙ e)))
    head q false e =
        rw (under q false e) (are.heads q ∙ old-newest q (length ps) (omega arith)
        ∙ sym (last-more (is_held_there q (ps ++ p ∷ [])) (length ps) false (push-at (is_held_under q) ps p ∙ e)))

    link : (name : FlightName) (k : ℕ) → is_held_there name (ps ++ p ∷ []) k ≡ true → (k ≡ length ps) ⊎ (k ≡ length ps → ⊥)
        → slice_index (chains.older ++ newest chains.heads (flight_of_key p.key) ∷ []) k ≡ newest_held name (ps ++ p ∷ []) k
    link name k t (inl e) =
        let u : is_held_under name p ≡ true = sym (push-at (is_held_under name) ps p) ∙ subst (λ j. is_held_there name (ps ++ p ∷ []) j ≡ true) e t in
        let o : name ≡ flight_of_key p.key = same_flight-same name (flight_of_key p.key) (and-right (is_held p.state) _ u) in
        get_or_push chains.older (newest chains.heads (flight_of_key p.key)) 0 k (are.count ∙ sym e)
        ∙ ap (λ (n : FlightName). newest chains.heads n) (sym o) ∙ are.heads name
        ∙ old-newest name (length ps) (omega arith) ∙ ap (λ j. newest_held name (ps ++ p ∷ []) j) (sym e)
    link name k t (inr ne) =
        let within : k < length (ps ++ p ∷ []) = passes_at-within (is_held_under name) (ps ++ p ∷ []) k t in
        let low : k < length ps = omega (arith, within, length_push ps p, ne) in
        get_or_append_left chains.older (newest chains.heads (flight_of_key p.key) ∷ []) 0 k (omega (arith, low, are.count))
        ∙ are.links name k (sym (push-before (is_held_under name) ps p k low) ∙ t) ∙ old-newest name k (omega (arith, low))

-- a list without its last plan
take-before : (test : PlanView → Bool) (n : ℕ) (ps : List PlanView) (k : ℕ) → k < n → passes_at test (take n ps) k ≡ passes_at test ps k
take-before test zero ps k h = absurd (omega (arith, h))
take-before test (suc n) [] k h = refl
take-before test (suc n) (x ∷ ps) zero h = refl
take-before test (suc n) (x ∷ ps) (suc k) h = take-before test n ps k (omega (arith, h))

module _ (chains : ChainsView) (ps qs : List PlanView) (n : ℕ) (len : length qs ≡ n + 1) (same : (name : FlightName) (k : ℕ) → k < n → is_held_there name ps k ≡ is_held_there name qs k)
    (absent : (name : FlightName) → is_held_there name qs n ≡ false) (short : length ps ≡ n) (are : AreChained chains qs) where
  fewer : (name : FlightName) (m : ℕ) → m ≤ n → newest_held name qs m ≡ newest_held name ps m
  fewer name m a = sym (last-same (is_held_there name qs) (is_held_there name ps) m (λ k l. same name k (omega (arith, l, a))))

  pub pop-chained : (heads : List (FlightName × ℕ)) (room : ℕ) → ((q : FlightName) → newest heads q ≡ newest chains.heads q)
      → AreChained (record { heads = heads; older = take n chains.older; room = room }) ps
  pop-chained heads room stay = record {
    count = length-take-le n chains.older (omega (arith, are.count, len)) ∙ sym short;
    heads = λ q. stay q ∙ are.heads q ∙ ap (λ m. newest_held q qs m) len
        ∙ last-more (is_held_there q qs) n false (absent q) ∙ fewer q n (omega arith) ∙ ap (λ m. newest_held q ps m) (sym short);
    links = λ name k t.
        (let within : k < length ps = passes_at-within (is_held_under name) ps k t in
        let low : k < n = omega (arith, within, short) in
        get_or-take n chains.older k 0 low ∙ are.links name k (sym (same name k low) ∙ t) ∙ fewer name k (omega (arith, low)));
  }

-- that of the list in which it counts as cancelled
pub popped : (chains : ChainsView) (ps : List PlanView) (p : PlanView) → 0 < length ps → p ≡ get_or ps (length ps - 1) p → AreChained chains (others (length ps) ps)
    → (heads : List (FlightName × ℕ)) (room : ℕ) → ((q : FlightName) → newest heads q ≡ newest chains.heads q)
    → AreChained (record { heads = heads; older = take (length ps - 1) chains.older; room = room }) (take (length ps - 1) ps)
popped chains ps p some stood are heads room stay =
    pop-chained chains (take (length ps - 1) ps) (others (length ps) ps) (length ps - 1)
    (others-length ps (length ps) p some (omega arith) stood ∙ omega (arith, some))
    (λ name k l. take-before (is_held_under name) (length ps - 1) ps k l ∙ sym (others-same ps (length ps) p some (omega arith) stood name k (λ e. omega (arith, e, l))))
    (others-gone ps (length ps) p some (omega arith) stood) (length-take-le (length ps - 1) ps (omega arith)) are heads room stay
