-- The chains after a plan left its chain, or was put into one.
use Rattle.std.proofs.Common.{◌≡◌, ℕ, zero, suc, ◌+◌, ◌<◌, ◌≤◌, Bool, true, false, ◌&&◌, ◌==◌, if◌then◌else◌, ◌⊎◌, inl, inr, List, [], ◌∷◌, length, cond, unwrap_or, Some, None, slice_get, slice_set, slice_index, refl, sym, ap, subst, ◌∙◌, arith, length-set}
use Rattle.std.specs.Map.{lookup}
use Rattle.std.proofs.lemmas.Bool.{cases_eq, cases_lt}
use Rattle.std.proofs.lemmas.Bool.Decides.{Decides-eqb}
use Rattle.std.proofs.lemmas.List.{get_or-set_same, get_or-set_other}
use Rattle.flow_plans.specs.declared.chains.FlightName.{FlightName}
use Rattle.flow_plans.specs.Plans.{PlanView, is_held}
use Rattle.flow_plans.specs.Chains.{ChainsView, newest, IsUpdated, same_flight, flight_of_key, is_held_under, is_held_there, newest_held, AreChained}
use Rattle.flow_plans.proofs.LastNumbers.{last-le, last-passes, last-above, last-same, last-lower, last-low, last-skipped, last-stays, last-high, last-new}
use Rattle.flow_plans.proofs.Matches.{passes_at-within}

pub and-left : (a b : Bool) → (a && b) ≡ true → a ≡ true
and-left true b h = refl
and-left false b h = h

pub and-right : (a b : Bool) → (a && b) ≡ true → b ≡ true
and-right true b h = h
and-right false b h = absurd (cc)

pub same_flight-same : (a b : FlightName) → same_flight a b ≡ true → a ≡ b
same_flight-same a b h =
    let ident : a.ident ≡ b.ident = (Decides-eqb a.ident b.ident).0 (and-left (a.ident == b.ident) _ h) in
    let ends : a.ends ≡ b.ends = (Decides-eqb a.ends b.ends).0 (and-right (a.ident == b.ident) _ h) in
    λ j. record { ident = ident j; ends = ends j }

pub same_flight-refl : (a : FlightName) → same_flight a a ≡ true
same_flight-refl a = rw ((Decides-eqb a.ident a.ident).1 refl, (Decides-eqb a.ends a.ends).1 refl) refl

pub same_flight-flip : (a b : FlightName) (r : Bool) → same_flight a b ≡ r → same_flight b a ≡ r
same_flight-flip a b true h = subst (λ (c : FlightName). same_flight c a ≡ true) (same_flight-same a b h) (same_flight-refl a)
same_flight-flip a b false h = by (same_flight b a) refl where
  by : (r : Bool) → same_flight b a ≡ r → same_flight b a ≡ false
  by true e =
      let t : same_flight a b ≡ true = subst (λ (c : FlightName). same_flight c b ≡ true) (same_flight-same b a e) (same_flight-refl b) in
      absurd (cc)
  by false e = e

-- a plan is held under one name
pub held-name : (ps : List PlanView) (k : ℕ) (p : PlanView) (name : FlightName) → slice_get ps k ≡ Some p → is_held_there name ps k ≡ true → name ≡ flight_of_key p.key
held-name ps k p name there t =
    let u : is_held_under name p ≡ true = rw there at t in
    same_flight-same name (flight_of_key p.key) (and-right (is_held p.state) _ u)

pub held-one : (ps : List PlanView) (k : ℕ) (a b : FlightName) → is_held_there a ps k ≡ true → is_held_there b ps k ≡ true → a ≡ b
held-one [] k a b s t = absurd (cc)
held-one (p ∷ ps) zero a b s t = held-name (p ∷ ps) zero p a refl s ∙ sym (held-name (p ∷ ps) zero p b refl t)
held-one (p ∷ ps) (suc k) a b s t = held-one ps k a b s t

clash : (b : Bool) → b ≡ true → b ≡ false → ⊥
clash b t f = absurd (cc)

-- the same plans are held under the same names
pub chained-same : (chains : ChainsView) (ps qs : List PlanView) → length qs ≡ length ps → ((name : FlightName) (k : ℕ) → is_held_there name qs k ≡ is_held_there name ps k) → AreChained chains ps → AreChained chains qs
chained-same chains ps qs len same are = record {
  count = are.count ∙ sym len;
  heads = λ name. are.heads name ∙ sym (last-same (is_held_there name ps) (is_held_there name qs) (length ps) (λ k l. same name k)) ∙ ap (λ n. newest_held name qs n) (sym len);
  links = λ name k t. are.links name k (sym (same name k) ∙ t) ∙ sym (last-same (is_held_there name ps) (is_held_there name qs) k (λ j l. same name j));
}

-- one plan is held no more
module _ (chains : ChainsView) (ps qs : List PlanView) (i : ℕ) (own : FlightName) (len : length qs ≡ length ps) (within : i < length ps)
    (same : (name : FlightName) (k : ℕ) → (k ≡ i → ⊥) → is_held_there name qs k ≡ is_held_there name ps k)
    (gone : (name : FlightName) → is_held_there name qs i ≡ false)
    (only : (name : FlightName) → is_held_there name ps i ≡ true → name ≡ own) (are : AreChained chains ps) where
  not-there : (is_held_there own ps i ≡ true → ⊥) → AreChained chains qs
  not-there never = chained-same chains ps qs len (λ name k. by name k (cases_eq k i)) are where
    absent : (name : FlightName) (b : Bool) → is_held_there name ps i ≡ b → b ≡ false
    absent name true e = absurd (never (subst (λ (n : FlightName). is_held_there n ps i ≡ true) (only name e) e))
    absent name false e = refl

    by : (name : FlightName) (k : ℕ) → (k ≡ i) ⊎ (k ≡ i → ⊥) → is_held_there name qs k ≡ is_held_there name ps k
    by name k (inl e) = subst (λ j. is_held_there name qs j ≡ is_held_there name ps j) (sym e) (gone name ∙ sym (absent name (is_held_there name ps i) refl))
    by name k (inr apart) = same name k apart

  pub left-absent : newest chains.heads own < i + 1 → AreChained chains qs
  left-absent few = not-there (λ t. omega (arith, last-above (is_held_there own ps) (length ps) i within t, are.heads own, few))

  pub left-past : (l : ℕ) → i < l → is_held_there own ps l ≡ true → slice_index chains.older l ≤ i + 1 → (slice_index chains.older l ≡ i + 1 → ⊥) → AreChained chains qs
  left-past l a held most other =
      not-there (λ t. other (omega (arith, last-above (is_held_there own ps) l i a t, are.links own l held, most)))

  -- a plan that was held before is not this one
  before : (name : FlightName) (k : ℕ) → is_held_there name qs k ≡ true → (k ≡ i → ⊥)
  before name k t e = clash (is_held_there name qs k) t (subst (λ j. is_held_there name qs j ≡ false) (sym e) (gone name))

  was : (name : FlightName) (k : ℕ) → is_held_there name qs k ≡ true → is_held_there name ps k ≡ true
  was name k t = sym (same name k (before name k t)) ∙ t

  stays : (name : FlightName) (m : ℕ) → (newest_held name ps m ≡ i + 1 → ⊥) → newest_held name ps m ≡ newest_held name qs m
  stays name m other = sym (last-stays (is_held_there name ps) (is_held_there name qs) i (same name) (gone name) m other)

  skipped : (name : FlightName) (m : ℕ) → newest_held name ps m ≡ i + 1 → slice_index chains.older i ≡ newest_held name qs m
  skipped name m e =
      are.links name i (last-passes (is_held_there name ps) m i e)
      ∙ sym (last-skipped (is_held_there name ps) (is_held_there name qs) i (same name) (gone name) m e)

  -- the newest of its flight
  pub left-newest : (heads : List (FlightName × ℕ)) (room : ℕ) → newest chains.heads own ≡ i + 1
      → ((q : FlightName) → newest heads q ≡ (if same_flight own q then slice_index chains.older i else newest chains.heads q))
      → AreChained (record { heads = heads; older = chains.older; room = room }) qs
  left-newest heads room first updates = record {
    count = are.count ∙ sym len;
    heads = λ q. updates q ∙ by q (same_flight own q) refl ∙ ap (λ n. newest_held q qs n) (sym len);
    links = λ name k t. are.links name k (was name k t) ∙ stays name k (λ e. late name k t e);
  } where
    by : (q : FlightName) (b : Bool) → same_flight own q ≡ b → (if b then slice_index chains.older i else newest chains.heads q) ≡ newest_held q qs (length ps)
    by q true e =
        let o : own ≡ q = same_flight-same own q e in
        skipped q (length ps) (subst (λ (n : FlightName). newest_held n ps (length ps) ≡ i + 1) o (sym (are.heads own) ∙ first))
    by q false e =
        are.heads q ∙ stays q (length ps) (λ s.
        (let o : q ≡ own = only q (last-passes (is_held_there q ps) (length ps) i s) in
        clash (same_flight own q) (subst (λ (n : FlightName). same_flight own n ≡ true) (sym o) (same_flight-refl own)) e))

    late : (name : FlightName) (k : ℕ) → is_held_there name qs k ≡ true → newest_held name ps k ≡ i + 1 → ⊥
    late name k t e =
        let o : name ≡ own = only name (last-passes (is_held_there name ps) k i e) in
        let held : is_held_there own ps k ≡ true = subst (λ (n : FlightName). is_held_there n ps k ≡ true) o (was name k t) in
        let high : k < newest_held own ps (length ps) = last-above (is_held_there own ps) (length ps) k (passes_at-within (is_held_under own) ps k held) held in
        omega (arith, high, are.heads own, first, last-le (is_held_there name ps) k, e)

  -- or one that follows a newer one
  pub left-later : (l room : ℕ) → i < l → is_held_there own ps l ≡ true → slice_index chains.older l ≡ i + 1
      → AreChained (record { heads = chains.heads; older = slice_set chains.older l (slice_index chains.older i); room = room }) qs
  left-later l room a held next = record {
    count = length-set chains.older l (slice_index chains.older i) ∙ are.count ∙ sym len;
    heads = λ q. are.heads q ∙ stays q (length ps) (λ e. first q e) ∙ ap (λ n. newest_held q qs n) (sym len);
    links = λ name k t. link name k t (cases_eq k l);
  } where
    inside : l < length ps
    inside = passes_at-within (is_held_under own) ps l held

    first : (q : FlightName) → newest_held q ps (length ps) ≡ i + 1 → ⊥
    first q e =
        let o : q ≡ own = only q (last-passes (is_held_there q ps) (length ps) i e) in
        let high : l < newest_held q ps (length ps) = last-above (is_held_there q ps) (length ps) l inside (subst (λ (n : FlightName). is_held_there n ps l ≡ true) (sym o) held) in
        omega (arith, high, e, a)

    apart-of : (name : FlightName) (k : ℕ) → (k ≡ l → ⊥) → is_held_there name qs k ≡ true → newest_held name ps k ≡ i + 1 → (k < l) ⊎ (l ≤ k) → ⊥
    apart-of name k ne t e (inl low) =
        let o : name ≡ own = only name (last-passes (is_held_there name ps) k i e) in
        let h : k < newest_held own ps l = last-above (is_held_there own ps) l k low (subst (λ (n : FlightName). is_held_there n ps k ≡ true) o (was name k t)) in
        omega (arith, h, are.links own l held, next, last-le (is_held_there name ps) k, e)
    apart-of name k ne t e (inr high) =
        let o : name ≡ own = only name (last-passes (is_held_there name ps) k i e) in
        let h : l < newest_held name ps k = last-above (is_held_there name ps) k l (omega (arith, high, ne)) (subst (λ (n : FlightName). is_held_there n ps l ≡ true) (sym o) held) in
        omega (arith, h, e, a)

    link : (name : FlightName) (k : ℕ) → is_held_there name qs k ≡ true → (k ≡ l) ⊎ (k ≡ l → ⊥) → slice_index (slice_set chains.older l (slice_index chains.older i)) k ≡ newest_held name qs k
    link name k t (inl e) =
        let u : is_held_there name qs l ≡ true = subst (λ j. is_held_there name qs j ≡ true) e t in
        subst (λ j. slice_index (slice_set chains.older l (slice_index chains.older i)) j ≡ newest_held name qs j) (sym e)
        (get_or-set_same chains.older l (slice_index chains.older i) 0 (omega (arith, inside, are.count))
        ∙ skipped name l (sym (are.links name l (was name l u)) ∙ next))
    link name k t (inr ne) =
        get_or-set_other chains.older l k (slice_index chains.older i) 0 ne
        ∙ are.links name k (was name k t) ∙ stays name k (λ e. apart-of name k ne t e (cases_lt k l))

-- one plan more is held
module _ (chains : ChainsView) (ps qs : List PlanView) (i : ℕ) (own : FlightName) (len : length qs ≡ length ps) (within : i < length ps)
    (same : (name : FlightName) (k : ℕ) → (k ≡ i → ⊥) → is_held_there name qs k ≡ is_held_there name ps k)
    (absent : (name : FlightName) → is_held_there name ps i ≡ false) (here : is_held_there own qs i ≡ true)
    (only : (name : FlightName) → is_held_there name qs i ≡ true → name ≡ own) (are : AreChained chains ps) where
  -- of another flight nothing changes
  other-same : (name : FlightName) (m : ℕ) → is_held_there name qs i ≡ false → newest_held name ps m ≡ newest_held name qs m
  other-same name m f = sym (last-same (is_held_there name ps) (is_held_there name qs) m (λ k l. by k (cases_eq k i))) where
    by : (k : ℕ) → (k ≡ i) ⊎ (k ≡ i → ⊥) → is_held_there name qs k ≡ is_held_there name ps k
    by k (inl e) = subst (λ j. is_held_there name qs j ≡ is_held_there name ps j) (sym e) (f ∙ sym (absent name))
    by k (inr apart) = same name k apart

  low : (name : FlightName) (m : ℕ) → m ≤ i → newest_held name ps m ≡ newest_held name qs m
  low name m a = sym (last-low (is_held_there name ps) (is_held_there name qs) i (same name) m a)

  high : (name : FlightName) (m : ℕ) → i + 1 < newest_held name ps m → newest_held name ps m ≡ newest_held name qs m
  high name m a = sym (last-high (is_held_there name ps) (is_held_there name qs) i (same name) m a)

  new : (m : ℕ) → i < m → newest_held own ps m ≤ i + 1 → i + 1 ≡ newest_held own qs m
  new m a b = sym (last-new (is_held_there own ps) (is_held_there own qs) i (same own) here m a b)

  -- the newest before it is no other than this one
  lower : (m : ℕ) → i ≤ m → newest_held own ps m < i + 1 → newest_held own ps m ≡ newest_held own qs i
  lower m a b = sym (last-lower (is_held_there own ps) m i a (omega (arith, b))) ∙ low own i (omega arith)

  -- as the newest of its flight
  pub joined-newest : (heads : List (FlightName × ℕ)) (room : ℕ) → newest chains.heads own < i + 1
      → ((q : FlightName) → newest heads q ≡ (if same_flight own q then i + 1 else newest chains.heads q))
      → AreChained (record { heads = heads; older = slice_set chains.older i (newest chains.heads own); room = room }) qs
  joined-newest heads room few updates = record {
    count = length-set chains.older i (newest chains.heads own) ∙ are.count ∙ sym len;
    heads = λ q. updates q ∙ head q (same_flight own q) refl ∙ ap (λ n. newest_held q qs n) (sym len);
    links = λ name k t. link name k t (cases_eq k i);
  } where
    small : newest_held own ps (length ps) < i + 1
    small = omega (arith, are.heads own, few)

    head : (q : FlightName) (b : Bool) → same_flight own q ≡ b → (if b then i + 1 else newest chains.heads q) ≡ newest_held q qs (length ps)
    head q true e = subst (λ (n : FlightName). i + 1 ≡ newest_held n qs (length ps)) (same_flight-same own q e) (new (length ps) within (omega (arith, small)))
    head q false e = are.heads q ∙ other-same q (length ps) (free (is_held_there q qs i) refl) where
      free : (b : Bool) → is_held_there q qs i ≡ b → b ≡ false
      free true t = absurd (clash (same_flight own q) (subst (λ (n : FlightName). same_flight own n ≡ true) (sym (only q t)) (same_flight-refl own)) e)
      free false t = refl

    old : (name : FlightName) (k : ℕ) → (k ≡ i → ⊥) → is_held_there name ps k ≡ true → (b : Bool) → is_held_there name qs i ≡ b → newest_held name ps k ≡ newest_held name qs k
    old name k ne t false f = other-same name k f
    old name k ne t true f =
        let held : is_held_there own ps k ≡ true = subst (λ (n : FlightName). is_held_there n ps k ≡ true) (only name f) t in
        low name k (omega (arith, last-above (is_held_there own ps) (length ps) k (passes_at-within (is_held_under own) ps k held) held, small))

    link : (name : FlightName) (k : ℕ) → is_held_there name qs k ≡ true → (k ≡ i) ⊎ (k ≡ i → ⊥) → slice_index (slice_set chains.older i (newest chains.heads own)) k ≡ newest_held name qs k
    link name k t (inl e) =
        let o : name ≡ own = only name (subst (λ j. is_held_there name qs j ≡ true) e t) in
        subst (λ j. slice_index (slice_set chains.older i (newest chains.heads own)) j ≡ newest_held name qs j) (sym e)
        (get_or-set_same chains.older i (newest chains.heads own) 0 (omega (arith, within, are.count))
        ∙ are.heads own ∙ lower (length ps) (omega (arith, within)) small ∙ ap (λ (n : FlightName). newest_held n qs i) (sym o))
    link name k t (inr ne) =
        get_or-set_other chains.older i k (newest chains.heads own) 0 ne
        ∙ are.links name k (sym (same name k ne) ∙ t) ∙ old name k ne (sym (same name k ne) ∙ t) (is_held_there name qs i) refl

  -- or after a newer one
  pub joined-later : (l room : ℕ) → i < l → is_held_there own ps l ≡ true → slice_index chains.older l ≤ i + 1
      → AreChained (record { heads = chains.heads; older = slice_set (slice_set chains.older i (slice_index chains.older l)) l (i + 1); room = room }) qs
  joined-later l room a held most = record {
    count = length-set (slice_set chains.older i (slice_index chains.older l)) l (i + 1) ∙ length-set chains.older i (slice_index chains.older l) ∙ are.count ∙ sym len;
    heads = λ q. are.heads q ∙ head q (is_held_there q qs i) refl ∙ ap (λ n. newest_held q qs n) (sym len);
    links = λ name k t. link name k t (cases_eq k l) (cases_eq k i);
  } where
    inside : l < length ps
    inside = passes_at-within (is_held_under own) ps l held

    here-below : newest_held own ps l < i + 1
    here-below = by (cases_eq (newest_held own ps l) (i + 1)) where
      by : (newest_held own ps l ≡ i + 1) ⊎ (newest_held own ps l ≡ i + 1 → ⊥) → newest_held own ps l < i + 1
      by (inl e) = absurd (clash (is_held_there own ps i) (last-passes (is_held_there own ps) l i e) (absent own))
      by (inr ne) = omega (arith, ne, are.links own l held, most)

    head : (q : FlightName) (b : Bool) → is_held_there q qs i ≡ b → newest_held q ps (length ps) ≡ newest_held q qs (length ps)
    head q false f = other-same q (length ps) f
    head q true t =
        let there : is_held_there q ps l ≡ true = subst (λ (n : FlightName). is_held_there n ps l ≡ true) (sym (only q t)) held in
        high q (length ps) (omega (arith, last-above (is_held_there q ps) (length ps) l inside there, a))

    old : (name : FlightName) (k : ℕ) → (k ≡ l → ⊥) → (k ≡ i → ⊥) → is_held_there name ps k ≡ true → (b : Bool) → is_held_there name qs i ≡ b → newest_held name ps k ≡ newest_held name qs k
    old name k nl ni t false f = other-same name k f
    old name k nl ni t true f = by (cases_lt k l) where
      o : name ≡ own
      o = only name f

      by : (k < l) ⊎ (l ≤ k) → newest_held name ps k ≡ newest_held name qs k
      by (inl below) =
          let up : k < newest_held own ps l = last-above (is_held_there own ps) l k below (subst (λ (n : FlightName). is_held_there n ps k ≡ true) o t) in
          low name k (omega (arith, up, here-below))
      by (inr above) =
          let up : l < newest_held name ps k = last-above (is_held_there name ps) k l (omega (arith, above, nl)) (subst (λ (n : FlightName). is_held_there n ps l ≡ true) (sym o) held) in
          high name k (omega (arith, up, a))

    link : (name : FlightName) (k : ℕ) → is_held_there name qs k ≡ true → (k ≡ l) ⊎ (k ≡ l → ⊥) → (k ≡ i) ⊎ (k ≡ i → ⊥)
        → slice_index (slice_set (slice_set chains.older i (slice_index chains.older l)) l (i + 1)) k ≡ newest_held name qs k
    link name k t (inl e) s =
        let ne : l ≡ i → ⊥ = λ (m : l ≡ i). omega (arith, m, a) in
        let u : is_held_there name ps l ≡ true = sym (same name l ne) ∙ subst (λ j. is_held_there name qs j ≡ true) e t in
        let o : own ≡ name = held-one ps l own name held u in
        subst (λ j. slice_index (slice_set (slice_set chains.older i (slice_index chains.older l)) l (i + 1)) j ≡ newest_held name qs j) (sym e)
        (get_or-set_same (slice_set chains.older i (slice_index chains.older l)) l (i + 1) 0 (omega (arith, inside, are.count, length-set chains.older i (slice_index chains.older l)))
        ∙ new l a (omega (arith, here-below)) ∙ ap (λ (n : FlightName). newest_held n qs l) o)
    link name k t (inr nl) (inl e) =
        let o : name ≡ own = only name (subst (λ j. is_held_there name qs j ≡ true) e t) in
        get_or-set_other (slice_set chains.older i (slice_index chains.older l)) l k (i + 1) 0 nl
        ∙ subst (λ j. slice_index (slice_set chains.older i (slice_index chains.older l)) j ≡ newest_held name qs j) (sym e)
        (get_or-set_same chains.older i (slice_index chains.older l) 0 (omega (arith, within, are.count))
        ∙ are.links own l held ∙ lower l (omega (arith, a)) here-below ∙ ap (λ (n : FlightName). newest_held n qs i) (sym o))
    link name k t (inr nl) (inr ni) =
        get_or-set_other (slice_set chains.older i (slice_index chains.older l)) l k (i + 1) 0 nl
        ∙ get_or-set_other chains.older i k (slice_index chains.older l) 0 ni
        ∙ are.links name k (sym (same name k ni) ∙ t) ∙ old name k nl ni (sym (same name k ni) ∙ t) (is_held_there name qs i) refl

-- what a change of one number in the map means for all
pub updated-newest : (heads later : List (FlightName × ℕ)) (own : FlightName) (n : ℕ) → IsUpdated heads later own n
    → (q : FlightName) → newest later q ≡ (if same_flight own q then n else newest heads q)
updated-newest heads later own n updates q =
    ap (λ o. unwrap_or o 0) (updates q)
    ∙ elim (same_flight own q) as (λ b. unwrap_or (cond b (Some n) (lookup (same_flight q) heads)) 0 ≡ (if b then n else newest heads q)) [ true ↦ refl | false ↦ refl ]

-- where it is the same number nothing changes
pub updated-same : (heads later : List (FlightName × ℕ)) (own : FlightName) (n : ℕ) → lookup (same_flight own) heads ≡ Some n → IsUpdated heads later own n
    → (q : FlightName) → lookup (same_flight q) later ≡ lookup (same_flight q) heads
updated-same heads later own n there updates q = updates q ∙ by (same_flight own q) refl where
  by : (b : Bool) → same_flight own q ≡ b → cond b (Some n) (lookup (same_flight q) heads) ≡ lookup (same_flight q) heads
  by true e = sym there ∙ ap (λ (r : FlightName). lookup (same_flight r) heads) (same_flight-same own q e)
  by false e = refl

pub updated-stays : (heads later : List (FlightName × ℕ)) (own : FlightName) (n : ℕ) → newest heads own ≡ n → IsUpdated heads later own n
    → (q : FlightName) → newest later q ≡ newest heads q
updated-stays heads later own n first updates q = updated-newest heads later own n updates q ∙ by (same_flight own q) refl where
  by : (b : Bool) → same_flight own q ≡ b → (if b then n else newest heads q) ≡ newest heads q
  by true e = sym first ∙ ap (λ (r : FlightName). newest heads r) (same_flight-same own q e)
  by false e = refl

-- no flight is forgotten by it
pub updated-names : (heads later : List (FlightName × ℕ)) (own : FlightName) (n : ℕ) → IsUpdated heads later own n
    → (q : FlightName) → lookup (same_flight q) later ≡ None → lookup (same_flight q) heads ≡ None
updated-names heads later own n updates q none = by (same_flight own q) (sym (updates q) ∙ none) where
  by : (b : Bool) → cond b (Some n) (lookup (same_flight q) heads) ≡ None → lookup (same_flight q) heads ≡ None
  by true e = absurd (cc)
  by false e = e
