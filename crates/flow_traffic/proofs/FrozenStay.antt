-- Frozen pairs stay through a reading, except those that it may remove.
use Rattle.std.proofs.Common.{◌≡◌, ℕ, ◌+◌, ◌-◌, ◌<◌, ◌≤◌, ◌⊎◌, inl, inr, Bool, true, false, not, nat_lt, nat_le, if◌then◌else◌, List, [], ◌∷◌, ◌++◌, map, filter, length, Option, Some, None, Result, Ok, Err, MatchResult, refl, sym, ap, subst, ◌∙◌, arith}
use mathlib.Core.Logic.{⊎_elim}
use Rattle.std.specs.List.{AllByRecursion, list_any}
use Rattle.std.specs.Option.{option_map_or}
use Rattle.std.specs.Str.{bytes_eq}
use Rattle.std.proofs.lemmas.Bool.{cases_eq, ltb-false}
use Rattle.std.proofs.lemmas.Option.{slice_get_within}
use Rattle.std.proofs.lemmas.Slice.Eq.{bytes_eq-Decides}
use Rattle.fpl_message.specs.declared.refusal.Refusal.{Refusal}
use Rattle.fpl_message.specs.declared.refusal.Refusal.TheVariants as refusal
use Rattle.fpl_message.specs.declared.order.OpenReg.{OpenReg}
use Rattle.fpl_message.specs.Messages.{Message, fpl, dla, chg, cnl, dep, open_reg, shut_reg, set_time}
use Rattle.fpl_message.specs.Reads.{ReadingView, msg, ord, bad}
use Rattle.fpl_message.specs.Refusals.{◌>>=◌}
use Rattle.flow_plans.specs.declared.plan.PlanState.TheVariants as state
use Rattle.flow_plans.specs.Plans.{PlanView, plan_at, with_state}
use Rattle.flow_plans.specs.Changes.{Changed, filed}
use Rattle.flow_plans.proofs.Distincts.{filed-count}
use Rattle.flow_slots.specs.Assignment.{Placed}
use Rattle.flow_slots.specs.Lineup.{assigned}
use Rattle.flow_regulations.specs.Regulations.{Regulation, has_flight, lineup_of}
use Rattle.flow_regulations.specs.Settling.{keeps, keeps_pair, settled, frozen_at_departure, insert_all, pairs_of}
use Rattle.flow_regulations.specs.Listing.{RegulationView, regulation_of, IsSettled, AreSameBut, HasPair}
use Rattle.flow_regulations.specs.declared.notice.Told.{Told}
use Rattle.flow_regulations.specs.declared.notice.Notice.{Notice}
use Rattle.flow_regulations.proofs.Advances.{stays-later}
use Rattle.flow_regulations.proofs.FixedOnes.{all-map}
use Rattle.flow_regulations.proofs.ForTheDesk.{all-last}
use Rattle.flow_regulations.proofs.Frozen.{settling-keeps, departing-keeps}
use Rattle.flow_regulations.proofs.Names.{settled-name}
use Rattle.flow_regulations.proofs.Walks.{map-map}
use Rattle.flow_traffic.specs.declared.verdict.Verdict.{Verdict}
use Rattle.flow_traffic.specs.declared.verdict.Kind.TheVariants as kind
use Rattle.flow_traffic.specs.declared.verdict.Verdict.TheVariants.{Refused}
use Rattle.flow_traffic.specs.Traffic.{Traffic, regulation_named}
use Rattle.flow_traffic.specs.State.{TrafficState, traffic_of}
use Rattle.flow_slots.specs.Limits.{rates_fit}
use Rattle.flow_traffic.specs.Opening.{has_period, regulation_by}
use Rattle.flow_traffic.specs.Asked.{Asked, asked, asked_by_message, asked_to_open, asked_to_shut, asked_at, plans_changed_by, departing, is_called, is_departure, ordered, verdict_on}
use Rattle.flow_traffic.specs.declared.opening.TheConstants.{MAX_REGULATIONS}
use Rattle.flow_traffic.specs.Answers.{Answers, settle}
use Rattle.flow_traffic.specs.Frozen.{frozen_pairs, IsFrozenStill, FrozenPairsStay}
use Rattle.flow_traffic.proofs.Changing.{ok-same, unless-ok, filed-same, delayed-same, amended-same, cancelled-same, departed-same, departed-there}

-- ---- which pairs may stay

-- all frozen pairs of these regulations may stay by this time and these plans
abbrev pub MayStay : ℕ → ℕ → List PlanView → List Regulation → Type 0
MayStay taxi at plans regulations = AllByRecursion (λ r. AllByRecursion (λ a. (0 < a.flight) × (keeps_pair taxi at plans r a ≡ true)) r.fixed) regulations

-- those of settled regulations may, from then on
pub may-stay : (taxi now at : ℕ) (plans : List PlanView) (lists : List RegulationView) → now ≤ at → IsSettled taxi now plans lists → MayStay taxi at plans (map regulation_of lists)
may-stay taxi now at plans [] later s = tt
may-stay taxi now at plans (l ∷ ls) later s = (stays-later taxi now at plans l later s.0, may-stay taxi now at plans ls later s.1)

pair-of : (P : Placed → Type 0) (a : Placed) (xs : List Placed) → AllByRecursion P xs → HasPair a xs → P a
pair-of P a [] all h = absurd h
pair-of P a (x ∷ xs) all (inl e) = subst P e all.0
pair-of P a (x ∷ xs) all (inr h) = pair-of P a xs all.1 h

-- the pair may stay if it is frozen
abbrev AStays : ℕ → ℕ → List PlanView → Placed → Regulation → Type 0
AStays taxi at plans a r = HasPair a r.fixed → (0 < a.flight) × (keeps_pair taxi at plans r a ≡ true)

this-stays : (taxi at : ℕ) (plans : List PlanView) (a : Placed) (rs : List Regulation) → MayStay taxi at plans rs → AllByRecursion (AStays taxi at plans a) rs
this-stays taxi at plans a rs all =
    all-map (λ r. AllByRecursion (λ b. (0 < b.flight) × (keeps_pair taxi at plans r b ≡ true)) r.fixed) (AStays taxi at plans a) rs
    (λ r each has. pair-of (λ b. (0 < b.flight) × (keeps_pair taxi at plans r b ≡ true)) a r.fixed each has) all

-- it is of a plan that there is
stays-within : (taxi at : ℕ) (plans : List PlanView) (r : Regulation) (a : Placed) → keeps_pair taxi at plans r a ≡ true → (p : PlanView) × (plan_at plans a.flight ≡ Some p)
stays-within taxi at plans r a h = by (plan_at plans a.flight) h where
  by : (o : Option PlanView) → option_map_or (keeps taxi at r a.slot) o false ≡ true → (p : PlanView) × (o ≡ Some p)
  by None e = absurd (cc)
  by (Some p) e = (p, refl)

-- if its plan is as before, it may stay
stays-same : (taxi at : ℕ) (plans later : List PlanView) (r : Regulation) (a : Placed) → plan_at later a.flight ≡ plan_at plans a.flight → keeps_pair taxi at plans r a ≡ true → keeps_pair taxi at later r a ≡ true
stays-same taxi at plans later r a same h = ap (λ (o : Option PlanView). option_map_or (keeps taxi at r a.slot) o false) same ∙ h

-- and if its flight has departed
stays-departed : (taxi at : ℕ) (later : List PlanView) (r : Regulation) (a : Placed) (p : PlanView) → plan_at later a.flight ≡ Some (with_state state.Departed p) → keeps_pair taxi at later r a ≡ true
stays-departed taxi at later r a p gone = ap (λ (o : Option PlanView). option_map_or (keeps taxi at r a.slot) o false) gone

-- freezing a departing flight removes none, and changes no period
stays-frozen : (taxi at max n : ℕ) (before later : List PlanView) (r : Regulation) (a : Placed) → keeps_pair taxi at later r a ≡ true → keeps_pair taxi at later (frozen_at_departure taxi max before n r) a ≡ true
unfolding frozen_at_departure
stays-frozen taxi at max n before later r a h = by (has_flight n r.fixed) where
  by : (b : Bool) → keeps_pair taxi at later (if b then r else record r { fixed = insert_all (pairs_of n (assigned (lineup_of taxi max before r))) r.fixed }) a ≡ true
  by true = h
  by false = h

frozen-name : (taxi max n : ℕ) (before : List PlanView) (r : Regulation) → (frozen_at_departure taxi max before n r).id ≡ r.id
unfolding frozen_at_departure
frozen-name taxi max n before r = by (has_flight n r.fixed) where
  by : (b : Bool) → (if b then r else record r { fixed = insert_all (pairs_of n (assigned (lineup_of taxi max before r))) r.fixed }).id ≡ r.id
  by true = refl
  by false = refl

-- ---- the regulation of a name

-- each regulation is changed by itself, under its name
pairs-mapped : (change : Regulation → Regulation) (id : List ℕ) (a : Placed) (rs : List Regulation) → ((r : Regulation) → (change r).id ≡ r.id)
    → AllByRecursion (λ r. HasPair a r.fixed → HasPair a (change r).fixed) rs → HasPair a (frozen_pairs id rs) → HasPair a (frozen_pairs id (map change rs))
pairs-mapped change id a [] named keep h = h
pairs-mapped change id a (r ∷ rs) named keep h =
    let G : List ℕ → Type 0 = λ name. HasPair a (option_map_or (λ (s : Regulation). s.fixed) (if bytes_eq name id then Some (change r) else regulation_named id (map change rs)) []) in
    subst G (sym (named r)) (by (bytes_eq r.id id) keep.0 (pairs-mapped change id a rs named keep.1) h)
  where
    by : (b : Bool) → (HasPair a r.fixed → HasPair a (change r).fixed) → (HasPair a (frozen_pairs id rs) → HasPair a (frozen_pairs id (map change rs)))
        → HasPair a (option_map_or (λ (s : Regulation). s.fixed) (if b then Some r else regulation_named id rs) [])
        → HasPair a (option_map_or (λ (s : Regulation). s.fixed) (if b then Some (change r) else regulation_named id (map change rs)) [])
    by true here rest h = here h
    by false here rest h = rest h

-- one more regulation, the last
pairs-opened : (id : List ℕ) (a : Placed) (rs : List Regulation) (new : Regulation) → HasPair a (frozen_pairs id rs) → HasPair a (frozen_pairs id (rs ++ new ∷ []))
pairs-opened id a [] new h = absurd h
pairs-opened id a (r ∷ rs) new h = by (bytes_eq r.id id) (pairs-opened id a rs new) h where
  by : (b : Bool) → (HasPair a (frozen_pairs id rs) → HasPair a (frozen_pairs id (rs ++ new ∷ [])))
      → HasPair a (option_map_or (λ (s : Regulation). s.fixed) (if b then Some r else regulation_named id rs) [])
      → HasPair a (option_map_or (λ (s : Regulation). s.fixed) (if b then Some r else regulation_named id (rs ++ new ∷ [])) [])
  by true rest h = h
  by false rest h = rest h

-- a regulation is closed: of the others all pairs are there
pairs-shut : (named id : List ℕ) (a : Placed) (rs : List Regulation) → HasPair a (frozen_pairs id rs) → HasPair a (frozen_pairs id (filter (λ r. not (is_called named r)) rs)) ⊎ (named ≡ id)
pairs-shut named id a [] h = absurd h
pairs-shut named id a (r ∷ rs) h = by (bytes_eq r.id id) (bytes_eq r.id named) refl refl (pairs-shut named id a rs) h where
  by : (b c : Bool) → bytes_eq r.id id ≡ b → bytes_eq r.id named ≡ c
      → (HasPair a (frozen_pairs id rs) → HasPair a (frozen_pairs id (filter (λ s. not (is_called named s)) rs)) ⊎ (named ≡ id))
      → HasPair a (option_map_or (λ (s : Regulation). s.fixed) (if b then Some r else regulation_named id rs) [])
      → HasPair a (frozen_pairs id (if not c then r ∷ filter (λ s. not (is_called named s)) rs else filter (λ s. not (is_called named s)) rs)) ⊎ (named ≡ id)
  by true true d e rest h = inr (sym ((bytes_eq-Decides r.id named).0 e) ∙ (bytes_eq-Decides r.id id).0 d)
  by true false d e rest h = inl (rw d h)
  by false true d e rest h = rest h
  by false false d e rest h = rw d (rest h)

all-left : (P : Regulation → Type 0) (test : Regulation → Bool) (rs : List Regulation) → AllByRecursion P rs → AllByRecursion P (filter test rs)
all-left P test [] all = tt
all-left P test (r ∷ rs) all = by (test r) (all-left P test rs all.1) where
  by : (b : Bool) → AllByRecursion P (filter test rs) → AllByRecursion P (if b then r ∷ filter test rs else filter test rs)
  by true rest = (all.0, rest)
  by false rest = rest

-- ---- settling

-- a pair that may stay by the plans before and also by those after is there after settling
pairs-settled : (taxi at : ℕ) (plans later : List PlanView) (rs : List Regulation) (id : List ℕ) (a : Placed) → AllByRecursion (AStays taxi at plans a) rs
    → ((r : Regulation) → 0 < a.flight → keeps_pair taxi at plans r a ≡ true → keeps_pair taxi at later r a ≡ true)
    → HasPair a (frozen_pairs id rs) → HasPair a (frozen_pairs id (map (settled taxi at later) rs))
pairs-settled taxi at plans later rs id a all on =
    pairs-mapped (settled taxi at later) id a rs (λ r. settled-name taxi at later r)
    (all-map (AStays taxi at plans a) (λ r. HasPair a r.fixed → HasPair a (settled taxi at later r).fixed) rs
    (λ r may has. settling-keeps taxi at later r a (on r (may has).0 (may has).1) has) all)

-- the same if one flight departs
pairs-departing : (taxi max at n : ℕ) (plans later : List PlanView) (rs : List Regulation) (id : List ℕ) (a : Placed) → AllByRecursion (AStays taxi at plans a) rs
    → ((r : Regulation) → 0 < a.flight → keeps_pair taxi at plans r a ≡ true → keeps_pair taxi at later r a ≡ true)
    → HasPair a (frozen_pairs id rs) → HasPair a (frozen_pairs id (map (settled taxi at later) (map (frozen_at_departure taxi max plans n) rs)))
pairs-departing taxi max at n plans later rs id a all on h =
    let freeze : Regulation → Regulation = frozen_at_departure taxi max plans n in
    let change : Regulation → Regulation = λ r. settled taxi at later (freeze r) in
    subst (λ (ss : List Regulation). HasPair a (frozen_pairs id ss)) (map-map freeze (settled taxi at later) rs)
    (pairs-mapped change id a rs (λ r. settled-name taxi at later (freeze r) ∙ frozen-name taxi max n plans r)
    (all-map (AStays taxi at plans a) (λ r. HasPair a r.fixed → HasPair a (change r).fixed) rs
    (λ r may has. settling-keeps taxi at later (freeze r) a
    (stays-frozen taxi at max n plans later r a (on r (may has).0 (may has).1))
    (departing-keeps taxi max n plans r a has)) all) h)

-- ---- what a message leaves

module _ (t : Traffic) (id : List ℕ) (a : Placed) (all : MayStay t.taxi t.now t.plans t.regulations) (h : HasPair a (frozen_pairs id t.regulations)) where
  -- of the plan of another number
  other-stays : (n : ℕ) (later : List PlanView) → AreSameBut n t.plans later → (a.flight ≡ n → ⊥) → (r : Regulation) → 0 < a.flight → keeps_pair t.taxi t.now t.plans r a ≡ true → keeps_pair t.taxi t.now later r a ≡ true
  other-stays n later same apart r some may = stays-same t.taxi t.now t.plans later r a (same a.flight some apart) may

  filed-stays : (later : List PlanView) → AreSameBut (length later) t.plans later → length later ≡ length t.plans + 1
      → (r : Regulation) → 0 < a.flight → keeps_pair t.taxi t.now t.plans r a ≡ true → keeps_pair t.taxi t.now later r a ≡ true
  filed-stays later same count r some may =
      let p = stays-within t.taxi t.now t.plans r a may in
      let within : a.flight - 1 < length t.plans = slice_get_within t.plans (a.flight - 1) p.0 p.1 in
      other-stays (length later) later same (λ e. absurd (omega (arith, e, within, count, some))) r some may

  departed-stays : (n : ℕ) (later : List PlanView) → AreSameBut n t.plans later → ((p : PlanView) → plan_at t.plans n ≡ Some p → plan_at later n ≡ Some (with_state state.Departed p))
      → (r : Regulation) → 0 < a.flight → keeps_pair t.taxi t.now t.plans r a ≡ true → keeps_pair t.taxi t.now later r a ≡ true
  departed-stays n later same gone r some may = ⊎_elim own (λ ne. other-stays n later same ne r some may) (cases_eq a.flight n) where
    own : a.flight ≡ n → keeps_pair t.taxi t.now later r a ≡ true
    own e =
        let p = stays-within t.taxi t.now t.plans r a may in
        let there : plan_at t.plans n ≡ Some p.0 = ap (λ k. plan_at t.plans k) (sym e) ∙ p.1 in
        stays-departed t.taxi t.now later r a p.0 (ap (λ k. plan_at later k) e ∙ gone p.0 there)

  -- after a message about that plan, which may remove its pair
  pairs-after : (n : ℕ) (later : List PlanView) → AreSameBut n t.plans later → HasPair a (frozen_pairs id (map (settled t.taxi t.now later) t.regulations)) ⊎ (n ≡ a.flight)
  pairs-after n later same = ⊎_elim (λ e. inr (sym e)) (λ ne. inl (stay ne)) (cases_eq a.flight n) where
    stay : (a.flight ≡ n → ⊥) → HasPair a (frozen_pairs id (map (settled t.taxi t.now later) t.regulations))
    stay ne = pairs-settled t.taxi t.now t.plans later t.regulations id a (this-stays t.taxi t.now t.plans a t.regulations all) (other-stays n later same ne) h

  message-stays : (m : Message) (c : Changed) → plans_changed_by t.max_plans t.now t.plans m ≡ Ok c
      → IsFrozenStill (msg m) (verdict_on t.told m c.number) (map (settled t.taxi t.now c.plans) (departing (is_departure m) c.number t.taxi t.max_plans t.plans t.regulations)) id a
  unfolding plans_changed_by verdict_on is_departure
  message-stays (fpl m) c e = by (filed t.max_plans t.now t.plans m) refl e where
    by : (r : Result (List PlanView) Refusal) → filed t.max_plans t.now t.plans m ≡ r → (r >>= (λ more. Ok (record { plans = more; number = length more }))) ≡ Ok c
        → IsFrozenStill (msg (fpl m)) (verdict_on t.told (fpl m) c.number) (map (settled t.taxi t.now c.plans) t.regulations) id a
    by (Err r) q e = absurd (cc)
    by (Ok more) q e =
        let made : Changed = record { plans = more; number = length more } in
        let plans : more ≡ c.plans = ap (λ (d : Changed). d.plans) (ok-same made c e) in
        let stay : HasPair a (frozen_pairs id (map (settled t.taxi t.now more) t.regulations)) =
        pairs-settled t.taxi t.now t.plans more t.regulations id a (this-stays t.taxi t.now t.plans a t.regulations all)
        (filed-stays more (filed-same t.max_plans t.now t.plans more m q) (filed-count t.max_plans t.now t.plans more m q)) h in
        inl (subst (λ (ps : List PlanView). HasPair a (frozen_pairs id (map (settled t.taxi t.now ps) t.regulations))) plans stay)
  message-stays (dla m) c e = pairs-after c.number c.plans (delayed-same t.now t.plans m c e).1
  message-stays (chg m) c e = pairs-after c.number c.plans (amended-same t.now t.plans m c e).1
  message-stays (cnl m) c e = pairs-after c.number c.plans (cancelled-same t.plans m c e).1
  message-stays (dep m) c e =
      inl (pairs-departing t.taxi t.max_plans t.now c.number t.plans c.plans t.regulations id a (this-stays t.taxi t.now t.plans a t.regulations all)
      (departed-stays c.number c.plans (departed-same t.plans m c e).1 (λ p there. departed-there t.plans m c p e there)) h)

-- ---- what a reading leaves

-- the regulations after an accepted reading
abbrev settled_by : Traffic → Asked → List Regulation
settled_by t x = map (settled t.taxi x.now x.plans) x.regulations

module _ (t : Traffic) (all : (at : ℕ) → t.now ≤ at → MayStay t.taxi at t.plans t.regulations) (id : List ℕ) (a : Placed) (h : HasPair a (frozen_pairs id t.regulations)) where
  now-all : MayStay t.taxi t.now t.plans t.regulations
  now-all = all t.now (omega arith)

  -- as what is asked for
  abbrev StaysBy : ReadingView → Asked → Type 0
  StaysBy reading x = IsFrozenStill reading x.verdict (settled_by t x) id a

  message-accepted : (m : Message) (x : Asked) → asked_by_message t m ≡ Ok x → StaysBy (msg m) x
  unfolding asked_by_message
  message-accepted m x e = by (plans_changed_by t.max_plans t.now t.plans m) refl e where
    by : (r : Result Changed Refusal) → plans_changed_by t.max_plans t.now t.plans m ≡ r
        → (r >>= (λ changed. Ok (record { plans = changed.plans; now = t.now; regulations = departing (is_departure m) changed.number t.taxi t.max_plans t.plans t.regulations; verdict = verdict_on t.told m changed.number }))) ≡ Ok x
        → StaysBy (msg m) x
    by (Err r) q e = absurd (cc)
    by (Ok c) q e = subst (StaysBy (msg m)) (ok-same _ x e) (message-stays t id a now-all h m c q)

  open-accepted : (m : OpenReg) (x : Asked) → asked_to_open t m ≡ Ok x → StaysBy (ord (open_reg m)) x
  unfolding asked_to_open
  open-accepted m x e =
      let b = unless-ok (not (has_period m)) refusal.BadPeriod _ x e in
      let c = unless-ok (not (rates_fit m.rate m.more)) refusal.BadRate _ x b in
      let d = unless-ok (list_any (is_called m.id) t.regulations) refusal.RegulationHeld _ x c in
      let f = unless-ok (nat_le MAX_REGULATIONS (length t.regulations)) refusal.RegulationsFull _ x d in
      let here : AllByRecursion (AStays t.taxi t.now t.plans a) (t.regulations ++ regulation_by m ∷ []) =
      all-last (AStays t.taxi t.now t.plans a) t.regulations (regulation_by m) (this-stays t.taxi t.now t.plans a t.regulations now-all) (λ has. absurd has) in
      subst (StaysBy (ord (open_reg m))) (ok-same (ordered t kind.Open t.now (t.regulations ++ regulation_by m ∷ [])) x f)
      (inl (pairs-settled t.taxi t.now t.plans t.plans (t.regulations ++ regulation_by m ∷ []) id a here (λ r some may. may) (pairs-opened id a t.regulations (regulation_by m) h)))

  shut-accepted : (named : List ℕ) (x : Asked) → asked_to_shut t named ≡ Ok x → StaysBy (ord (shut_reg named)) x
  unfolding asked_to_shut
  shut-accepted named x e =
      let left : List Regulation = filter (λ r. not (is_called named r)) t.regulations in
      let f = unless-ok (not (list_any (is_called named) t.regulations)) refusal.NoRegulation _ x e in
      let here : AllByRecursion (AStays t.taxi t.now t.plans a) left =
      all-left (AStays t.taxi t.now t.plans a) (λ r. not (is_called named r)) t.regulations (this-stays t.taxi t.now t.plans a t.regulations now-all) in
      subst (StaysBy (ord (shut_reg named))) (ok-same (ordered t kind.Shut t.now left) x f)
      (⊎_elim (λ s. inl (pairs-settled t.taxi t.now t.plans t.plans left id a here (λ r some may. may) s)) (λ s. inr s) (pairs-shut named id a t.regulations h))

  time-accepted : (at : ℕ) (x : Asked) → asked_at t at ≡ Ok x → StaysBy (ord (set_time at)) x
  unfolding asked_at
  time-accepted at x e = by (nat_lt at t.now) refl e where
    by : (b : Bool) → nat_lt at t.now ≡ b → (if b then Err refusal.TimeBack else Ok (ordered t kind.Time at t.regulations)) ≡ Ok x → StaysBy (ord (set_time at)) x
    by true q e = absurd (cc)
    by false q e =
        subst (StaysBy (ord (set_time at))) (ok-same (ordered t kind.Time at t.regulations) x e)
        (inl (pairs-settled t.taxi at t.plans t.plans t.regulations id a (this-stays t.taxi at t.plans a t.regulations (all at (ltb-false at t.now q))) (λ r some may. may) h))

  accepted-stays : (reading : ReadingView) (x : Asked) → asked t reading ≡ Ok x → StaysBy reading x
  accepted-stays (msg m) x e = message-accepted m x e
  accepted-stays (ord (open_reg m)) x e = open-accepted m x e
  accepted-stays (ord (shut_reg named)) x e = shut-accepted named x e
  accepted-stays (ord (set_time at)) x e = time-accepted at x e
  accepted-stays (bad refusal) x e = absurd (cc)

-- if all frozen pairs may stay from now on, they do, except those that the reading may remove
pub frozen-stay : (reading : ReadingView) (old new : Traffic) (v : Verdict) → ((at : ℕ) → old.now ≤ at → MayStay old.taxi at old.plans old.regulations) → Answers reading old new v → FrozenPairsStay reading old new v
unfolding settle
frozen-stay reading old new v all answers id a h = by (asked old reading) refl answers where
  by : (r : Result Asked Refusal) → asked old reading ≡ r → MatchResult r (λ x. (new ≡ settle old x) × (v ≡ x.verdict)) (λ refusal. (new ≡ old) × (v ≡ Refused refusal))
      → IsFrozenStill reading v new.regulations id a
  by (Ok x) e is =
      subst (λ (s : Traffic). IsFrozenStill reading v s.regulations id a) (sym is.0)
      (subst (λ (w : Verdict). IsFrozenStill reading w (settled_by old x) id a) (sym is.1) (accepted-stays old all id a h reading x e))
  by (Err r) e is = subst (λ (s : Traffic). IsFrozenStill reading v s.regulations id a) (sym is.0) (inl h)

-- the same if the traffic before is that of settled slot lists
pub frozen-settled : (reading : ReadingView) (s : TrafficState) (told : List (Option Told)) (notices : List Notice) (old new : Traffic) (v : Verdict)
    → traffic_of s told notices ≡ old → IsSettled s.store.taxi s.time s.store.plans s.listing.lists → Answers reading old new v → FrozenPairsStay reading old new v
frozen-settled reading s told notices old new v was settled_in answers =
    frozen-stay reading old new v
    (subst (λ (t : Traffic). (at : ℕ) → t.now ≤ at → MayStay t.taxi at t.plans t.regulations) was (λ at later. may-stay s.store.taxi s.time at s.store.plans s.listing.lists later settled_in)) answers
