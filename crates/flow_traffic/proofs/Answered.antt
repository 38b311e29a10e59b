-- The traffic after an accepted reading, from what the calls left.
use Rattle.std.proofs.Common.{◌≡◌, ℕ, ◌≤◌, List, [], ◌∷◌, ◌++◌, map, length, Bool, true, false, not, nat_lt, nat_le, if◌then◌else◌, filter, refl, sym, ap, ◌∙◌, subst, arith, Option, Some, None, Result, Ok, Err, IsErr, IfOk, MatchResult, MatchOption, ◌⊎◌, inl, inr}
use Rattle.std.specs.List.{list_any}
use Rattle.fpl_message.specs.declared.refusal.Refusal.{Refusal}
use Rattle.fpl_message.specs.declared.refusal.Refusal.TheVariants as refusal
use Rattle.fpl_message.specs.declared.order.OpenReg.{OpenReg}
use Rattle.fpl_message.specs.Messages.{Message, Order, open_reg, shut_reg, set_time}
use Rattle.fpl_message.specs.Reads.{ReadingView, msg, ord}
use Rattle.flow_plans.specs.Plans.{PlanView}
use Rattle.flow_plans.specs.Stores.{PlanStoreView}
use Rattle.flow_plans.specs.declared.fault.PlanFault.{PlanFault}
use Rattle.flow_plans.specs.Changes.{Changed, refusal_of, IsRefusal, Refuses}
use Rattle.flow_regulations.specs.Regulations.{Regulation}
use Rattle.flow_regulations.specs.Settling.{settled}
use Rattle.flow_regulations.specs.Listing.{RegulationView, regulation_of, IsListed, IsSettled, IsOpened, AreRenewed, is_named, without_named}
use Rattle.flow_regulations.specs.Notices.{notices_from, told_from}
use Rattle.flow_regulations.specs.declared.notice.Told.{Told}
use Rattle.flow_regulations.specs.declared.notice.Notice.{Notice}
use Rattle.flow_regulations.proofs.ForTheDesk.{already-settled, opened-regulations, count-regulations}
use Rattle.flow_traffic.specs.declared.verdict.Verdict.{Verdict}
use Rattle.flow_traffic.specs.declared.verdict.Kind.{Kind}
use Rattle.flow_traffic.specs.declared.verdict.Kind.TheVariants as kind
use Rattle.flow_traffic.specs.declared.verdict.Verdict.TheVariants.{Accepted, Refused}
use Rattle.flow_traffic.specs.Traffic.{Traffic}
use Rattle.flow_traffic.specs.State.{TrafficState, with_lists, traffic_of}
use Rattle.flow_slots.specs.Limits.{rates_fit}
use Rattle.flow_traffic.specs.Opening.{has_period, regulation_by}
use Rattle.flow_traffic.specs.Asked.{Asked, asked, plans_changed_by, verdict_on, is_departure, departing, asked_by_message, asked_to_open, asked_to_shut, asked_at, is_called, ordered}
use Rattle.flow_traffic.specs.declared.opening.TheConstants.{MAX_REGULATIONS}
use Rattle.flow_traffic.specs.Answers.{settle, told_to, Answers}
use Rattle.flow_traffic.specs.Kept.{IsSettledFor}
use Rattle.flow_traffic.proofs.Telling.{told_to-same}

-- an accepted reading
pub accepted : (reading : ReadingView) (t new : Traffic) (v : Verdict) (a : Asked) → asked t reading ≡ Ok a → new ≡ settle t a → v ≡ a.verdict → Answers reading t new v
accepted reading t new v a e same verdict =
    subst (λ (r : Result Asked Refusal). MatchResult r (λ a. (new ≡ settle t a) × (v ≡ a.verdict)) (λ refusal. (new ≡ t) × (v ≡ Refused refusal))) (sym e) (same, verdict)

-- a refused one
pub refused : (reading : ReadingView) (t : Traffic) (r : Refusal) → asked t reading ≡ Err r → Answers reading t t (Refused r)
refused reading t r e =
    subst (λ (r' : Result Asked Refusal). MatchResult r' (λ a. (t ≡ settle t a) × (Refused r ≡ a.verdict)) (λ refusal. (t ≡ t) × (Refused r ≡ Refused refusal))) (sym e) (refl, refl)

-- the traffic after the regulations were settled and slots were issued to plans
pub settled-traffic : (t : Traffic) (a : Asked) (taxi max : ℕ) (regulations : List Regulation) (told1 told2 : List (Option Told)) (notices2 : List Notice)
    → taxi ≡ t.taxi → max ≡ t.max_plans → regulations ≡ map (settled t.taxi a.now a.plans) a.regulations → told1 ≡ told_to a.plans t.told
    → told2 ≡ told_from 1 t.taxi regulations a.plans told1 → notices2 ≡ t.notices ++ notices_from 1 t.taxi regulations a.plans told1
    → record { taxi = taxi; max_plans = max; now = a.now; plans = a.plans; regulations = regulations; told = told2; notices = notices2 } ≡ settle t a
unfolding settle
settled-traffic t a taxi max regulations told1 told2 notices2 e5 e6 e1 e2 e3 e4 = rw (e5, e6, e4, e3, e2, e1) refl

-- ---- messages

pub message-asked : (t : Traffic) (m : Message) (c : Changed) → plans_changed_by t.max_plans t.now t.plans m ≡ Ok c
    → asked t (msg m) ≡ Ok (record { plans = c.plans; now = t.now; regulations = departing (is_departure m) c.number t.taxi t.max_plans t.plans t.regulations; verdict = verdict_on t.told m c.number })
unfolding asked_by_message
message-asked t m c e = rw e refl

pub message-refused : (t : Traffic) (m : Message) (r : Refusal) → plans_changed_by t.max_plans t.now t.plans m ≡ Err r → asked t (msg m) ≡ Err r
unfolding asked_by_message
message-refused t m r e = rw e refl

-- ---- orders

pub opened-asked : (t : Traffic) (m : OpenReg) → has_period m ≡ true → rates_fit m.rate m.more ≡ true → list_any (is_called m.id) t.regulations ≡ false → nat_le MAX_REGULATIONS (length t.regulations) ≡ false
    → asked t (ord (open_reg m)) ≡ Ok (ordered t kind.Open t.now (t.regulations ++ regulation_by m ∷ []))
unfolding asked_to_open
opened-asked t m a b c d = rw (a, b, c, d) refl

pub period-refused : (t : Traffic) (m : OpenReg) → has_period m ≡ false → asked t (ord (open_reg m)) ≡ Err refusal.BadPeriod
unfolding asked_to_open
period-refused t m a = rw a refl

pub rate-refused : (t : Traffic) (m : OpenReg) → has_period m ≡ true → rates_fit m.rate m.more ≡ false → asked t (ord (open_reg m)) ≡ Err refusal.BadRate
unfolding asked_to_open
rate-refused t m a b = rw (a, b) refl

pub held-refused : (t : Traffic) (m : OpenReg) → has_period m ≡ true → rates_fit m.rate m.more ≡ true → list_any (is_called m.id) t.regulations ≡ true → asked t (ord (open_reg m)) ≡ Err refusal.RegulationHeld
unfolding asked_to_open
held-refused t m a b c = rw (a, b, c) refl

pub full-refused : (t : Traffic) (m : OpenReg) → has_period m ≡ true → rates_fit m.rate m.more ≡ true → list_any (is_called m.id) t.regulations ≡ false → nat_le MAX_REGULATIONS (length t.regulations) ≡ true
    → asked t (ord (open_reg m)) ≡ Err refusal.RegulationsFull
unfolding asked_to_open
full-refused t m a b c d = rw (a, b, c, d) refl

pub shut-asked : (t : Traffic) (id : List ℕ) → list_any (is_called id) t.regulations ≡ true
    → asked t (ord (shut_reg id)) ≡ Ok (ordered t kind.Shut t.now (filter (λ r. not (is_called id r)) t.regulations))
unfolding asked_to_shut
shut-asked t id a = rw a refl

pub none-refused : (t : Traffic) (id : List ℕ) → list_any (is_called id) t.regulations ≡ false → asked t (ord (shut_reg id)) ≡ Err refusal.NoRegulation
unfolding asked_to_shut
none-refused t id a = rw a refl

pub time-asked : (t : Traffic) (at : ℕ) → nat_lt at t.now ≡ false → asked t (ord (set_time at)) ≡ Ok (ordered t kind.Time at t.regulations)
unfolding asked_at
time-asked t at a = rw a refl

pub back-refused : (t : Traffic) (at : ℕ) → nat_lt at t.now ≡ true → asked t (ord (set_time at)) ≡ Err refusal.TimeBack
unfolding asked_at
back-refused t at a = rw a refl

-- one more settled regulation after the others
pub opened-map : (taxi max now : ℕ) (plans : List PlanView) (r : Regulation) (lists new : List RegulationView) → IsOpened taxi max now plans r lists new → IsListed taxi max plans lists → IsSettled taxi now plans lists
    → map regulation_of new ≡ map (settled taxi now plans) (map regulation_of lists ++ r ∷ [])
opened-map taxi max now plans r lists new h listed settled_in =
    opened-regulations taxi max now plans r lists new h
    ∙ ap (λ (rs : List Regulation). rs ++ settled taxi now plans r ∷ []) (sym (already-settled taxi max now plans lists listed settled_in))
    ∙ map-last (settled taxi now plans) (map regulation_of lists) r
  where
    map-last : (f : Regulation → Regulation) (xs : List Regulation) (x : Regulation) → map f xs ++ f x ∷ [] ≡ map f (xs ++ x ∷ [])
    map-last f [] x = refl
    map-last f (y ∷ ys) x = ap (λ (rs : List Regulation). f y ∷ rs) (map-last f ys x)

-- ---- after the calls

-- after an accepted message
pub message-answers : (s : TrafficState) (store : PlanStoreView) (lists : List RegulationView) (told told1 told2 : List (Option Told)) (notices notices2 : List Notice) (m : Message) (n : ℕ) (v : Verdict) (departs : Bool)
    → store.taxi ≡ s.store.taxi → store.max_plans ≡ s.store.max_plans → s.listing.max_plans ≡ s.store.max_plans → departs ≡ is_departure m
    → plans_changed_by s.store.max_plans s.time s.store.plans m ≡ Ok (record { plans = store.plans; number = n }) → v ≡ verdict_on told m n
    → IsSettledFor departs n s store.plans lists → told1 ≡ told_to store.plans told
    → told2 ≡ told_from 1 store.taxi (map regulation_of lists) store.plans told1 → notices2 ≡ notices ++ notices_from 1 store.taxi (map regulation_of lists) store.plans told1
    → Answers (msg m) (traffic_of s told notices) (traffic_of (with_lists lists (record s { store = store })) told2 notices2) v
message-answers s store lists told told1 told2 notices notices2 m n v departs taxi max limit departs_is changed verdict settled_for place told_is notices_is =
    let t : Traffic = traffic_of s told notices in
    let a : Asked = record { plans = store.plans; now = s.time; regulations = departing (is_departure m) n s.store.taxi s.store.max_plans s.store.plans (map regulation_of s.listing.lists); verdict = verdict_on told m n } in
    accepted (msg m) t (traffic_of (with_lists lists (record s { store = store })) told2 notices2) v a (message-asked t m (record { plans = store.plans; number = n }) changed)
    (settled-traffic t a store.taxi store.max_plans (map regulation_of lists) told1 told2 notices2 taxi max (rw (limit, departs_is) at settled_for.regulations) place (rw taxi at told_is) (rw taxi at notices_is))
    verdict

-- after an accepted order
pub order-answers : (s : TrafficState) (at : ℕ) (lists : List RegulationView) (told told2 : List (Option Told)) (notices notices2 : List Notice) (order : Order) (kind : Kind) (regulations : List Regulation)
    → asked (traffic_of s told notices) (ord order) ≡ Ok (ordered (traffic_of s told notices) kind at regulations)
    → map regulation_of lists ≡ map (settled s.store.taxi at s.store.plans) regulations → length told ≡ length s.store.plans
    → told2 ≡ told_from 1 s.store.taxi (map regulation_of lists) s.store.plans told → notices2 ≡ notices ++ notices_from 1 s.store.taxi (map regulation_of lists) s.store.plans told
    → Answers (ord order) (traffic_of s told notices) (traffic_of (with_lists lists (record s { time = at })) told2 notices2) (Accepted kind 0)
order-answers s at lists told told2 notices notices2 order kind regulations e settled_is each told_is notices_is =
    let t : Traffic = traffic_of s told notices in
    let a : Asked = ordered t kind at regulations in
    accepted (ord order) t (traffic_of (with_lists lists (record s { time = at })) told2 notices2) (Accepted kind 0) a e
    (settled-traffic t a s.store.taxi s.store.max_plans (map regulation_of lists) told told2 notices2 refl refl settled_is (sym (told_to-same s.store.plans told each)) told_is notices_is)
    refl

length-map : {X Y : Type 0} (f : X → Y) (xs : List X) → length (map f xs) ≡ length xs
length-map f [] = refl
length-map f (x ∷ xs) = let h : length (map f xs) ≡ length xs = length-map f xs in omega (arith, h)

-- settling closes and opens no regulation
pub settled-count : (departs : Bool) (n : ℕ) (s : TrafficState) (plans : List PlanView) (new : List RegulationView) → IsSettledFor departs n s plans new → length new ≡ length s.listing.lists
settled-count departs n s plans new h =
    sym (count-regulations new) ∙ ap (λ (rs : List Regulation). length rs) h.regulations
    ∙ length-map (settled s.store.taxi s.time plans) (departing departs n s.store.taxi s.listing.max_plans s.store.plans (map regulation_of s.listing.lists)) ∙ same departs
    ∙ count-regulations s.listing.lists
  where
    same : (b : Bool) → length (departing b n s.store.taxi s.listing.max_plans s.store.plans (map regulation_of s.listing.lists)) ≡ length (map regulation_of s.listing.lists)
    same false = refl
    same true = length-map _ (map regulation_of s.listing.lists)

pub renewed-count : (taxi max now : ℕ) (plans : List PlanView) (lists new : List RegulationView) → AreRenewed taxi max now plans lists new → length new ≡ length lists
renewed-count taxi max now plans lists new h =
    sym (count-regulations new) ∙ ap (λ (rs : List Regulation). length rs) h.regulations
    ∙ length-map (settled taxi now plans) (map regulation_of lists) ∙ count-regulations lists

-- the period or a rate exceeds a limit
pub shape-refused : (t : Traffic) (m : OpenReg) (r : Refusal)
    → ((r ≡ refusal.BadPeriod) × (has_period m ≡ false)) ⊎ ((r ≡ refusal.BadRate) × (has_period m ≡ true) × (rates_fit m.rate m.more ≡ false))
    → asked t (ord (open_reg m)) ≡ Err r
shape-refused t m r (inl h) = rw h.0 (period-refused t m h.1)
shape-refused t m r (inr h) = rw h.0 (rate-refused t m h.1 h.2)

-- a fault of the plans
pub fault-answers : {E : Type 0} (t new : Traffic) (m : Message) (fault : PlanFault) (v : Result Verdict E) → new ≡ t
    → MatchOption (refusal_of fault) (IsErr v) (λ r. v ≡ Ok (Refused r)) → IsRefusal fault (plans_changed_by t.max_plans t.now t.plans m)
    → IfOk v (Answers (msg m) t new)
fault-answers {E} t new m fault v same h e = by (refusal_of fault) h e where
  refused-none : (v : Result Verdict E) → IsErr v → IfOk v (Answers (msg m) t new)
  refused-none (Ok x) e = absurd (cc)
  refused-none (Err x) e = tt

  by : (o : Option Refusal) → MatchOption o (IsErr v) (λ r. v ≡ Ok (Refused r)) → Refuses o (plans_changed_by t.max_plans t.now t.plans m) → IfOk v (Answers (msg m) t new)
  by None h e = refused-none v h
  by (Some r) h e = rw (h, same) (refused (msg m) t r (message-refused t m r e))

pub fault-ok : {E : Type 0} (t new : Traffic) (m : Message) (fault : PlanFault) (o : Result Verdict E) (v : Verdict) → new ≡ t → o ≡ Ok v
    → MatchOption (refusal_of fault) (IsErr o) (λ r. o ≡ Ok (Refused r)) → IsRefusal fault (plans_changed_by t.max_plans t.now t.plans m)
    → Answers (msg m) t new v
fault-ok {E} t new m fault o v same is h e = let P : Result Verdict E → Type 0 = λ w. IfOk w (Answers (msg m) t new) in subst P is (fault-answers t new m fault o same h e)

-- closing opens none
pub fewer-named : (id : List ℕ) (ls : List RegulationView) → length (without_named id ls) ≤ length ls
fewer-named id [] = omega arith
fewer-named id (l ∷ ls) = by (is_named id l) (fewer-named id ls) where
  by : (b : Bool) → length (without_named id ls) ≤ length ls → length (if not b then l ∷ without_named id ls else without_named id ls) ≤ length (l ∷ ls)
  by true h = omega (arith, h)
  by false h = omega (arith, h)
