-- In each state of a run the lineup of each open regulation is sound, so its waiting flights are
-- first served.
use Rattle.std.proofs.Common.{◌≡◌, ◌≢◌, ℕ, ◌+◌, ◌<◌, ◌≤◌, ◌||◌, Bool, true, false, cond, not, nat_le, if◌then◌else◌, List, [], ◌∷◌, ◌++◌, map, filter, length, Option, Some, None, IfSome, Result, Ok, Err, eqb, refl, sym, ap, subst, ◌∙◌, arith}
use Rattle.std.specs.List.{AllByRecursion, list_any}
use Rattle.std.specs.Option.{option_map}
use Rattle.std.specs.Str.{bytes_eq}
use Rattle.std.proofs.lemmas.Bool.{eqb-false}
use Rattle.std.proofs.lemmas.List.Elements.{filter-append}
use Rattle.fpl_message.specs.declared.refusal.Refusal.{Refusal}
use Rattle.fpl_message.specs.declared.refusal.Refusal.TheVariants as refusal
use Rattle.fpl_message.specs.declared.order.OpenReg.{OpenReg}
use Rattle.fpl_message.specs.Filings.{FilingView}
use Rattle.fpl_message.specs.Messages.{Message, open_reg, shut_reg, set_time}
use Rattle.fpl_message.specs.Reads.{ReadingView, msg, ord, bad, reading_of}
use Rattle.fpl_message.specs.Refusals.{◌>>=◌}
use Rattle.fpl_message.proofs.OrderYears.{open-within}
use Rattle.flow_plans.specs.Settings.{SetupView}
use Rattle.flow_plans.specs.Plans.{PlanView}
use Rattle.flow_plans.specs.Times.{unless}
use Rattle.flow_plans.specs.Changes.{Changed}
use Rattle.flow_slots.specs.declared.cell.Planned.{Planned}
use Rattle.flow_slots.specs.Period.{Period, IsRegular, slots_before_end}
use Rattle.flow_slots.specs.Assignment.{Placed}
use Rattle.flow_slots.specs.FirstServed.{IsFirstServed}
use Rattle.flow_slots.specs.Limits.{rates_fit}
use Rattle.flow_slots.specs.Lineup.{Lineup, BySlot, FixedApart, NoneFixed, NoneIs, assigned, held_slot, insert_fixed}
use Rattle.flow_slots.specs.LineupLaws.{IsSound, NoneTwice}
use Rattle.flow_slots.proofs.Limits.{regular}
use Rattle.flow_slots.proofs.Optimal.{first_served}
use Rattle.flow_slots.proofs.Served.{all-in, in-all, in-right, planned, in-slot_in}
use Rattle.flow_slots.proofs.Sound.{served, none_twice, held_within, held_number}
use Rattle.flow_slots.proofs.StaysSound.{BySlot-insert, FixedApart-insert, all-insert_fixed, sound-insert}
use Rattle.flow_regulations.specs.Regulations.{Regulation, subject_to, has_flight, with_entry, waiting_from, lineup_of}
use Rattle.flow_regulations.specs.Settling.{keeps_pair, kept_pairs, is_due_flight, insert_all, assigned_around, settled, pairs_of, frozen_at_departure}
use Rattle.flow_regulations.proofs.FixedOnes.{all-map}
use Rattle.flow_regulations.proofs.ForTheDesk.{all-last}
use Rattle.flow_regulations.proofs.Subjects.{subject-within}
use Rattle.flow_regulations.proofs.Waiting.{waiting-from}
use Rattle.flow_traffic.specs.declared.verdict.Kind.TheVariants as kind
use Rattle.flow_traffic.specs.declared.opening.TheConstants.{MAX_REGULATIONS}
use Rattle.flow_traffic.specs.Traffic.{Traffic, regulation_named, slots_of}
use Rattle.flow_traffic.specs.Opening.{has_period, regulation_by}
use Rattle.flow_traffic.specs.Asked.{Asked, asked, asked_by_message, asked_to_open, asked_to_shut, asked_at, plans_changed_by, departing, is_called, is_departure, ordered, verdict_on}
use Rattle.flow_traffic.specs.Answers.{settle}
use Rattle.flow_traffic.proofs.Changing.{ok-same, unless-ok}
use Rattle.flow_core.specs.State.{State, Input, fresh}
use Rattle.flow_core.specs.Steps.{answered, step, steps, run}
use Rattle.flow_core.proofs.Growing.{asked-grows}

-- ---- some of a list

pub all-filter : {X : Type 0} (P : X → Type 0) (test : X → Bool) (xs : List X) → AllByRecursion P xs → AllByRecursion (λ x. (test x ≡ true) × P x) (filter test xs)
all-filter P test [] all = tt
all-filter P test (x ∷ xs) all = by (test x) refl (all-filter P test xs all.1) where
  by : (b : Bool) → test x ≡ b → AllByRecursion (λ y. (test y ≡ true) × P y) (filter test xs) → AllByRecursion (λ y. (test y ≡ true) × P y) (cond b (x ∷ filter test xs) (filter test xs))
  by true e rest = ((e, all.0), rest)
  by false e rest = rest

all-left : {X : Type 0} (P : X → Type 0) (test : X → Bool) (xs : List X) → AllByRecursion P xs → AllByRecursion P (filter test xs)
all-left P test xs all = all-map (λ x. (test x ≡ true) × P x) P (filter test xs) (λ x h. h.1) (all-filter P test xs all)

slots-left : (test : Placed → Bool) (xs : List Placed) → BySlot xs → BySlot (filter test xs)
slots-left test [] h = tt
slots-left test (x ∷ xs) h = by (test x) (slots-left test xs h.1) where
  by : (b : Bool) → BySlot (filter test xs) → BySlot (cond b (x ∷ filter test xs) (filter test xs))
  by true rest = (all-left (λ y. x.slot < y.slot) test xs h.0, rest)
  by false rest = rest

apart-left : (test : Placed → Bool) (xs : List Placed) → FixedApart xs → FixedApart (filter test xs)
apart-left test [] h = tt
apart-left test (x ∷ xs) h = by (test x) (apart-left test xs h.1) where
  by : (b : Bool) → FixedApart (filter test xs) → FixedApart (cond b (x ∷ filter test xs) (filter test xs))
  by true rest = (all-left (λ y. y.flight ≡ x.flight → ⊥) test xs h.0, rest)
  by false rest = rest

twice-left : (test : Placed → Bool) (xs : List Placed) → NoneTwice xs → NoneTwice (filter test xs)
twice-left test [] h = tt
twice-left test (x ∷ xs) h = by (test x) (twice-left test xs h.1) where
  by : (b : Bool) → NoneTwice (filter test xs) → NoneTwice (cond b (x ∷ filter test xs) (filter test xs))
  by true rest = (all-left (λ y. (y.flight ≢ x.flight) × (y.slot ≢ x.slot)) test xs h.0, rest)
  by false rest = rest

-- ---- what a regulation keeps

-- pairs of a list of flights: by slot, and no flight twice
pub record AreKept (max : ℕ) (p : Period) (fs : List Placed) : Type 0 where
  pub by_slot : BySlot fs
  pub apart : FixedApart fs
  pub numbers : AllByRecursion (λ a. (0 < a.flight) × (a.flight ≤ max)) fs
  pub slots : AllByRecursion (λ a. a.slot < slots_before_end p + max) fs

pub record IsFit (max : ℕ) (r : Regulation) : Type 0 where
  pub regular : IsRegular r.period
  pub kept : AreKept max r.period r.fixed

kept-left : (max : ℕ) (p : Period) (test : Placed → Bool) (fs : List Placed) → AreKept max p fs → AreKept max p (filter test fs)
kept-left max p test fs k =
    record {
      by_slot = slots-left test fs k.by_slot;
      apart = apart-left test fs k.apart;
      numbers = all-left (λ a. (0 < a.flight) × (a.flight ≤ max)) test fs k.numbers;
      slots = all-left (λ a. a.slot < slots_before_end p + max) test fs k.slots;
    }

-- ---- around it others wait

abbrev around : ℕ → Regulation → List Placed → List Planned → Lineup
around max r fs ws = record { period = r.period; capacity = max; waiting = ws; fixed = fs }

none-kept : (f : ℕ) (fs : List Placed) → has_flight f fs ≡ false → NoneFixed f fs
none-kept f [] e = tt
none-kept f (x ∷ xs) e = by (none-kept f xs) (eqb x.flight f) refl e where
  by : (has_flight f xs ≡ false → NoneFixed f xs) → (b : Bool) → eqb x.flight f ≡ b → (b || has_flight f xs) ≡ false → NoneFixed f (x ∷ xs)
  by rest true q h = absurd (cc)
  by rest false q h = (eqb-false x.flight f q, rest h)

waiting-sound : (max taxi k : ℕ) (r : Regulation) (fs : List Placed) (ps : List PlanView) → 0 < k → k + length ps ≤ max + 1 → IsRegular r.period → AreKept max r.period fs → IsSound (around max r fs (waiting_from k taxi r fs ps))
waiting-sound max taxi k r fs [] some few regular kept =
    record {
      lined = record { in_order = tt; by_slot = kept.by_slot; fixed_apart = kept.apart; waiting_apart = tt };
      regular = regular;
      entries = tt;
      waiting_numbers = tt;
      fixed_numbers = kept.numbers;
      fixed_slots = kept.slots;
    }
waiting-sound max taxi k r fs (p ∷ ps) some few regular kept =
    by (subject_to taxi r p) (has_flight k fs) refl refl (waiting-sound max taxi (k + 1) r fs ps (omega arith) (omega arith) regular kept)
  where
    rest : List Planned
    rest = waiting_from (k + 1) taxi r fs ps

    later : NoneIs k rest
    later = all-map (λ w. k + 1 ≤ w.flight) (λ w. w.flight ≡ k → ⊥) rest (λ w h q. omega arith) (waiting-from (k + 1) (k + 1) taxi r fs ps (omega arith))

    by : (o : Option ℕ) (b : Bool) → subject_to taxi r p ≡ o → has_flight k fs ≡ b → IsSound (around max r fs rest) → IsSound (around max r fs (with_entry o b k rest))
    by None b e q s = s
    by (Some entry) true e q s = s
    by (Some entry) false e q s =
        sound-insert (around max r fs rest) (planned entry k) s later (none-kept k fs q) (some, omega arith) (subject-within taxi r.spot r.period.start r.period.end entry p e)

fit-sound : (max taxi : ℕ) (plans : List PlanView) (r : Regulation) → length plans ≤ max → IsFit max r → IsSound (lineup_of taxi max plans r)
fit-sound max taxi plans r few fit = waiting-sound max taxi 1 r r.fixed plans (omega arith) (omega arith) fit.regular fit.kept

-- ---- more pairs are kept

abbrev Apart : Placed → Placed → Type 0
Apart a b = (b.flight ≢ a.flight) × (b.slot ≢ a.slot)

turned : (a b : Placed) → Apart a b → Apart b a
turned a b h = ((λ e. h.0 (sym e)), (λ e. h.1 (sym e)))

-- pairs that may be kept beside those that are
pub record MayKeep (max : ℕ) (p : Period) (fs gs : List Placed) : Type 0 where
  pub pairs : AllByRecursion (λ a. (0 < a.flight) × (a.flight ≤ max) × (a.slot < slots_before_end p + max)) gs
  pub none_twice : NoneTwice gs
  pub beside : AllByRecursion (λ a. AllByRecursion (Apart a) fs) gs

may-left : (max : ℕ) (p : Period) (fs : List Placed) (test : Placed → Bool) (gs : List Placed) → MayKeep max p fs gs → MayKeep max p fs (filter test gs)
may-left max p fs test gs may =
    record {
      pairs = all-left (λ a. (0 < a.flight) × (a.flight ≤ max) × (a.slot < slots_before_end p + max)) test gs may.pairs;
      none_twice = twice-left test gs may.none_twice;
      beside = all-left (λ a. AllByRecursion (Apart a) fs) test gs may.beside;
    }

keep-all : (max : ℕ) (p : Period) (gs fs : List Placed) → AreKept max p fs → MayKeep max p fs gs → AreKept max p (insert_all gs fs)
keep-all max p [] fs kept may = kept
keep-all max p (g ∷ gs) fs kept may =
    keep-all max p gs (insert_fixed g fs)
    (record {
      by_slot = BySlot-insert g fs (all-map (Apart g) (λ b. b.slot ≢ g.slot) fs (λ b h. h.1) may.beside.0) kept.by_slot;
      apart = FixedApart-insert g fs (all-map (Apart g) (λ b. b.flight ≡ g.flight → ⊥) fs (λ b h. h.0) may.beside.0) kept.apart;
      numbers = all-insert_fixed (λ a. (0 < a.flight) × (a.flight ≤ max)) g fs (may.pairs.0.0, may.pairs.0.1) kept.numbers;
      slots = all-insert_fixed (λ a. a.slot < slots_before_end p + max) g fs may.pairs.0.2 kept.slots;
    })
    (record {
      pairs = may.pairs.1;
      none_twice = may.none_twice.1;
      beside = in-all (λ a. AllByRecursion (Apart a) (insert_fixed g fs)) gs
          (λ a i. all-insert_fixed (Apart a) g fs (turned g a (all-in (Apart g) gs a may.none_twice.0 i)) (all-in (λ b. AllByRecursion (Apart b) fs) gs a may.beside.1 i));
    })

-- the slots of those that wait may be
beside : (fs gs : List Placed) → NoneTwice (fs ++ gs) → NoneTwice gs × AllByRecursion (λ a. AllByRecursion (Apart a) fs) gs
beside [] gs n = (n, in-all (λ a. AllByRecursion (Apart a) []) gs (λ a i. tt))
beside (f ∷ fs) gs n =
    let others = beside fs gs n.1 in (
      others.0,
      in-all (λ a. AllByRecursion (Apart a) (f ∷ fs)) gs
          (λ a i. (turned f a (all-in (Apart f) (fs ++ gs) a n.0 (in-right a fs gs i)), all-in (λ b. AllByRecursion (Apart b) fs) gs a others.1 i)),
    )

served-may : (l : Lineup) → IsSound l → MayKeep l.capacity l.period l.fixed (served l)
served-may l s =
    let n = none_twice l s.lined in
    let parts = beside l.fixed (served l) n in
    record {
      pairs = in-all (λ a. (0 < a.flight) × (a.flight ≤ l.capacity) × (a.slot < slots_before_end l.period + l.capacity)) (served l)
          (λ a i. (let held : held_slot l a.flight ≡ Some a.slot = in-slot_in a (assigned l) n (in-right a l.fixed (served l) i) in
          let number = held_number l a.flight a.slot s held in
          (number.0, number.1, held_within l a.flight a.slot s held)));
      none_twice = parts.0;
      beside = parts.1;
    }

-- ---- a regulation is settled

settled-fit : (max taxi now : ℕ) (plans : List PlanView) (r : Regulation) → length plans ≤ max → IsFit max r → IsFit max (settled taxi now plans r)
unfolding settled
settled-fit max taxi now plans r few fit =
    let fixed = kept_pairs taxi now plans r in
    let left = kept-left max r.period (keeps_pair taxi now plans r) r.fixed fit.kept in
    let l = around max r fixed (waiting_from 1 taxi r fixed plans) in
    let sound = waiting-sound max taxi 1 r fixed plans (omega arith) (omega arith) fit.regular left in
    record {
      regular = fit.regular;
      kept = keep-all max r.period (filter (λ (a : Placed). is_due_flight now plans a.flight) (assigned_around taxi plans r fixed)) fixed left (may-left max r.period fixed (λ (a : Placed). is_due_flight now plans a.flight) (served l) (served-may l sound));
    }

all-settled-fit : (max taxi now : ℕ) (plans : List PlanView) (rs : List Regulation) → length plans ≤ max → AllByRecursion (IsFit max) rs → AllByRecursion (IsFit max) (map (settled taxi now plans) rs)
all-settled-fit max taxi now plans [] few all = tt
all-settled-fit max taxi now plans (r ∷ rs) few all = (settled-fit max taxi now plans r few all.0, all-settled-fit max taxi now plans rs few all.1)

-- a departing flight keeps its slot
no-pairs : (n : ℕ) (fs : List Placed) → has_flight n fs ≡ false → pairs_of n fs ≡ []
no-pairs n [] e = refl
no-pairs n (x ∷ xs) e = by (no-pairs n xs) (eqb x.flight n) e where
  by : (has_flight n xs ≡ false → pairs_of n xs ≡ []) → (b : Bool) → (b || has_flight n xs) ≡ false → cond b (x ∷ pairs_of n xs) (pairs_of n xs) ≡ []
  by rest true h = absurd (cc)
  by rest false h = rest h

departing-fit : (taxi max n : ℕ) (before : List PlanView) (r : Regulation) → length before ≤ max → IsFit max r → IsFit max (frozen_at_departure taxi max before n r)
unfolding frozen_at_departure
departing-fit taxi max n before r few fit = by (has_flight n r.fixed) refl where
  l : Lineup
  l = lineup_of taxi max before r

  pairs : has_flight n r.fixed ≡ false → pairs_of n (assigned l) ≡ pairs_of n (served l)
  pairs none = filter-append (λ a. eqb a.flight n) r.fixed (served l) ∙ ap (λ xs. xs ++ pairs_of n (served l)) (no-pairs n r.fixed none)

  by : (b : Bool) → has_flight n r.fixed ≡ b → IsFit max (if b then r else record r { fixed = insert_all (pairs_of n (assigned l)) r.fixed })
  by true e = fit
  by false e =
      record {
        regular = fit.regular;
        kept = keep-all max r.period (pairs_of n (assigned l)) r.fixed fit.kept
            (subst (λ gs. MayKeep max r.period r.fixed gs) (sym (pairs e)) (may-left max r.period r.fixed (λ a. eqb a.flight n) (served l) (served-may l (fit-sound max taxi before r few fit))));
      }

all-departing-fit : (departs : Bool) (n taxi max : ℕ) (before : List PlanView) (rs : List Regulation) → length before ≤ max → AllByRecursion (IsFit max) rs → AllByRecursion (IsFit max) (departing departs n taxi max before rs)
all-departing-fit false n taxi max before rs few all = all
all-departing-fit true n taxi max before [] few all = tt
all-departing-fit true n taxi max before (r ∷ rs) few all = (departing-fit taxi max n before r few all.0, all-departing-fit true n taxi max before rs few all.1)

-- ---- what is asked for

-- all regulations of the traffic are fit, and it has few enough plans
pub record Fits (t : Traffic) : Type 0 where
  pub few : length t.plans ≤ t.max_plans
  pub regulations : AllByRecursion (IsFit t.max_plans) t.regulations

abbrev AreFit : ℕ → Asked → Type 0
AreFit max x = AllByRecursion (IsFit max) x.regulations

unless-not : {X : Type 0} (b : Bool) (r : Refusal) (next : Result X Refusal) (x : X) → unless (not b) r next ≡ Ok x → b ≡ true
unless-not true r next x e = refl
unless-not false r next x e = absurd (cc)

opened-fit : (max : ℕ) (text : FilingView) (m : OpenReg) → reading_of text ≡ ord (open_reg m) → has_period m ≡ true → rates_fit m.rate m.more ≡ true → IsFit max (regulation_by m)
unfolding has_period
opened-fit max text m e a b =
    let years = open-within text m e in
    record {
      regular = regular (regulation_by m).period years.from.0 years.to.1 years.few a b;
      kept = record { by_slot = tt; apart = tt; numbers = tt; slots = tt };
    }

message-fit : (t : Traffic) (m : Message) (x : Asked) → Fits t → asked_by_message t m ≡ Ok x → AreFit t.max_plans x
unfolding asked_by_message
message-fit t m x fits e = by (plans_changed_by t.max_plans t.now t.plans m) e where
  made : Changed → Asked
  made c = record { plans = c.plans; now = t.now; regulations = departing (is_departure m) c.number t.taxi t.max_plans t.plans t.regulations; verdict = verdict_on t.told m c.number }

  by : (r : Result Changed Refusal) → (r >>= (λ changed. Ok (made changed))) ≡ Ok x → AreFit t.max_plans x
  by (Err r) e = absurd (cc)
  by (Ok c) e = subst (AreFit t.max_plans) (ok-same (made c) x e) (all-departing-fit (is_departure m) c.number t.taxi t.max_plans t.plans t.regulations fits.few fits.regulations)

open-fit : (t : Traffic) (text : FilingView) (m : OpenReg) (x : Asked) → reading_of text ≡ ord (open_reg m) → Fits t → asked_to_open t m ≡ Ok x → AreFit t.max_plans x
unfolding asked_to_open
open-fit t text m x is fits e =
    let b = unless-ok (not (has_period m)) refusal.BadPeriod _ x e in
    let c = unless-ok (not (rates_fit m.rate m.more)) refusal.BadRate _ x b in
    let d = unless-ok (list_any (is_called m.id) t.regulations) refusal.RegulationHeld _ x c in
    let f = unless-ok (nat_le MAX_REGULATIONS (length t.regulations)) refusal.RegulationsFull _ x d in
    let new = opened-fit t.max_plans text m is (unless-not (has_period m) refusal.BadPeriod _ x e) (unless-not (rates_fit m.rate m.more) refusal.BadRate _ x b) in
    subst (AreFit t.max_plans) (ok-same (ordered t kind.Open t.now (t.regulations ++ regulation_by m ∷ [])) x f) (all-last (IsFit t.max_plans) t.regulations (regulation_by m) fits.regulations new)

shut-fit : (t : Traffic) (id : List ℕ) (x : Asked) → Fits t → asked_to_shut t id ≡ Ok x → AreFit t.max_plans x
unfolding asked_to_shut
shut-fit t id x fits e =
    let f = unless-ok (not (list_any (is_called id) t.regulations)) refusal.NoRegulation _ x e in
    subst (AreFit t.max_plans) (ok-same (ordered t kind.Shut t.now (filter (λ r. not (is_called id r)) t.regulations)) x f) (all-left (IsFit t.max_plans) (λ r. not (is_called id r)) t.regulations fits.regulations)

time-fit : (t : Traffic) (at : ℕ) (x : Asked) → Fits t → asked_at t at ≡ Ok x → AreFit t.max_plans x
unfolding asked_at
time-fit t at x fits e =
    subst (AreFit t.max_plans) (ok-same (ordered t kind.Time at t.regulations) x (unless-ok _ refusal.TimeBack _ x e)) fits.regulations

pub asked-fit : (t : Traffic) (text : FilingView) (x : Asked) → Fits t → asked t (reading_of text) ≡ Ok x → AllByRecursion (IsFit t.max_plans) x.regulations
asked-fit t text x fits e = by (reading_of text) refl e where
  by : (r : ReadingView) → reading_of text ≡ r → asked t r ≡ Ok x → AreFit t.max_plans x
  by (msg m) is e = message-fit t m x fits e
  by (ord (open_reg m)) is e = open-fit t text m x is fits e
  by (ord (shut_reg id)) is e = shut-fit t id x fits e
  by (ord (set_time at)) is e = time-fit t at x fits e
  by (bad refusal) is e = absurd (cc)

-- ---- a run

settle-fits : (t : Traffic) (a : Asked) → length a.plans ≤ t.max_plans → AllByRecursion (IsFit t.max_plans) a.regulations → Fits (settle t a)
unfolding settle
settle-fits t a few all = record { few = few; regulations = all-settled-fit t.max_plans t.taxi a.now a.plans a.regulations few all }

pub step-fits : (s : State) (input : Input) → Fits s.traffic → Fits (step s input).traffic
unfolding step
step-fits s input fits = by (asked s.traffic (reading_of input.text)) refl where
  by : (r : Result Asked Refusal) → asked s.traffic (reading_of input.text) ≡ r → Fits (answered s input r).traffic
  by (Err refusal) e = fits
  by (Ok a) e = settle-fits s.traffic a ((asked-grows s.traffic (reading_of input.text) a e).1 fits.few) (asked-fit s.traffic input.text a fits e)

steps-fit : (s : State) (inputs : List Input) → Fits s.traffic → Fits (steps s inputs).traffic
unfolding steps
steps-fit s [] fits = fits
steps-fit s (i ∷ is) fits = steps-fit (step s i) is (step-fits s i fits)

pub fresh-fits : (setup : SetupView) → Fits (fresh setup).traffic
fresh-fits setup = record { few = omega arith; regulations = tt }

run-fits : (setup : SetupView) (filed : List Input) → Fits (run setup filed).traffic
unfolding run
run-fits setup filed = steps-fit (fresh setup) filed (fresh-fits setup)

-- the regulation of a name is one of all
named-fit : (P : Regulation → Type 0) (id : List ℕ) (rs : List Regulation) → AllByRecursion P rs → IfSome (regulation_named id rs) P
named-fit P id [] all = tt
named-fit P id (r ∷ rs) all = by (named-fit P id rs all.1) (bytes_eq r.id id) where
  by : IfSome (regulation_named id rs) P → (b : Bool) → IfSome (if b then Some r else regulation_named id rs) P
  by rest true = all.0
  by rest false = rest

pub slots-sound : (setup : SetupView) (filed : List Input) (id : List ℕ) → IfSome (slots_of (run setup filed).traffic id) IsSound
slots-sound setup filed id =
    let t = (run setup filed).traffic in
    let fits = run-fits setup filed in
    by (regulation_named id t.regulations) (named-fit (IsFit t.max_plans) id t.regulations fits.regulations)
  where
    by : (o : Option Regulation) → IfSome o (IsFit (run setup filed).traffic.max_plans) → IfSome (option_map (lineup_of (run setup filed).traffic.taxi (run setup filed).traffic.max_plans (run setup filed).traffic.plans) o) IsSound
    by None h = tt
    by (Some r) h = fit-sound (run setup filed).traffic.max_plans (run setup filed).traffic.taxi (run setup filed).traffic.plans r (run-fits setup filed).few h

pub slots-served : (setup : SetupView) (filed : List Input) (id : List ℕ) → IfSome (slots_of (run setup filed).traffic id) IsFirstServed
slots-served setup filed id = by (slots_of (run setup filed).traffic id) (slots-sound setup filed id) where
  by : (o : Option Lineup) → IfSome o IsSound → IfSome o IsFirstServed
  by None h = tt
  by (Some l) h = first_served l h.regular h.entries
