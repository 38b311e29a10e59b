-- Time advances: the flights that become due are frozen in their provisional slots, one after the
-- other.
use Rattle.std.proofs.Common.{◌≡◌, ℕ, ◌+◌, ◌<◌, ◌≤◌, ◌⊎◌, inl, inr, Bool, true, false, ◌||◌, ◌&&◌, cond, eqb, leb, ltb, List, [], ◌∷◌, ◌++◌, length, map, take, get_or, Option, Some, None, refl, sym, ap, subst, ◌∙◌, arith}
use Rattle.std.specs.List.{AllByRecursion}
use Rattle.std.specs.Option.{option_map_or, is_some, IsSome}
use mathlib.Core.Logic.{⊎_elim}
use Rattle.std.proofs.lemmas.Bool.{and_parts, and_from, leb-true, le-leb, lt-ltb, ltb-true, ltb-false, eqb-true, eqb-false, or_parts, true≢false}
use Rattle.std.proofs.lemmas.Bool.Decides.{nat_tests}
use Rattle.std.proofs.lemmas.List.{take_more}
use Rattle.flow_regulations.proofs.Others.{pairs-waiting}
use Rattle.flow_plans.specs.Plans.{PlanView, plan_at, is_filed, is_departed}
use Rattle.flow_slots.specs.declared.cell.Planned.{Planned}
use Rattle.flow_slots.specs.Assignment.{Placed, is_in}
use Rattle.flow_slots.specs.Lineup.{Lineup, NoneIs, held_slot, fixed_slot}
use Rattle.flow_slots.specs.ChangeList.{fixed_there}
use Rattle.flow_regulations.specs.Regulations.{Regulation, subject_to, has_flight, waiting_from}
use Rattle.flow_regulations.specs.Settling.{is_due, keeps, keeps_pair, settled, pairs_of, is_due_flight}
use Rattle.flow_regulations.specs.Listing.{RegulationView, regulation_of, IsListedIn, IsListed, IsSettledIn, IsSettled, with_lineup, Walked, IsFixedWaiting, AreRenewed, HaveCapacity, AllStay, NoneDue, IsAdvanced, IsAdvancing, is_below, is_among, fixed_waiting, all_fixed_waiting, with_fixed_waiting, HoldNewlyDue, pairs_in}
use Rattle.flow_regulations.specs.Marks.{IsOut}
use Rattle.flow_regulations.proofs.Waiting.{all-with_entry, all-with_entry-back, waiting-from}
use Rattle.flow_regulations.proofs.FixedOnes.{all-map, all-both}
use Rattle.flow_regulations.proofs.Fixes.{lined, others, own, more, none, waiting-is, DoesNot, Does, either, is, listed-more, settled-is, settled-done, stay-more, same-fixed}
use Rattle.flow_regulations.proofs.Walks.{walked-all, walked-map, map-map, walked-start, walked-then, walked-is}
use Rattle.flow_regulations.proofs.Looked.{plan-there}
use Rattle.flow_slots.specs.Period.{slot_time}

-- of no flight yet
pub advancing-start : (done : ℕ → Bool) (taxi now : ℕ) (plans : List PlanView) (l : RegulationView) → ((f : ℕ) → 0 < f → done f ≡ false) → IsAdvancing done taxi now plans l l
advancing-start done taxi now plans l none = record {
  capacity = refl;
  advanced = λ max listed stay. record {
    regulation = refl;
    listed = listed;
    stay = stay;
    waiting =
        let Q : List Planned → Type 0 = λ ws. AllByRecursion (λ w. 1 ≤ w.flight) ws in
        all-map (λ w. 1 ≤ w.flight) (λ w. done w.flight ≡ true → is_due_flight now plans w.flight ≡ false) l.lineup.waiting (λ w h q. absurd (true≢false (sym q ∙ none w.flight (omega (arith, h))))) (subst Q (sym (ap (λ v. v.waiting) listed)) (waiting-from 1 1 taxi (regulation_of l) l.lineup.fixed plans (omega arith)));
    undue = λ earlier h. h;
  };
}

-- of any flights, if none with a provisional slot is due
pub advancing-none : (done : ℕ → Bool) (taxi now : ℕ) (plans : List PlanView) (l : RegulationView) → NoneDue now plans l → IsAdvancing done taxi now plans l l
advancing-none done taxi now plans l none = record {
  capacity = refl;
  advanced = λ max listed stay. record {
    regulation = refl;
    listed = listed;
    stay = stay;
    waiting = all-map (λ w. is_due_flight now plans w.flight ≡ false) (λ w. done w.flight ≡ true → is_due_flight now plans w.flight ≡ false) l.lineup.waiting (λ w h q. h) none;
    undue = λ earlier h. h;
  };
}

-- one more flight
abbrev pub OneMore : ℕ → (ℕ → Bool) → (ℕ → Bool) → Type 0
OneMore n done more = (f : ℕ) → more f ≡ (done f || eqb n f)

one-more : (n f : ℕ) (done more : ℕ → Bool) → OneMore n done more → more f ≡ true → (done f ≡ true) ⊎ (n ≡ f)
one-more n f done after e h = cases (done f) refl where
  cases : (b : Bool) → done f ≡ b → (done f ≡ true) ⊎ (n ≡ f)
  cases true q = inl q
  cases false q = inr (eqb-true n f (sym (ap (λ b. b || eqb n f) q) ∙ (sym (e f) ∙ h)))

pub below-more : (n : ℕ) → OneMore n (is_below n) (is_below (n + 1))
below-more n f = grind (arith, nat_tests)

pub advancing-past : (n : ℕ) (done more : ℕ → Bool) (taxi now : ℕ) (plans : List PlanView) (l m : RegulationView) → OneMore n done more → is_due_flight now plans n ≡ false → IsAdvancing done taxi now plans l m → IsAdvancing more taxi now plans l m
advancing-past n done more taxi now plans l m o e a = record {
  capacity = a.capacity;
  advanced = λ max listed stay.
      (let b = a.advanced max listed stay in
      record {
        regulation = b.regulation;
        listed = b.listed;
        stay = b.stay;
        waiting = all-map (λ w. done w.flight ≡ true → is_due_flight now plans w.flight ≡ false) (λ w. more w.flight ≡ true → is_due_flight now plans w.flight ≡ false) m.lineup.waiting
            (λ w h q. ⊎_elim (λ s. h s) (λ s. ap (is_due_flight now plans) (sym s) ∙ e) (one-more n w.flight done more o q)) b.waiting;
        undue = b.undue;
      });
}

-- flights that aren't held are passed over
none-between : (n k : ℕ) (D : ℕ → Type 0) (ws : List Planned) → ((f : ℕ) → n ≤ f → f < k → NoneIs f ws) → AllByRecursion (λ w. is_below n w.flight ≡ true → D w.flight) ws → AllByRecursion (λ w. is_below k w.flight ≡ true → D w.flight) ws
none-between n k D [] out h = tt
none-between n k D (w ∷ ws) out h = (λ q. cases (ltb-true w.flight k q) (ltb w.flight n) refl, none-between n k D ws (λ f a b. (out f a b).1) h.1) where
  cases : w.flight < k → (b : Bool) → ltb w.flight n ≡ b → D w.flight
  cases below true q = h.0 q
  cases below false q = absurd ((out w.flight (ltb-false w.flight n q) below).0 refl)

pub advancing-out : (n k taxi now : ℕ) (plans : List PlanView) (l m : RegulationView) → ((f : ℕ) → n ≤ f → f < k → IsOut f m) → IsAdvancing (is_below n) taxi now plans l m → IsAdvancing (is_below k) taxi now plans l m
advancing-out n k taxi now plans l m out a = record {
  capacity = a.capacity;
  advanced = λ max listed stay.
      (let b = a.advanced max listed stay in
      record {
        regulation = b.regulation;
        listed = b.listed;
        stay = b.stay;
        waiting = none-between n k (λ f. is_due_flight now plans f ≡ false) m.lineup.waiting (λ f low high. (out f low high).1) b.waiting;
        undue = b.undue;
      });
}

-- and fewer are asked of
pub advancing-fewer : (n k taxi now : ℕ) (plans : List PlanView) (l m : RegulationView) → k ≤ n → IsAdvancing (is_below n) taxi now plans l m → IsAdvancing (is_below k) taxi now plans l m
advancing-fewer n k taxi now plans l m le a = advancing-out n k taxi now plans l m (λ f low high. absurd (omega (arith, le, low, high))) a

module _ (n : ℕ) (done more_done : ℕ → Bool) (o : OneMore n done more_done) (taxi max now : ℕ) (plans : List PlanView) (l m : RegulationView) (positive : 0 < n) (due : is_due_flight now plans n ≡ true) (b : IsAdvanced done taxi max now plans l m) where
  -- none of the other flights with provisional slots up to this one is due
  rest-waits : AllByRecursion (λ w. more_done w.flight ≡ true → is_due_flight now plans w.flight ≡ false) (others taxi max n plans m b.listed positive)
  rest-waits =
      let P : Planned → Type 0 = λ w. done w.flight ≡ true → is_due_flight now plans w.flight ≡ false in
      let Q : List Planned → Type 0 = λ ws. AllByRecursion P ws in
      let ws = others taxi max n plans m b.listed positive in
      let all : AllByRecursion P ws = all-with_entry-back P (own taxi max n plans m b.listed positive) (has_flight n m.lineup.fixed) n ws (subst Q (waiting-is taxi max n plans m b.listed positive) b.waiting) in
      all-map (λ w. P w × (w.flight ≡ n → ⊥)) (λ w. more_done w.flight ≡ true → is_due_flight now plans w.flight ≡ false) ws (λ w h q. ⊎_elim h.0 (λ s. absurd (h.1 (sym s))) (one-more n w.flight done more_done o q)) (all-both P (λ w. w.flight ≡ n → ⊥) ws all (none taxi max n plans m b.listed positive))

  -- nor were they
  rest-undue : (earlier : ℕ) → NoneDue earlier plans m → AllByRecursion (λ w. is_due_flight earlier plans w.flight ≡ false) (others taxi max n plans m b.listed positive)
  rest-undue earlier h =
      let Q : List Planned → Type 0 = λ ws. AllByRecursion (λ w. is_due_flight earlier plans w.flight ≡ false) ws in
      let ws = others taxi max n plans m b.listed positive in
      all-with_entry-back (λ w. is_due_flight earlier plans w.flight ≡ false) (own taxi max n plans m b.listed positive) (has_flight n m.lineup.fixed) n ws (subst Q (waiting-is taxi max n plans m b.listed positive) h)

  advanced-by : (x : RegulationView) → IsFixedWaiting n m x → IsAdvanced more_done taxi max now plans l x
  advanced-by x f = ⊎_elim not does (either taxi max n plans m b.listed positive) where
    not : DoesNot taxi max n plans m b.listed positive → IsAdvanced more_done taxi max now plans l x
    not d =
        let A : RegulationView → Type 0 = IsAdvanced more_done taxi max now plans l in
        let same : x ≡ m = f.same ∙ ap (λ v. with_lineup v m) d.same in
        let Q : List Planned → Type 0 = λ ws. AllByRecursion (λ w. more_done w.flight ≡ true → is_due_flight now plans w.flight ≡ false) ws in
        subst A (sym same) (record { regulation = b.regulation; listed = b.listed; stay = b.stay; waiting = subst Q (sym d.waiting) rest-waits; undue = b.undue })

    does : (e : ℕ) × (k : ℕ) × Does taxi max n plans m b.listed positive e k → IsAdvanced more_done taxi max now plans l x
    does (e, k, d) =
        let A : RegulationView → Type 0 = IsAdvanced more_done taxi max now plans l in
        let gs = more taxi max n plans m b.listed positive e k d in
        let ws = others taxi max n plans m b.listed positive in
        let y : RegulationView = with_lineup (lined m.lineup ws gs) m in
        let same : x ≡ y = f.same ∙ ap (λ v. with_lineup v m) (is taxi max n plans m b.listed positive e k d) in
        let list = listed-more taxi max n plans m b.listed positive e k d in
        let held : IsSome (held_slot m.lineup n) = ap is_some d.held in
        let stays_on = stay-more taxi max n plans m b.listed positive now b.stay e k d due (f.lined held) (f.regular held) in
        let fixes = same-fixed taxi max n plans m b.listed positive now b.stay e k d due (f.lined held) (f.regular held) in
        subst A (sym same) (record {
          regulation =
              settled-is taxi max n plans y list positive now stays_on
              ∙ (ap (λ v. let q : Regulation = record { id = m.id; spot = m.spot; period = m.lineup.period; fixed = v } in q) fixes
              ∙ (sym (settled-is taxi max n plans m b.listed positive now b.stay) ∙ b.regulation));
          listed = list;
          stay = stays_on;
          waiting = rest-waits;
          undue = λ earlier h. rest-undue earlier (b.undue earlier h);
        })

pub advancing-step : (n : ℕ) (done more : ℕ → Bool) (taxi now : ℕ) (plans : List PlanView) (l m x : RegulationView) → OneMore n done more → 0 < n → is_due_flight now plans n ≡ true → IsAdvancing done taxi now plans l m → IsFixedWaiting n m x → IsAdvancing more taxi now plans l x
advancing-step n done more taxi now plans l m x o positive due a f = record {
  capacity = f.capacity ∙ a.capacity;
  advanced = λ max listed stay. advanced-by n done more o taxi max now plans l m positive due (a.advanced max listed stay) x f;
}

pub below : (k taxi : ℕ) (r : Regulation) (fs : List Placed) (ps : List PlanView) (m : ℕ) → k + length ps ≤ m → AllByRecursion (λ w. w.flight < m) (waiting_from k taxi r fs ps)
below k taxi r fs [] m h = tt
below k taxi r fs (p ∷ ps) m h =
    all-with_entry (λ w. w.flight < m) (subject_to taxi r p) (has_flight k fs) k (waiting_from (k + 1) taxi r fs ps) (λ _ _ _. omega (arith, h)) (below (k + 1) taxi r fs ps m (omega (arith, h)))

-- past the last due flight, all is settled
module _ (done : ℕ → Bool) (taxi max now : ℕ) (plans : List PlanView) (l m : RegulationView) (b : IsAdvanced done taxi max now plans l m) (none-due : AllByRecursion (λ w. is_due_flight now plans w.flight ≡ false) m.lineup.waiting) where
  pub advanced-settled : regulation_of m ≡ settled taxi now plans (regulation_of l)
  advanced-settled = sym (settled-done taxi max 1 plans m b.listed (omega arith) now b.stay none-due) ∙ b.regulation

  pub advanced-settled_in : IsSettledIn taxi now plans m
  advanced-settled_in = record { fixed = b.stay; waiting = none-due }

-- past the last plan
pub none-due-below : (n taxi max now : ℕ) (plans : List PlanView) (l m : RegulationView) → IsAdvanced (is_below n) taxi max now plans l m → 1 + length plans ≤ n → AllByRecursion (λ w. is_due_flight now plans w.flight ≡ false) m.lineup.waiting
none-due-below n taxi max now plans l m b all =
    let Q : List Planned → Type 0 = λ ws. AllByRecursion (λ w. w.flight < n) ws in
    all-map (λ w. (is_below n w.flight ≡ true → is_due_flight now plans w.flight ≡ false) × (w.flight < n)) (λ w. is_due_flight now plans w.flight ≡ false) m.lineup.waiting (λ w h. h.0 (lt-ltb w.flight n h.1))
    (all-both (λ w. is_below n w.flight ≡ true → is_due_flight now plans w.flight ≡ false) (λ w. w.flight < n) m.lineup.waiting b.waiting (subst Q (sym (ap (λ v. v.waiting) b.listed)) (below 1 taxi (regulation_of m) m.lineup.fixed plans n all)))

-- a flight's provisional slot is frozen if it is due
pub advancing-due : (n : ℕ) (done more : ℕ → Bool) (taxi now : ℕ) (plans : List PlanView) (l m x : RegulationView) → OneMore n done more → 0 < n → IsAdvancing done taxi now plans l m
    → (is_due_flight now plans n ≡ true → IsFixedWaiting n m x) → (is_due_flight now plans n ≡ false → x ≡ m) → IsAdvancing more taxi now plans l x
advancing-due n done more taxi now plans l m x o positive a f same = cases (is_due_flight now plans n) refl where
  cases : (b : Bool) → is_due_flight now plans n ≡ b → IsAdvancing more taxi now plans l x
  cases true q = advancing-step n done more taxi now plans l m x o positive q a (f q)
  cases false q =
      let A : RegulationView → Type 0 = λ v. IsAdvancing more taxi now plans l v in
      subst A (sym (same q)) (advancing-past n done more taxi now plans l m o q a)

pub due-is : (now n : ℕ) (plans : List PlanView) (b : Bool) → 0 < n → n ≤ length plans → ((p : PlanView) → plan_at plans n ≡ Some p → b ≡ is_due now p) → is_due_flight now plans n ≡ b
due-is now n plans b h l f = (let p = plan-there plans n h l in ap (λ o. option_map_or (is_due now) o false) p.1 ∙ sym (f p.0 p.1))

pub walk-step : (n : ℕ) (done more : ℕ → Bool) (taxi now i : ℕ) (plans : List PlanView) (os ms xs : List RegulationView) → OneMore n done more → 0 < n → is_due_flight now plans n ≡ true → i ≡ length ms → Walked (IsAdvancing done taxi now plans) i os ms → Walked (IsFixedWaiting n) i ms xs → Walked (IsAdvancing more taxi now plans) i os xs
walk-step n done more taxi now i plans os ms xs o h d e w v =
    walked-then (IsAdvancing done taxi now plans) (IsFixedWaiting n) (IsAdvancing more taxi now plans) (λ l m x a f. advancing-step n done more taxi now plans l m x o h d a f) i os ms xs e w v

pub walk-start : (done : ℕ → Bool) (taxi now : ℕ) (plans : List PlanView) (os : List RegulationView) → ((f : ℕ) → 0 < f → done f ≡ false) → Walked (IsAdvancing done taxi now plans) (length os) os os
walk-start done taxi now plans os none = walked-start (IsAdvancing done taxi now plans) (λ l. advancing-start done taxi now plans l none) (length os) os refl

-- a flight that was due earlier is due now
pub due-later : (earlier now : ℕ) (p : PlanView) → earlier ≤ now → is_due earlier p ≡ true → is_due now p ≡ true
due-later earlier now p h e =
    let parts = and_parts (is_filed p.state) (leb p.off_block (earlier + 120)) e in
    let bound = leb-true p.off_block (earlier + 120) parts.1 in
    and_from (is_filed p.state) (leb p.off_block (now + 120)) parts.0 (le-leb p.off_block (now + 120) (omega (arith, bound, h)))

keeps-later : (taxi earlier now k : ℕ) (r : Regulation) (p : PlanView) → earlier ≤ now → keeps taxi earlier r k p ≡ true → keeps taxi now r k p ≡ true
keeps-later taxi earlier now k r p h e = cases (is_departed p.state) e where
  cases : (b : Bool) → (b || (is_due earlier p && option_map_or (λ entry. leb entry (slot_time r.period k)) (subject_to taxi r p) false)) ≡ true → (b || (is_due now p && option_map_or (λ entry. leb entry (slot_time r.period k)) (subject_to taxi r p) false)) ≡ true
  cases true e = refl
  cases false e =
      let o = option_map_or (λ entry. leb entry (slot_time r.period k)) (subject_to taxi r p) false in
      let parts = and_parts (is_due earlier p) o e in
      and_from (is_due now p) o (due-later earlier now p h parts.0) parts.1

pub stays-later : (taxi earlier now : ℕ) (plans : List PlanView) (l : RegulationView) → earlier ≤ now → IsSettledIn taxi earlier plans l → AllStay taxi now plans l
stays-later taxi earlier now plans l h s =
    all-map (λ a. (0 < a.flight) × (keeps_pair taxi earlier plans (regulation_of l) a ≡ true)) (λ a. (0 < a.flight) × (keeps_pair taxi now plans (regulation_of l) a ≡ true)) l.lineup.fixed
    (λ a q. (q.0, cases a (plan_at plans a.flight) q.1)) s.fixed
  where
    cases : (a : Placed) (o : Option PlanView) → option_map_or (keeps taxi earlier (regulation_of l) a.slot) o false ≡ true → option_map_or (keeps taxi now (regulation_of l) a.slot) o false ≡ true
    cases a None e = e
    cases a (Some p) e = keeps-later taxi earlier now a.slot (regulation_of l) p h e

-- none of the flights with provisional slots is due, once those that became due are frozen
still-undue : (taxi earlier now max : ℕ) (plans : List PlanView) (flights : List ℕ) (l m : RegulationView) → HoldNewlyDue earlier now plans flights → IsSettledIn taxi earlier plans l → IsAdvanced (is_among flights) taxi max now plans l m → NoneDue now plans m
still-undue taxi earlier now max plans flights l m holds was b =
    let P : Planned → Type 0 = λ w. is_among flights w.flight ≡ true → is_due_flight now plans w.flight ≡ false in
    let Q : Planned → Type 0 = λ w. is_due_flight earlier plans w.flight ≡ false in
    let some : AllByRecursion (λ w. 1 ≤ w.flight) m.lineup.waiting =
    (let R : List Planned → Type 0 = λ ws. AllByRecursion (λ w. 1 ≤ w.flight) ws in
    subst R (sym (ap (λ v. v.waiting) b.listed)) (waiting-from 1 1 taxi (regulation_of m) m.lineup.fixed plans (omega arith))) in
    all-map (λ w. (P w × Q w) × (1 ≤ w.flight)) (λ w. is_due_flight now plans w.flight ≡ false) m.lineup.waiting (λ w h. cases w h (is_due_flight now plans w.flight) refl)
    (all-both (λ w. P w × Q w) (λ w. 1 ≤ w.flight) m.lineup.waiting (all-both P Q m.lineup.waiting b.waiting (b.undue earlier was.waiting)) some)
  where
    cases : (w : Planned) → ((is_among flights w.flight ≡ true → is_due_flight now plans w.flight ≡ false) × (is_due_flight earlier plans w.flight ≡ false)) × (1 ≤ w.flight) → (b : Bool) → is_due_flight now plans w.flight ≡ b → is_due_flight now plans w.flight ≡ false
    cases w h false e = e
    cases w h true e = h.0.0 (holds w.flight (omega (arith, h.1)) e h.0.1)

pub all-advanced : (flights : List ℕ) (taxi now max earlier i : ℕ) (plans : List PlanView) (os ns : List RegulationView) → HoldNewlyDue earlier now plans flights → earlier ≤ now → i ≡ length ns → Walked (IsAdvancing (is_among flights) taxi now plans) i os ns → IsListed taxi max plans os → IsSettled taxi earlier plans os → AreRenewed taxi max now plans os ns
all-advanced flights taxi now max earlier i plans os ns holds late e w listed settled_then =
    let R : RegulationView → RegulationView → Type 0 = IsAdvancing (is_among flights) taxi now plans in
    let P : RegulationView → Type 0 = λ l. IsListedIn taxi max plans l × IsSettledIn taxi earlier plans l in
    let both : AllByRecursion P os = all-both (IsListedIn taxi max plans) (IsSettledIn taxi earlier plans) os listed settled_then in
    let advanced : (o m : RegulationView) → P o → R o m → IsAdvanced (is_among flights) taxi max now plans o m = λ o m h r. r.advanced max h.0 (stays-later taxi earlier now plans o late h.1) in
    let none : (o m : RegulationView) → (h : P o) → (r : R o m) → NoneDue now plans m = λ o m h r. still-undue taxi earlier now max plans flights o m holds h.1 (advanced o m h r) in
    record {
      regulations = walked-map R P regulation_of (λ l. settled taxi now plans (regulation_of l)) (λ o m h r. advanced-settled (is_among flights) taxi max now plans o m (advanced o m h r) (none o m h r)) i os ns e w both ∙ map-map regulation_of (settled taxi now plans) os;
      listed = walked-all R P (IsListedIn taxi max plans) (λ o m h r. (advanced o m h r).listed) i os ns e w both;
      settled_in = walked-all R P (IsSettledIn taxi now plans) (λ o m h r. advanced-settled_in (is_among flights) taxi max now plans o m (advanced o m h r) (none o m h r)) i os ns e w both;
    }

-- the first ones of a list of flights, with one more
pub among-more : (j n : ℕ) (flights : List ℕ) → j < length flights → n ≡ get_or flights j 0 → OneMore n (is_among (take j flights)) (is_among (take (j + 1) flights))
among-more j n flights within at f =
    ap (is_in f) (take_more flights j 0 within ∙ ap (λ v. take j flights ++ v ∷ []) (sym at)) ∙ last (take j flights) where
      last : (xs : List ℕ) → is_in f (xs ++ n ∷ []) ≡ (is_in f xs || eqb n f)
      last [] = or-false (eqb n f) where
        or-false : (b : Bool) → (b || false) ≡ b
        or-false true = refl
        or-false false = refl
      last (x ∷ xs) = ap (λ b. eqb x f || b) (last xs) ∙ or-or (eqb x f) (is_in f xs) (eqb n f) where
        or-or : (a b c : Bool) → (a || (b || c)) ≡ ((a || b) || c)
        or-or true b c = refl
        or-or false b c = refl

pub all_fixed-last : (ns : List ℕ) (n : ℕ) (l : Lineup) → all_fixed_waiting (ns ++ n ∷ []) l ≡ fixed_waiting n (all_fixed_waiting ns l)
all_fixed-last [] n l = refl
all_fixed-last (m ∷ ns) n l = all_fixed-last ns n (fixed_waiting m l)

-- each was fixed in one more
pub fixed-more : (j n : ℕ) (flights : List ℕ) (os ms xs : List RegulationView) → j < length flights → n ≡ get_or flights j 0 → ms ≡ map (with_fixed_waiting (take j flights)) os → Walked (IsFixedWaiting n) (length xs) ms xs → xs ≡ map (with_fixed_waiting (take (j + 1) flights)) os
fixed-more j n flights os ms xs within at e w =
    let one : RegulationView → RegulationView = λ l. with_lineup (fixed_waiting n l.lineup) l in
    let more : take (j + 1) flights ≡ take j flights ++ n ∷ [] = take_more flights j 0 within ∙ ap (λ v. take j flights ++ v ∷ []) (sym at) in
    walked-is (IsFixedWaiting n) one (λ x y r. r.same) (length xs) ms xs refl w
    ∙ (ap (map one) e ∙ (sym (map-map (with_fixed_waiting (take j flights)) one os)
    ∙ (each os ∙ ap (λ ns. map (with_fixed_waiting ns) os) (sym more))))
  where
    each : (os : List RegulationView) → map (λ l. with_lineup (fixed_waiting n (with_fixed_waiting (take j flights) l).lineup) (with_fixed_waiting (take j flights) l)) os ≡ map (with_fixed_waiting (take j flights ++ n ∷ [])) os
    each [] = refl
    each (l ∷ ls) = ap (λ v. with_lineup v l ∷ map (λ l. with_lineup (fixed_waiting n (with_fixed_waiting (take j flights) l).lineup) (with_fixed_waiting (take j flights) l)) ls) (sym (all_fixed-last (take j flights) n l.lineup)) ∙ ap (λ vs. with_fixed_waiting (take j flights ++ n ∷ []) l ∷ vs) (each ls)

pub fixed-start : (os : List RegulationView) → os ≡ map (with_fixed_waiting []) os
fixed-start [] = refl
fixed-start (l ∷ ls) = ap (λ vs. l ∷ vs) (fixed-start ls)

capacity-fixed : (ns : List ℕ) (l : Lineup) → (all_fixed_waiting ns l).capacity ≡ l.capacity
capacity-fixed [] l = refl
capacity-fixed (n ∷ ns) l = capacity-fixed ns (fixed_waiting n l) ∙ cases (is_some (fixed_slot l n)) (held_slot l n) where
  cases : (b : Bool) (o : Option ℕ) → (cond b l (fixed_there o n l)).capacity ≡ l.capacity
  cases true o = refl
  cases false None = refl
  cases false (Some k) = refl

pub capacity-advanced : (max : ℕ) (flights : List ℕ) (os : List RegulationView) → HaveCapacity max os → HaveCapacity max (map (with_fixed_waiting flights) os)
capacity-advanced max flights [] h = tt
capacity-advanced max flights (l ∷ ls) h = (capacity-fixed flights l.lineup ∙ h.0, capacity-advanced max flights ls h.1)

-- the slots of the other flights
pub pairs-advanced : (f : ℕ) (ns : List ℕ) (l : Lineup) → is_in f ns ≡ false → pairs_of f (all_fixed_waiting ns l).fixed ≡ pairs_of f l.fixed
pairs-advanced f [] l out = refl
pairs-advanced f (n ∷ ns) l out =
    let parts = or_parts (eqb n f) (is_in f ns) out in
    pairs-advanced f ns (fixed_waiting n l) parts.1 ∙ pairs-waiting f n l (λ e. eqb-false n f parts.0 (sym e))

pub others-advanced : (f : ℕ) (flights : List ℕ) (os : List RegulationView) → is_in f flights ≡ false → pairs_in f (map (with_fixed_waiting flights) os) ≡ pairs_in f os
others-advanced f flights [] out = refl
others-advanced f flights (l ∷ ls) out =
    ap (λ v. v ∷ pairs_in f (map (with_fixed_waiting flights) ls)) (pairs-advanced f flights l.lineup out) ∙ ap (λ vs. pairs_of f l.lineup.fixed ∷ vs) (others-advanced f flights ls out)
