-- A slot list after a message about one of its flights: the settled regulation's.
use Rattle.std.proofs.Common.{◌≡◌, ℕ, ◌+◌, ◌-◌, ◌<◌, ◌≤◌, ◌||◌, ◌&&◌, Bool, true, false, cond, eqb, leb, List, ◌∷◌, Option, Some, None, refl, sym, ap, subst, ◌∙◌, arith}
use Rattle.std.specs.List.{AllByRecursion, filter, slice_get}
use mathlib.Core.Logic.{⊎_elim}
use Rattle.std.specs.Option.{option_and_then, option_map_or}
use Rattle.std.proofs.lemmas.Bool.{le-leb, and_from, or_right, eq-eqb, cases_eq}
use Rattle.flow_plans.specs.Plans.{PlanView, plan_at, is_departed}
use Rattle.flow_slots.specs.declared.cell.Planned.{Planned}
use Rattle.flow_slots.specs.Period.{IsRegular, first_slot, slot_time}
use Rattle.flow_slots.specs.Order.{insert, without}
use Rattle.flow_slots.specs.Assignment.{Placed, greedy, slots}
use Rattle.flow_slots.specs.Lineup.{Lineup, FixedApart, NoneIs, slot_in, held_slot, fixed_slot, without_fixed, insert_fixed, with_waiting, without_flight}
use Rattle.flow_slots.specs.ChangeList.{fixed_there}
use Rattle.flow_slots.proofs.Periods.{first_slot-first, slot_time-later}
use Rattle.flow_regulations.specs.Regulations.{Regulation, subject_to, has_flight, with_entry, waiting_from}
use Rattle.flow_regulations.specs.Settling.{is_due, keeps, keeps_pair, kept_pairs, is_due_flight, insert_all, assigned_around, settled}
use Rattle.flow_regulations.specs.Listing.{RegulationView, regulation_of, IsListedIn, IsSettledBut, with_lineup, IsRenewed, AreSameBut, keeps_slot, placed, looked_again}
use Rattle.flow_regulations.proofs.Waiting.{mark, with_entry-kept, waiting-fixed, waiting-like, waiting-apart, waiting-others, waiting-none, waiting-from, without-with_entry, without-insert, all-insert, all-with_entry-back}
use Rattle.flow_regulations.proofs.FixedOnes.{all-map, all-both, all-without, none-without, has-none, has-mark_without, has-insert, all-insert_fixed, slot_in-none, has-some, one-slot, filter-all, filter-without}
use Rattle.flow_regulations.proofs.Subjects.{subject-within}
use Rattle.flow_regulations.proofs.Served.{greedy-none, IsFound, found, slot_in-after}

-- a slot list with these provisional and frozen flights
abbrev lined : Lineup → List Planned → List Placed → Lineup
lined l ws fs = record { period = l.period; capacity = l.capacity; waiting = ws; fixed = fs }

-- what has to be shown of them
record IsMade (taxi max now : ℕ) (plans : List PlanView) (l : RegulationView) (ws : List Planned) (fs : List Placed) : Type 0 where
  waits : ws ≡ waiting_from 1 taxi (regulation_of l) fs plans
  keeps_them : insert_all (filter (λ (a : Placed). is_due_flight now plans a.flight) (assigned_around taxi plans (regulation_of l) (kept_pairs taxi now plans (regulation_of l)))) (kept_pairs taxi now plans (regulation_of l)) ≡ fs
  fixed : AllByRecursion (λ a. (0 < a.flight) × (keeps_pair taxi now plans (regulation_of l) a ≡ true)) fs
  waiting : AllByRecursion (λ w. is_due_flight now plans w.flight ≡ false) ws

renewed-made : (taxi max now : ℕ) (plans : List PlanView) (l : RegulationView) (ws : List Planned) (fs : List Placed) → l.lineup.capacity ≡ max → IsMade taxi max now plans l ws fs → IsRenewed taxi max now plans l (lined l.lineup ws fs)
unfolding settled
renewed-made taxi max now plans l ws fs c m = record {
  regulation = sym (ap (λ v. let r : Regulation = record { id = l.id; spot = l.spot; period = l.lineup.period; fixed = v } in r) m.keeps_them);
  listed =
      let again = regulation_of (with_lineup (lined l.lineup ws fs) l) in
      ap (λ v. lined l.lineup v fs) (m.waits ∙ waiting-like 1 taxi (regulation_of l) again fs plans (λ p. refl)) ∙ ap (λ v. let n : Lineup = record { period = l.lineup.period; capacity = v; waiting = waiting_from 1 taxi again fs plans; fixed = fs } in n) c;
  settled_in = record { fixed = m.fixed; waiting = m.waiting };
}

-- what is known of a regulation when the plan of one of its flights has changed
pub record IsChanged (taxi max now n : ℕ) (before plans : List PlanView) (l : RegulationView) (p : PlanView) : Type 0 where
  pub number : 0 < n
  pub plan : plan_at plans n ≡ Some p
  pub same : AreSameBut n before plans
  pub listed : IsListedIn taxi max before l
  pub settled_but : IsSettledBut n taxi now before l
  -- if the flight has a frozen slot, no flight has two; if the regulation applies to it, the period
  -- is regular
  pub apart : (k : ℕ) → fixed_slot l.lineup n ≡ Some k → FixedApart l.lineup.fixed
  pub regular : (e : ℕ) → subject_to taxi (regulation_of l) p ≡ Some e → IsRegular l.lineup.period

module _ (taxi max now n : ℕ) (before plans : List PlanView) (l : RegulationView) (p : PlanView) (h : IsChanged taxi max now n before plans l p) where
  abbrev r : Regulation
  r = regulation_of l

  abbrev fs : List Placed
  fs = l.lineup.fixed

  -- the other flights with provisional slots
  abbrev others : List Planned
  others = waiting_from 1 taxi r (mark n ∷ fs) before

  same-at : (i : ℕ) → (1 + i ≡ n → ⊥) → slice_get plans i ≡ slice_get before i
  same-at i ne = (let e : i ≡ 1 + i - 1 = omega arith in ap (slice_get plans) e ∙ (h.same (1 + i) (omega arith) ne ∙ ap (slice_get before) (sym e)))

  others-now : waiting_from 1 taxi r (mark n ∷ fs) plans ≡ others
  others-now = waiting-others n 1 taxi r fs plans before same-at

  waiting-before : l.lineup.waiting ≡ with_entry (option_and_then (subject_to taxi r) (plan_at before n)) (has_flight n fs) n others
  waiting-before = ap (λ v. v.waiting) h.listed ∙ waiting-apart (n - 1) n 1 taxi r fs before (omega (arith, h.number))

  -- the flights with provisional slots now, whichever of the others are frozen
  waiting-now : (gs : List Placed) → ((f : ℕ) → has_flight f (mark n ∷ gs) ≡ has_flight f (mark n ∷ fs)) → waiting_from 1 taxi r gs plans ≡ with_entry (subject_to taxi r p) (has_flight n gs) n others
  waiting-now gs e =
      waiting-apart (n - 1) n 1 taxi r gs plans (omega (arith, h.number))
      ∙ (ap (λ o. with_entry (option_and_then (subject_to taxi r) o) (has_flight n gs) n (waiting_from 1 taxi r (mark n ∷ gs) plans)) h.plan
      ∙ ap (with_entry (subject_to taxi r p) (has_flight n gs) n) (waiting-fixed 1 taxi r (mark n ∷ gs) (mark n ∷ fs) plans (λ f _. e f) ∙ others-now))

  none : NoneIs n others
  none = waiting-none n 1 taxi r fs before

  not-due : AllByRecursion (λ w. is_due_flight now plans w.flight ≡ false) others
  not-due =
      let P : Planned → Type 0 = λ w. (w.flight ≡ n → ⊥) → is_due_flight now before w.flight ≡ false in
      let all : AllByRecursion P l.lineup.waiting = h.settled_but.waiting in
      let Q : List Planned → Type 0 = λ ws. AllByRecursion P ws in
      let old : AllByRecursion P others = all-with_entry-back P (option_and_then (subject_to taxi r) (plan_at before n)) (has_flight n fs) n others (subst Q waiting-before all) in
      all-map (λ w. P w × ((w.flight ≡ n → ⊥) × (1 ≤ w.flight))) (λ w. is_due_flight now plans w.flight ≡ false) others
      (λ w k. ap (λ o. option_map_or (is_due now) o false) (h.same w.flight (omega (arith, k.1.1)) k.1.0) ∙ k.0 k.1.0)
      (all-both P (λ w. (w.flight ≡ n → ⊥) × (1 ≤ w.flight)) others old (all-both (λ w. w.flight ≡ n → ⊥) (λ w. 1 ≤ w.flight) others none (waiting-from 1 1 taxi r (mark n ∷ fs) before (omega arith))))

  stays-now : AllByRecursion (λ a. (0 < a.flight) × ((a.flight ≡ n → ⊥) → keeps_pair taxi now plans r a ≡ true)) fs
  stays-now =
      all-map (λ a. (0 < a.flight) × ((a.flight ≡ n → ⊥) → keeps_pair taxi now before r a ≡ true)) (λ a. (0 < a.flight) × ((a.flight ≡ n → ⊥) → keeps_pair taxi now plans r a ≡ true)) fs
      (λ a k. (k.0, λ ne. ap (λ o. option_map_or (keeps taxi now r a.slot) o false) (h.same a.flight k.0 ne) ∙ k.1 ne)) h.settled_but.fixed

  -- the flight's own pair
  stays-own : (a : Placed) → a.flight ≡ n → keeps_pair taxi now plans r a ≡ keeps taxi now r a.slot p
  stays-own a e = ap (λ f. option_map_or (keeps taxi now r a.slot) (plan_at plans f) false) e ∙ ap (λ o. option_map_or (keeps taxi now r a.slot) o false) h.plan

  capacity : l.lineup.capacity ≡ max
  capacity = ap (λ v. v.capacity) h.listed

  -- if the flight keeps its slot, nothing changes
  kept-slot : (k : ℕ) → slot_in n fs ≡ Some k → keeps taxi now r k p ≡ true → IsMade taxi max now plans l l.lineup.waiting fs
  kept-slot k at keeps_it =
      let own = one-slot n k fs (h.apart k at) at in
      let stay : AllByRecursion (λ a. (0 < a.flight) × (keeps_pair taxi now plans r a ≡ true)) fs =
      all-map (λ a. ((0 < a.flight) × ((a.flight ≡ n → ⊥) → keeps_pair taxi now plans r a ≡ true)) × (a.flight ≡ n → a.slot ≡ k)) (λ a. (0 < a.flight) × (keeps_pair taxi now plans r a ≡ true)) fs
      (λ a q. (q.0.0, ⊎_elim (λ e. stays-own a e ∙ (ap (λ j. keeps taxi now r j p) (q.1 e) ∙ keeps_it)) q.0.1 (cases_eq a.flight n)))
      (all-both (λ a. (0 < a.flight) × ((a.flight ≡ n → ⊥) → keeps_pair taxi now plans r a ≡ true)) (λ a. a.flight ≡ n → a.slot ≡ k) fs stays-now own) in
      let same : kept_pairs taxi now plans r ≡ fs = filter-all (keeps_pair taxi now plans r) fs (all-map (λ a. (0 < a.flight) × (keeps_pair taxi now plans r a ≡ true)) (λ a. keeps_pair taxi now plans r a ≡ true) fs (λ _ k. k.1) stay) in
      let has : has_flight n fs ≡ true = has-some n k fs at in
      let old : l.lineup.waiting ≡ others = waiting-before ∙ (ap (λ b. with_entry (option_and_then (subject_to taxi r) (plan_at before n)) b n others) has ∙ with_entry-kept (option_and_then (subject_to taxi r) (plan_at before n)) n others) in
      let new : waiting_from 1 taxi r fs plans ≡ others = waiting-now fs (λ f. refl) ∙ (ap (λ b. with_entry (subject_to taxi r p) b n others) has ∙ with_entry-kept (subject_to taxi r p) n others) in
      let Q : List Planned → Type 0 = λ ws. AllByRecursion (λ w. is_due_flight now plans w.flight ≡ false) ws in
      record {
        waits = old ∙ sym new;
        keeps_them =
            ap (λ gs. insert_all (filter (λ (a : Placed). is_due_flight now plans a.flight) (assigned_around taxi plans r gs)) gs) same
            ∙ ap (λ xs. insert_all xs fs) (ap (λ ws. filter (λ (a : Placed). is_due_flight now plans a.flight) (greedy (λ e. first_slot r.period e) (slots fs) ws)) new ∙ greedy-none (is_due_flight now plans) (λ e. first_slot r.period e) (slots fs) others not-due);
        fixed = stay;
        waiting = subst Q (sym old) not-due;
      }

  -- if it does not, its pair is dropped
  gone : (o : Option ℕ) → slot_in n fs ≡ o → option_map_or (λ k. keeps taxi now r k p) o false ≡ false → AllByRecursion (λ a. a.flight ≡ n → keeps_pair taxi now plans r a ≡ false) fs
  gone None at e = all-map (λ a. a.flight ≡ n → ⊥) (λ a. a.flight ≡ n → keeps_pair taxi now plans r a ≡ false) fs (λ a ne q. absurd (ne q)) (slot_in-none n fs at)
  gone (Some k) at e =
      all-map (λ a. a.flight ≡ n → a.slot ≡ k) (λ a. a.flight ≡ n → keeps_pair taxi now plans r a ≡ false) fs
      (λ a own q. stays-own a q ∙ (ap (λ j. keeps taxi now r j p) (own q) ∙ e)) (one-slot n k fs (h.apart k at) at)

  abbrev rest : List Placed
  rest = without_fixed n fs

  kept-rest : AllByRecursion (λ a. a.flight ≡ n → keeps_pair taxi now plans r a ≡ false) fs → kept_pairs taxi now plans r ≡ rest
  kept-rest g =
      filter-without (keeps_pair taxi now plans r) n fs
      (all-map (λ a. ((0 < a.flight) × ((a.flight ≡ n → ⊥) → keeps_pair taxi now plans r a ≡ true)) × (a.flight ≡ n → keeps_pair taxi now plans r a ≡ false)) (λ a. ((a.flight ≡ n → ⊥) → keeps_pair taxi now plans r a ≡ true) × (a.flight ≡ n → keeps_pair taxi now plans r a ≡ false)) fs (λ a q. (q.0.1, q.1))
      (all-both (λ a. (0 < a.flight) × ((a.flight ≡ n → ⊥) → keeps_pair taxi now plans r a ≡ true)) (λ a. a.flight ≡ n → keeps_pair taxi now plans r a ≡ false) fs stays-now g))

  rest-stays : AllByRecursion (λ a. (0 < a.flight) × (keeps_pair taxi now plans r a ≡ true)) rest
  rest-stays =
      let P : Placed → Type 0 = λ a. (0 < a.flight) × ((a.flight ≡ n → ⊥) → keeps_pair taxi now plans r a ≡ true) in
      all-map (λ a. (a.flight ≡ n → ⊥) × P a) (λ a. (0 < a.flight) × (keeps_pair taxi now plans r a ≡ true)) rest (λ a q. (q.1.0, q.1.1 q.0)) (all-without P n fs stays-now)

  out : without n l.lineup.waiting ≡ others
  out = ap (without n) waiting-before ∙ without-with_entry (option_and_then (subject_to taxi r) (plan_at before n)) (has_flight n fs) n others none

  waiting-rest : (o : Option ℕ) → subject_to taxi r p ≡ o → waiting_from 1 taxi r rest plans ≡ with_entry o false n others
  waiting-rest o e = waiting-now rest (λ f. has-mark_without f n fs) ∙ (ap (λ b. with_entry (subject_to taxi r p) b n others) (has-none n rest (none-without n fs)) ∙ ap (λ v. with_entry v false n others) e)

  keeps-rest : AllByRecursion (λ a. a.flight ≡ n → keeps_pair taxi now plans r a ≡ false) fs → (o : Option ℕ) → subject_to taxi r p ≡ o
      → insert_all (filter (λ (a : Placed). is_due_flight now plans a.flight) (assigned_around taxi plans r (kept_pairs taxi now plans r))) (kept_pairs taxi now plans r) ≡ insert_all (filter (λ (a : Placed). is_due_flight now plans a.flight) (greedy (λ e. first_slot r.period e) (slots rest) (with_entry o false n others))) rest
  keeps-rest g o e =
      ap (λ gs. insert_all (filter (λ (a : Placed). is_due_flight now plans a.flight) (assigned_around taxi plans r gs)) gs) (kept-rest g)
      ∙ ap (λ ws. insert_all (filter (λ (a : Placed). is_due_flight now plans a.flight) (greedy (λ e. first_slot r.period e) (slots rest) ws)) rest) (waiting-rest o e)

  due-own : is_due_flight now plans n ≡ is_due now p
  due-own = ap (λ o. option_map_or (is_due now) o false) h.plan

  made-out : AllByRecursion (λ a. a.flight ≡ n → keeps_pair taxi now plans r a ≡ false) fs → subject_to taxi r p ≡ None → IsMade taxi max now plans l others rest
  made-out g e = record {
    waits = sym (waiting-rest None e);
    keeps_them = keeps-rest g None e ∙ ap (λ xs. insert_all xs rest) (greedy-none (is_due_flight now plans) (λ e. first_slot r.period e) (slots rest) others not-due);
    fixed = rest-stays;
    waiting = not-due;
  }

  made-waiting : AllByRecursion (λ a. a.flight ≡ n → keeps_pair taxi now plans r a ≡ false) fs → (e : ℕ) → subject_to taxi r p ≡ Some e → is_due now p ≡ false → IsMade taxi max now plans l (insert (record { entry = e; flight = n }) others) rest
  made-waiting g e s d =
      let none_due = all-insert (λ w. is_due_flight now plans w.flight ≡ false) (record { entry = e; flight = n }) others (due-own ∙ d) not-due in
      record {
        waits = sym (waiting-rest (Some e) s);
        keeps_them = keeps-rest g (Some e) s ∙ ap (λ xs. insert_all xs rest) (greedy-none (is_due_flight now plans) (λ e. first_slot r.period e) (slots rest) (insert (record { entry = e; flight = n }) others) none_due);
        fixed = rest-stays;
        waiting = none_due;
      }

  -- the slot that it is fixed in is not before its entry
  stays-fixed : (e k : ℕ) → subject_to taxi r p ≡ Some e → is_due now p ≡ true → first_slot r.period e ≤ k → keeps_pair taxi now plans r (record { flight = n; slot = k }) ≡ true
  stays-fixed e k s d from =
      let within = subject-within taxi l.spot l.lineup.period.start l.lineup.period.end e p s in
      let late : e ≤ slot_time r.period k = omega (arith, (first_slot-first l.lineup.period e (h.regular e s) within.0).0, slot_time-later l.lineup.period (first_slot r.period e) k (h.regular e s) from) in
      let entry : option_map_or (λ entry. leb entry (slot_time r.period k)) (subject_to taxi r p) false ≡ true = ap (λ o. option_map_or (λ entry. leb entry (slot_time r.period k)) o false) s ∙ le-leb e (slot_time r.period k) late in
      stays-own (record { flight = n; slot = k }) refl ∙ or_right (is_departed p.state) (is_due now p && option_map_or (λ entry. leb entry (slot_time r.period k)) (subject_to taxi r p) false) (and_from (is_due now p) (option_map_or (λ entry. leb entry (slot_time r.period k)) (subject_to taxi r p) false) d entry)

  made-fixed : AllByRecursion (λ a. a.flight ≡ n → keeps_pair taxi now plans r a ≡ false) fs → (e k : ℕ) → subject_to taxi r p ≡ Some e → is_due now p ≡ true
      → IsFound (is_due_flight now plans) (λ e. first_slot r.period e) (slots rest) (record { entry = e; flight = n }) (insert (record { entry = e; flight = n }) others) k
      → IsMade taxi max now plans l others (insert_fixed (record { flight = n; slot = k }) rest)
  made-fixed g e k s d f =
      let a : Placed = record { flight = n; slot = k } in
      let has : (j : ℕ) → has_flight j (mark n ∷ insert_fixed a rest) ≡ has_flight j (mark n ∷ fs) = λ j. ap (λ b. eqb n j || b) (has-insert j a rest) ∙ (twice (eqb n j) (has_flight j rest) ∙ has-mark_without j n fs) in
      let here : has_flight n (insert_fixed a rest) ≡ true = has-insert n a rest ∙ ap (λ b. b || has_flight n rest) (eq-eqb n n refl) in
      record {
        waits = sym (waiting-now (insert_fixed a rest) has ∙ (ap (λ b. with_entry (subject_to taxi r p) b n others) here ∙ with_entry-kept (subject_to taxi r p) n others));
        keeps_them = keeps-rest g (Some e) s ∙ ap (λ xs. insert_all xs rest) f.picked;
        fixed = all-insert_fixed (λ a. (0 < a.flight) × (keeps_pair taxi now plans r a ≡ true)) a rest (h.number, stays-fixed e k s d f.not_before) rest-stays;
        waiting = not-due;
      }
    where
      twice : (b c : Bool) → (b || (b || c)) ≡ (b || c)
      twice true c = refl
      twice false c = refl

  renewed-placed : AllByRecursion (λ a. a.flight ≡ n → keeps_pair taxi now plans r a ≡ false) fs → (o : Option ℕ) (d : Bool) → subject_to taxi r p ≡ o → is_due now p ≡ d → IsRenewed taxi max now plans l (placed o d n (without_flight n l.lineup))
  renewed-placed g None d s q =
      let R : List Planned → Type 0 = λ ws. IsRenewed taxi max now plans l (lined l.lineup ws rest) in
      subst R (sym out) (renewed-made taxi max now plans l others rest capacity (made-out g s))
  renewed-placed g (Some e) false s q =
      let R : List Planned → Type 0 = λ ws. IsRenewed taxi max now plans l (lined l.lineup (insert (record { entry = e; flight = n }) ws) rest) in
      subst R (sym out) (renewed-made taxi max now plans l (insert (record { entry = e; flight = n }) others) rest capacity (made-waiting g e s q))
  renewed-placed g (Some e) true s q =
      let x : Planned = record { entry = e; flight = n } in
      let f = found (is_due_flight now plans) (λ e. first_slot r.period e) (slots rest) x others (due-own ∙ q) none not-due in
      let a : Placed = record { flight = n; slot = f.0 } in
      let waits : Lineup = with_waiting x (without_flight n l.lineup) in
      let at : held_slot waits n ≡ Some f.0 =
      slot_in-after n rest (greedy (λ e. first_slot r.period e) (slots rest) (insert x (without n l.lineup.waiting))) (none-without n fs)
      ∙ (ap (λ ws. slot_in n (greedy (λ e. first_slot r.period e) (slots rest) (insert x ws))) out ∙ f.1.held) in
      let again : without n (insert x (without n l.lineup.waiting)) ≡ others = ap (λ ws. without n (insert x ws)) out ∙ without-insert x others none in
      let R : List Planned → Type 0 = λ ws. IsRenewed taxi max now plans l (lined l.lineup ws (insert_fixed a rest)) in
      let S : Option ℕ → Type 0 = λ o. IsRenewed taxi max now plans l (fixed_there o n waits) in
      subst S (sym at) (subst R (sym again) (renewed-made taxi max now plans l others (insert_fixed a rest) capacity (made-fixed g e f.0 s q f.1)))

  -- a slot list after a message about one of its flights is that of the settled regulation
  pub renewed : IsRenewed taxi max now plans l (looked_again taxi now r n p l.lineup)
  renewed = cases (keeps_slot taxi now r n p l.lineup) refl where
    stayed : (o : Option ℕ) → slot_in n fs ≡ o → option_map_or (λ k. keeps taxi now r k p) o false ≡ true → IsRenewed taxi max now plans l l.lineup
    stayed None at e = absurd cc
    stayed (Some k) at e = renewed-made taxi max now plans l l.lineup.waiting fs capacity (kept-slot k at e)

    cases : (b : Bool) → keeps_slot taxi now r n p l.lineup ≡ b → IsRenewed taxi max now plans l (cond b l.lineup (placed (subject_to taxi r p) (is_due now p) n (without_flight n l.lineup)))
    cases true e = stayed (fixed_slot l.lineup n) refl e
    cases false e = renewed-placed (gone (fixed_slot l.lineup n) refl e) (subject_to taxi r p) (is_due now p) refl refl
