-- A flight's provisional slot is frozen.
use Rattle.std.proofs.Common.{◌≡◌, ℕ, ◌-◌, ◌<◌, ◌≤◌, ◌++◌, ◌⊎◌, inl, inr, ◌||◌, ◌&&◌, Bool, true, false, cond, eqb, leb, List, [], ◌∷◌, Option, Some, None, refl, sym, ap, subst, ◌∙◌, arith}
use Rattle.std.specs.List.{AllByRecursion, filter}
use mathlib.Core.Logic.{⊎_elim}
use Rattle.std.specs.Option.{option_and_then, option_map_or, is_some}
use Rattle.std.proofs.lemmas.Bool.{le-leb, and_from, or_right, eq-eqb, ne_eqb}
use Rattle.flow_plans.specs.Plans.{PlanView, plan_at, is_departed}
use Rattle.flow_slots.specs.declared.cell.Planned.{Planned}
use Rattle.flow_slots.specs.Period.{IsRegular, first_slot, slot_time}
use Rattle.flow_slots.specs.Order.{insert, without}
use Rattle.flow_slots.specs.Assignment.{Placed, first_free, greedy, slots}
use Rattle.flow_slots.specs.Lineup.{Lineup, IsLineup, NoneIs, NoneFixed, slot_in, assigned, held_slot, fixed_slot, insert_fixed}
use Rattle.flow_slots.specs.ChangeList.{fixed_there}
use Rattle.flow_slots.proofs.Periods.{first_slot-first, slot_time-later}
use Rattle.flow_regulations.specs.Regulations.{Regulation, subject_to, has_flight, with_entry, waiting_from, lineup_of}
use Rattle.flow_regulations.specs.Settling.{is_due, keeps, keeps_pair, kept_pairs, is_due_flight, insert_all, settled, pairs_of, frozen_at_departure}
use Rattle.flow_regulations.specs.Listing.{RegulationView, regulation_of, IsListedIn, with_lineup, fixed_waiting, IsFrozen}
use Rattle.flow_regulations.proofs.Waiting.{mark, with_entry-kept, waiting-fixed, waiting-like, waiting-apart, waiting-none, without-insert, all-with_entry-back}
use Rattle.flow_regulations.proofs.FixedOnes.{all-map, has-none, has-insert, all-insert_fixed, slot_in-none, has-some, filter-all}
use Rattle.flow_regulations.proofs.Subjects.{subject-within}
use Rattle.flow_regulations.proofs.Served.{greedy-none, found, slot_in-after, slot_in-other}
use Rattle.flow_regulations.proofs.Firsts.{greedy-fixed, insert_all-first, slots-insert}

abbrev pub lined : Lineup → List Planned → List Placed → Lineup
lined l ws fs = record { period = l.period; capacity = l.capacity; waiting = ws; fixed = fs }

filter-append : (T : Placed → Bool) (xs ys : List Placed) → filter T (xs ++ ys) ≡ filter T xs ++ filter T ys
filter-append T [] ys = refl
filter-append T (x ∷ xs) ys = cases (filter-append T xs ys) (T x) where
  cases : filter T (xs ++ ys) ≡ filter T xs ++ filter T ys → (b : Bool) → cond b (x ∷ filter T (xs ++ ys)) (filter T (xs ++ ys)) ≡ cond b (x ∷ filter T xs) (filter T xs) ++ filter T ys
  cases again true = ap (λ v. x ∷ v) again
  cases again false = again

pub pairs-none : (n : ℕ) (xs : List Placed) → NoneFixed n xs → pairs_of n xs ≡ []
pairs-none n [] h = refl
pairs-none n (x ∷ xs) h = ap (λ b. cond b (x ∷ pairs_of n xs) (pairs_of n xs)) (ne_eqb x.flight n h.0) ∙ pairs-none n xs h.1

pub slot-none : (first : ℕ → ℕ) (taken : List ℕ) (n : ℕ) (ws : List Planned) → NoneIs n ws → slot_in n (greedy first taken ws) ≡ None
slot-none first taken n [] h = refl
slot-none first taken n (w ∷ ws) h =
    let k = first_free taken (first w.entry) in
    slot_in-other n (record { flight = w.flight; slot = k }) (greedy first (k ∷ taken) ws) h.0 ∙ slot-none first (k ∷ taken) n ws h.1

module _ (taxi max n : ℕ) (plans : List PlanView) (l : RegulationView) (listed : IsListedIn taxi max plans l) (positive : 0 < n) where
  abbrev pub r : Regulation
  r = regulation_of l

  abbrev pub fs : List Placed
  fs = l.lineup.fixed

  abbrev pub first : ℕ → ℕ
  first = λ e. first_slot l.lineup.period e

  -- the other flights with provisional slots
  abbrev pub others : List Planned
  others = waiting_from 1 taxi r (mark n ∷ fs) plans

  abbrev pub own : Option ℕ
  own = option_and_then (subject_to taxi r) (plan_at plans n)

  pub waiting-is : l.lineup.waiting ≡ with_entry own (has_flight n fs) n others
  waiting-is = ap (λ v. v.waiting) listed ∙ waiting-apart (n - 1) n 1 taxi r fs plans (omega (arith, positive))

  pub none : NoneIs n others
  none = waiting-none n 1 taxi r fs plans

  -- it has no provisional slot, and nothing changes
  pub record DoesNot : Type 0 where
    pub waiting : l.lineup.waiting ≡ others
    pub same : fixed_waiting n l.lineup ≡ l.lineup
    pub frozen : frozen_at_departure taxi max plans n r ≡ r

  -- it has a provisional slot by its entry `e`, slot `k`
  pub record Does (e k : ℕ) : Type 0 where
    pub entry : own ≡ Some e
    pub waiting : l.lineup.waiting ≡ insert (record { entry = e; flight = n }) others
    pub unfixed : fixed_slot l.lineup n ≡ None
    pub held : held_slot l.lineup n ≡ Some k
    pub from : first e ≤ k
    pub frozen : frozen_at_departure taxi max plans n r ≡ record { id = r.id; spot = r.spot; period = r.period; fixed = insert_fixed (record { flight = n; slot = k }) fs }

  pub either : DoesNot ⊎ ((e : ℕ) × (k : ℕ) × Does e k)
  unfolding frozen_at_departure
  either = cases (fixed_slot l.lineup n) refl where
    frozen-by : (b : Bool) → has_flight n fs ≡ b → frozen_at_departure taxi max plans n r ≡ cond b r (record { id = r.id; spot = r.spot; period = r.period; fixed = insert_all (pairs_of n (assigned (lineup_of taxi max plans r))) fs })
    frozen-by b e = ap (λ c. cond c r (record { id = r.id; spot = r.spot; period = r.period; fixed = insert_all (pairs_of n (assigned (lineup_of taxi max plans r))) fs })) e

    pairs-are : NoneFixed n fs → pairs_of n (assigned (lineup_of taxi max plans r)) ≡ pairs_of n (greedy first (slots fs) l.lineup.waiting)
    pairs-are h =
        ap (λ v. pairs_of n (assigned v)) (sym listed)
        ∙ (filter-append (λ a. eqb a.flight n) fs (greedy first (slots fs) l.lineup.waiting) ∙ ap (λ xs. xs ++ pairs_of n (greedy first (slots fs) l.lineup.waiting)) (pairs-none n fs h))

    waits : NoneFixed n fs → fixed_slot l.lineup n ≡ None → (o : Option ℕ) → own ≡ o → DoesNot ⊎ ((e : ℕ) × (k : ℕ) × Does e k)
    waits h u None e =
        let w : l.lineup.waiting ≡ others = waiting-is ∙ ap (λ o. with_entry o (has_flight n fs) n others) e in
        let held : held_slot l.lineup n ≡ None = slot_in-after n fs (greedy first (slots fs) l.lineup.waiting) h ∙ (ap (λ ws. slot_in n (greedy first (slots fs) ws)) w ∙ slot-none first (slots fs) n others none) in
        let nobody : pairs_of n (greedy first (slots fs) l.lineup.waiting) ≡ [] =
        ap (λ ws. pairs_of n (greedy first (slots fs) ws)) w ∙ greedy-none (λ f. eqb f n) first (slots fs) others (all-map (λ v. v.flight ≡ n → ⊥) (λ v. eqb v.flight n ≡ false) others (λ v ne. ne_eqb v.flight n ne) none) in
        inl (record {
          waiting = w;
          same = ap (λ o. cond (is_some o) l.lineup (fixed_there (held_slot l.lineup n) n l.lineup)) u ∙ ap (λ o. fixed_there o n l.lineup) held;
          frozen = frozen-by false (has-none n fs h) ∙ ap (λ xs. let q : Regulation = record { id = r.id; spot = r.spot; period = r.period; fixed = insert_all xs fs } in q) (pairs-are h ∙ nobody);
        })
    waits h u (Some e) q =
        let x : Planned = record { entry = e; flight = n } in
        let w : l.lineup.waiting ≡ insert x others = waiting-is ∙ (ap (λ o. with_entry o (has_flight n fs) n others) q ∙ ap (λ b. with_entry (Some e) b n others) (has-none n fs h)) in
        let f = found (λ f. eqb f n) first (slots fs) x others (eq-eqb n n refl) none (all-map (λ v. v.flight ≡ n → ⊥) (λ v. eqb v.flight n ≡ false) others (λ v ne. ne_eqb v.flight n ne) none) in
        inr (
          e,
          f.0,
          record {
            entry = q;
            waiting = w;
            unfixed = u;
            held = slot_in-after n fs (greedy first (slots fs) l.lineup.waiting) h ∙ (ap (λ ws. slot_in n (greedy first (slots fs) ws)) w ∙ f.1.held);
            from = f.1.not_before;
            frozen = frozen-by false (has-none n fs h) ∙ ap (λ xs. let q : Regulation = record { id = r.id; spot = r.spot; period = r.period; fixed = insert_all xs fs } in q) (pairs-are h ∙ (ap (λ ws. pairs_of n (greedy first (slots fs) ws)) w ∙ f.1.picked));
          },
        )

    cases : (o : Option ℕ) → fixed_slot l.lineup n ≡ o → DoesNot ⊎ ((e : ℕ) × (k : ℕ) × Does e k)
    cases None e = waits (slot_in-none n fs e) e own refl
    cases (Some k) e =
        inl (record {
          waiting = waiting-is ∙ (ap (λ b. with_entry own b n others) (has-some n k fs e) ∙ with_entry-kept own n others);
          same = ap (λ o. cond (is_some o) l.lineup (fixed_there (held_slot l.lineup n) n l.lineup)) e;
          frozen = frozen-by true (has-some n k fs e);
        })

  module _ (e k : ℕ) (d : Does e k) where
    abbrev pub pair : Placed
    pair = record { flight = n; slot = k }

    abbrev pub more : List Placed
    more = insert_fixed pair fs

    out : without n l.lineup.waiting ≡ others
    out = ap (without n) d.waiting ∙ without-insert (record { entry = e; flight = n }) others none

    pub is : fixed_waiting n l.lineup ≡ lined l.lineup others more
    is =
        ap (λ o. cond (is_some o) l.lineup (fixed_there (held_slot l.lineup n) n l.lineup)) d.unfixed
        ∙ (ap (λ o. fixed_there o n l.lineup) d.held ∙ ap (λ ws. lined l.lineup ws more) out)

    has-more : (j : ℕ) → has_flight j (mark n ∷ more) ≡ has_flight j (mark n ∷ fs)
    has-more j = ap (λ b. eqb n j || b) (has-insert j pair fs) ∙ twice (eqb n j) (has_flight j fs) where
      twice : (b c : Bool) → (b || (b || c)) ≡ (b || c)
      twice true c = refl
      twice false c = refl

    here : has_flight n more ≡ true
    here = has-insert n pair fs ∙ ap (λ b. b || has_flight n fs) (eq-eqb n n refl)

    waits-more : waiting_from 1 taxi r more plans ≡ others
    waits-more =
        waiting-apart (n - 1) n 1 taxi r more plans (omega (arith, positive))
        ∙ (ap (λ b. with_entry own b n (waiting_from 1 taxi r (mark n ∷ more) plans)) here
        ∙ (with_entry-kept own n (waiting_from 1 taxi r (mark n ∷ more) plans) ∙ waiting-fixed 1 taxi r (mark n ∷ more) (mark n ∷ fs) plans (λ j _. has-more j)))

    pub listed-more : IsListedIn taxi max plans (with_lineup (lined l.lineup others more) l)
    listed-more =
        let again = regulation_of (with_lineup (lined l.lineup others more) l) in
        ap (λ v. lined l.lineup v more) (sym waits-more ∙ waiting-like 1 taxi r again more plans (λ p. refl)) ∙ ap (λ v. let m : Lineup = record { period = l.lineup.period; capacity = v; waiting = waiting_from 1 taxi again more plans; fixed = more } in m) (ap (λ v. v.capacity) listed)

  -- the departing flight keeps the slot that it has
  pub is_frozen : IsFrozen taxi max n plans l (fixed_waiting n l.lineup)
  is_frozen = ⊎_elim not does either where
    not : DoesNot → IsFrozen taxi max n plans l (fixed_waiting n l.lineup)
    not d =
        let F : Lineup → Type 0 = IsFrozen taxi max n plans l in
        subst F (sym d.same) (record {
          regulation = sym d.frozen;
          listed = listed;
          settled_but = λ now s. record {
            fixed = all-map (λ a. (0 < a.flight) × (keeps_pair taxi now plans r a ≡ true)) (λ a. (0 < a.flight) × ((a.flight ≡ n → ⊥) → keeps_pair taxi now plans r a ≡ true)) fs (λ a h. (h.0, λ _. h.1)) s.fixed;
            waiting = all-map (λ w. is_due_flight now plans w.flight ≡ false) (λ w. (w.flight ≡ n → ⊥) → is_due_flight now plans w.flight ≡ false) l.lineup.waiting (λ w h _. h) s.waiting;
          };
        })

    does : (e : ℕ) × (k : ℕ) × Does e k → IsFrozen taxi max n plans l (fixed_waiting n l.lineup)
    does (e, k, d) =
        let F : Lineup → Type 0 = IsFrozen taxi max n plans l in
        let m = more e k d in
        subst F (sym (is e k d)) (record {
          regulation = sym d.frozen;
          listed = listed-more e k d;
          settled_but = λ now s. record {
            fixed = all-insert_fixed (λ a. (0 < a.flight) × ((a.flight ≡ n → ⊥) → keeps_pair taxi now plans r a ≡ true)) (pair e k d) fs (positive, λ ne. absurd (ne refl)) (all-map (λ a. (0 < a.flight) × (keeps_pair taxi now plans r a ≡ true)) (λ a. (0 < a.flight) × ((a.flight ≡ n → ⊥) → keeps_pair taxi now plans r a ≡ true)) fs (λ a h. (h.0, λ _. h.1)) s.fixed);
            waiting =
                let P : Planned → Type 0 = λ w. is_due_flight now plans w.flight ≡ false in
                let Q : List Planned → Type 0 = λ ws. AllByRecursion P ws in
                all-map P (λ w. (w.flight ≡ n → ⊥) → is_due_flight now plans w.flight ≡ false) others (λ w h _. h) (all-with_entry-back P own (has_flight n fs) n others (subst Q waiting-is s.waiting));
          };
        })

  -- of a regulation in which no pair is dropped, what is fixed is settled as before
  module _ (now : ℕ) (stay : AllByRecursion (λ a. (0 < a.flight) × (keeps_pair taxi now plans r a ≡ true)) fs) where
    kept-all : kept_pairs taxi now plans r ≡ fs
    kept-all = filter-all (keeps_pair taxi now plans r) fs (all-map (λ a. (0 < a.flight) × (keeps_pair taxi now plans r a ≡ true)) (λ a. keeps_pair taxi now plans r a ≡ true) fs (λ _ h. h.1) stay)

    abbrev pub new_fixed : List Planned → List Placed → List Placed
    new_fixed ws gs = insert_all (filter (λ (a : Placed). is_due_flight now plans a.flight) (greedy first (slots gs) ws)) gs

    pub settled-is : settled taxi now plans r ≡ record { id = r.id; spot = r.spot; period = r.period; fixed = new_fixed l.lineup.waiting fs }
    unfolding settled
    settled-is =
        let waits : waiting_from 1 taxi r fs plans ≡ l.lineup.waiting = sym (ap (λ v. v.waiting) listed) in
        ap (λ gs. let q : Regulation = record { id = r.id; spot = r.spot; period = r.period; fixed = new_fixed (waiting_from 1 taxi r gs plans) gs } in q) kept-all
        ∙ ap (λ ws. let q : Regulation = record { id = r.id; spot = r.spot; period = r.period; fixed = new_fixed ws fs } in q) waits

    -- if no flight with a provisional slot is due, it is settled
    pub settled-done : AllByRecursion (λ w. is_due_flight now plans w.flight ≡ false) l.lineup.waiting → settled taxi now plans r ≡ r
    settled-done h = settled-is ∙ ap (λ xs. let q : Regulation = record { id = r.id; spot = r.spot; period = r.period; fixed = insert_all xs fs } in q) (greedy-none (is_due_flight now plans) first (slots fs) l.lineup.waiting h)

    module _ (e k : ℕ) (d : Does e k) (due : is_due_flight now plans n ≡ true) (apart : IsLineup l.lineup) (regular : IsRegular l.lineup.period) where
      stays-pair : keeps_pair taxi now plans r (pair e k d) ≡ true
      stays-pair = cases (plan_at plans n) refl d.entry due where
        cases : (o : Option PlanView) → plan_at plans n ≡ o → option_and_then (subject_to taxi r) o ≡ Some e → option_map_or (is_due now) o false ≡ true → keeps_pair taxi now plans r (pair e k d) ≡ true
        cases None at s q = absurd cc
        cases (Some p) at s q =
            let within = subject-within taxi l.spot l.lineup.period.start l.lineup.period.end e p s in
            let late : e ≤ slot_time r.period k = omega (arith, (first_slot-first l.lineup.period e regular within.0).0, slot_time-later l.lineup.period (first_slot r.period e) k regular d.from) in
            let entry : option_map_or (λ entry. leb entry (slot_time r.period k)) (subject_to taxi r p) false ≡ true = ap (λ o. option_map_or (λ entry. leb entry (slot_time r.period k)) o false) s ∙ le-leb e (slot_time r.period k) late in
            ap (λ o. option_map_or (keeps taxi now r k) o false) at ∙ or_right (is_departed p.state) (is_due now p && option_map_or (λ entry. leb entry (slot_time r.period k)) (subject_to taxi r p) false) (and_from (is_due now p) (option_map_or (λ entry. leb entry (slot_time r.period k)) (subject_to taxi r p) false) q entry)

      pub stay-more : AllByRecursion (λ a. (0 < a.flight) × (keeps_pair taxi now plans r a ≡ true)) (more e k d)
      stay-more = all-insert_fixed (λ a. (0 < a.flight) × (keeps_pair taxi now plans r a ≡ true)) (pair e k d) fs (positive, stays-pair) stay

      held-greedy : slot_in n (greedy first (slots fs) l.lineup.waiting) ≡ Some k
      held-greedy = sym (slot_in-after n fs (greedy first (slots fs) l.lineup.waiting) (slot_in-none n fs d.unfixed)) ∙ d.held

      pub same-fixed : new_fixed others (more e k d) ≡ new_fixed l.lineup.waiting fs
      same-fixed =
          ap (λ ws. new_fixed ws (more e k d)) (sym (out e k d))
          ∙ (ap (λ xs. insert_all (filter (λ (a : Placed). is_due_flight now plans a.flight) xs) (more e k d)) (greedy-fixed first fs (slots (more e k d)) (slots fs) n k l.lineup.waiting apart.waiting_apart held-greedy (λ j. slots-insert j (pair e k d) fs))
          ∙ insert_all-first (is_due_flight now plans) first fs (slots fs) n k l.lineup.waiting fs due apart.waiting_apart held-greedy)
