-- For the layer above: what a step of the desk does to the slots and to the advice of the flights
-- that it isn't about.
use Rattle.std.proofs.Common.{◌≡◌, ℕ, ◌+◌, ◌<◌, ◌||◌, ◌&&◌, Bool, true, false, not, cond, leb, List, [], ◌∷◌, ◌++◌, map, length, Option, Some, None, refl, sym, ap, subst, ◌∙◌, arith}
use Rattle.std.specs.List.{AllByRecursion, filter, list_any}
use Rattle.std.specs.Option.{option_map, option_map_or}
use Rattle.std.proofs.lemmas.List.{append-nil}
use Rattle.std.proofs.lemmas.Slice.Eq.{bytes_eq-Decides}
use Rattle.std.specs.Str.{bytes_eq}
use Rattle.std.proofs.lemmas.Bool.{eq-eqb, and_parts, true≢false, false≢true}
use Rattle.flow_plans.specs.Plans.{PlanView, plan_at, is_filed, is_departed}
use Rattle.flow_plans.specs.declared.plan.PlanState.{PlanState}
use Rattle.flow_plans.specs.declared.plan.PlanState.TheVariants as state
use Rattle.flow_slots.specs.Period.{slot_time}
use Rattle.flow_slots.specs.Assignment.{Placed, is_in}
use Rattle.flow_slots.specs.Lineup.{assigned}
use Rattle.flow_regulations.specs.declared.notice.Told.{Told}
use Rattle.flow_regulations.specs.Regulations.{Regulation, subject_to, has_flight, lineup_of}
use Rattle.flow_regulations.specs.Settling.{is_due, keeps, keeps_pair, insert_all, settled, frozen_at_departure, pairs_of, is_due_flight}
use Rattle.flow_regulations.specs.Listing.{RegulationView, regulation_of, IsListedIn, IsListed, IsSettledIn, IsSettled, IsOpened, AreSameBut, is_named, without_named, pairs_in}
use Rattle.flow_regulations.specs.Advice.{caused_by, delay_in, worse, worst, advice}
use Rattle.flow_regulations.specs.Quiet.{told_at, AreQuietBut, AllQuiet, HasSameSlots}
use Rattle.flow_regulations.proofs.FixedOnes.{all-map}
use Rattle.flow_regulations.proofs.Fixes.{pairs-none, settled-done}
use Rattle.flow_regulations.proofs.Names.{settled-name}
use Rattle.flow_regulations.proofs.Stays.{advice-same, advice-other, caused-none, quiet-untouched}

-- a change of regulations that leaves their names, points and periods
keeps-mapped : (f : ℕ) (g : Regulation → Regulation) → ((r : Regulation) → (r.id ≡ (g r).id) × (r.spot ≡ (g r).spot) × (r.period ≡ (g r).period)) → (old new : List RegulationView) → map regulation_of new ≡ map g (map regulation_of old) → pairs_in f new ≡ pairs_in f old → HasSameSlots f (map regulation_of old) (map regulation_of new)
keeps-mapped f g h [] [] e p = tt
keeps-mapped f g h [] (n ∷ ns) e p = absurd cc
keeps-mapped f g h (o ∷ os) [] e p = absurd cc
keeps-mapped f g h (o ∷ os) (n ∷ ns) e p =
    let here : regulation_of n ≡ g (regulation_of o) = cc in
    let rest : map regulation_of ns ≡ map g (map regulation_of os) = cc in
    let pair : pairs_of f n.lineup.fixed ≡ pairs_of f o.lineup.fixed = cc in
    let pairs : pairs_in f ns ≡ pairs_in f os = cc in
    let same = h (regulation_of o) in (
      same.0 ∙ ap (λ r. r.id) (sym here),
      same.1 ∙ ap (λ r. r.spot) (sym here),
      same.2 ∙ ap (λ r. r.period) (sym here),
      sym pair,
      keeps-mapped f g h os ns rest pairs,
    )

pub kept-slots-settled : (f taxi now : ℕ) (plans : List PlanView) (old new : List RegulationView) → map regulation_of new ≡ map (settled taxi now plans) (map regulation_of old) → pairs_in f new ≡ pairs_in f old → HasSameSlots f (map regulation_of old) (map regulation_of new)
unfolding settled
kept-slots-settled f taxi now plans old new e p = keeps-mapped f (settled taxi now plans) (λ r. (refl, refl, refl)) old new e p

frozen-same : (taxi max flight : ℕ) (before : List PlanView) (r : Regulation) → (r.id ≡ (frozen_at_departure taxi max before flight r).id) × (r.spot ≡ (frozen_at_departure taxi max before flight r).spot) × (r.period ≡ (frozen_at_departure taxi max before flight r).period)
unfolding frozen_at_departure
frozen-same taxi max flight before r = cases (has_flight flight r.fixed) (record r { fixed = insert_all (pairs_of flight (assigned (lineup_of taxi max before r))) r.fixed }) (refl, refl, refl) where
  cases : (b : Bool) (s : Regulation) → (r.id ≡ s.id) × (r.spot ≡ s.spot) × (r.period ≡ s.period) → (r.id ≡ (cond b r s).id) × (r.spot ≡ (cond b r s).spot) × (r.period ≡ (cond b r s).period)
  cases true s h = (refl, refl, refl)
  cases false s h = h

pub kept-slots-frozen : (f taxi max : ℕ) (before : List PlanView) (flight : ℕ) (old new : List RegulationView) → map regulation_of new ≡ map (frozen_at_departure taxi max before flight) (map regulation_of old) → pairs_in f new ≡ pairs_in f old → HasSameSlots f (map regulation_of old) (map regulation_of new)
kept-slots-frozen f taxi max before flight old new e p = keeps-mapped f (frozen_at_departure taxi max before flight) (frozen-same taxi max flight before) old new e p

-- a settled regulation is settled to itself
pub already-settled : (taxi max now : ℕ) (plans : List PlanView) (ls : List RegulationView) → IsListed taxi max plans ls → IsSettled taxi now plans ls → map (settled taxi now plans) (map regulation_of ls) ≡ map regulation_of ls
already-settled taxi max now plans [] h s = refl
already-settled taxi max now plans (l ∷ ls) h s =
    ap (λ r. r ∷ map (settled taxi now plans) (map regulation_of ls)) (settled-done taxi max 1 plans l h.0 (omega arith) now s.0.fixed s.0.waiting)
    ∙ ap (λ rs. regulation_of l ∷ rs) (already-settled taxi max now plans ls h.1 s.1)

-- a flight that is neither due nor departed has no frozen slot
pub nothing-to-advise : (taxi now : ℕ) (plans : List PlanView) (ls : List RegulationView) (f : ℕ) → IsSettled taxi now plans ls → is_due_flight now plans f ≡ false → option_map_or (λ p. is_departed p.state) (plan_at plans f) false ≡ false → AllByRecursion (λ r. pairs_of f r.fixed ≡ []) (map regulation_of ls)
nothing-to-advise taxi now plans [] f s due gone = tt
nothing-to-advise taxi now plans (l ∷ ls) f s due gone =
    (pairs-none f l.lineup.fixed (all-map (λ a. (0 < a.flight) × (keeps_pair taxi now plans (regulation_of l) a ≡ true)) (λ a. a.flight ≡ f → ⊥) l.lineup.fixed (λ a h e. goes a e h.1) s.0.fixed), nothing-to-advise taxi now plans ls f s.1 due gone)
  where
    leaves : (a : Placed) (o : Option PlanView) → option_map_or (is_due now) o false ≡ false → option_map_or (λ p. is_departed p.state) o false ≡ false → option_map_or (keeps taxi now (regulation_of l) a.slot) o false ≡ true → ⊥
    leaves a None d g e = false≢true e
    leaves a (Some p) d g e = false≢true (sym (ap (λ b. b || (is_due now p && option_map_or (λ entry. leb entry (slot_time l.lineup.period a.slot)) (subject_to taxi (regulation_of l) p) false)) g ∙ ap (λ b. b && option_map_or (λ entry. leb entry (slot_time l.lineup.period a.slot)) (subject_to taxi (regulation_of l) p) false) d) ∙ e)

    goes : (a : Placed) → a.flight ≡ f → keeps_pair taxi now plans (regulation_of l) a ≡ true → ⊥
    goes a e h = leaves a (plan_at plans f) due gone (ap (λ j. option_map_or (keeps taxi now (regulation_of l) a.slot) (plan_at plans j) false) (sym e) ∙ h)

-- one more of which it holds
pub all-last : {X : Type 0} (P : X → Type 0) (xs : List X) (x : X) → AllByRecursion P xs → P x → AllByRecursion P (xs ++ x ∷ [])
all-last P [] x a h = (h, tt)
all-last P (y ∷ ys) x a h = (a.0, all-last P ys x a.1 h)

map-last : {X Y : Type 0} (g : X → Y) (xs : List X) (x : X) → map g (xs ++ x ∷ []) ≡ map g xs ++ g x ∷ []
map-last g [] x = refl
map-last g (y ∷ ys) x = ap (λ vs. g y ∷ vs) (map-last g ys x)

-- opening a regulation leaves all listed and settled
pub opened-listed : (taxi max now : ℕ) (plans : List PlanView) (r : Regulation) (lists new : List RegulationView) → IsOpened taxi max now plans r lists new → IsListed taxi max plans lists → IsListed taxi max plans new
opened-listed taxi max now plans r lists new o h =
    let P : List RegulationView → Type 0 = IsListed taxi max plans in
    subst P (sym o.1) (all-last (IsListedIn taxi max plans) lists o.0 h o.3)

pub opened-settled : (taxi max now : ℕ) (plans : List PlanView) (r : Regulation) (lists new : List RegulationView) → IsOpened taxi max now plans r lists new → IsSettled taxi now plans lists → IsSettled taxi now plans new
opened-settled taxi max now plans r lists new o h =
    let P : List RegulationView → Type 0 = IsSettled taxi now plans in
    subst P (sym o.1) (all-last (IsSettledIn taxi now plans) lists o.0 h o.4)

pub opened-regulations : (taxi max now : ℕ) (plans : List PlanView) (r : Regulation) (lists new : List RegulationView) → IsOpened taxi max now plans r lists new → map regulation_of new ≡ map regulation_of lists ++ settled taxi now plans r ∷ []
opened-regulations taxi max now plans r lists new o =
    ap (map regulation_of) o.1 ∙ (map-last regulation_of lists o.0 ∙ ap (λ v. map regulation_of lists ++ v ∷ []) o.2)

-- shutting a regulation
pub shut-regulations : (id : List ℕ) (ls : List RegulationView) → map regulation_of (without_named id ls) ≡ filter (λ r. not (bytes_eq r.id id)) (map regulation_of ls)
shut-regulations id [] = refl
shut-regulations id (l ∷ ls) = cases (shut-regulations id ls) (not (is_named id l)) where
  cases : map regulation_of (without_named id ls) ≡ filter (λ r. not (bytes_eq r.id id)) (map regulation_of ls) → (b : Bool)
      → map regulation_of (cond b (l ∷ without_named id ls) (without_named id ls)) ≡ cond b (regulation_of l ∷ filter (λ r. not (bytes_eq r.id id)) (map regulation_of ls)) (filter (λ r. not (bytes_eq r.id id)) (map regulation_of ls))
  cases again true = ap (λ rs. regulation_of l ∷ rs) again
  cases again false = again

worst-without : (taxi f : ℕ) (p : PlanView) (id : List ℕ) (ls : List RegulationView) → AllByRecursion (λ l. is_named id l ≡ true → pairs_of f l.lineup.fixed ≡ []) ls → worst taxi f p (map regulation_of (without_named id ls)) ≡ worst taxi f p (map regulation_of ls)
worst-without taxi f p id [] h = refl
worst-without taxi f p id (l ∷ ls) h = cases (worst-without taxi f p id ls h.1) (is_named id l) h.0 where
  cases : worst taxi f p (map regulation_of (without_named id ls)) ≡ worst taxi f p (map regulation_of ls) → (b : Bool) → (b ≡ true → pairs_of f l.lineup.fixed ≡ [])
      → worst taxi f p (map regulation_of (cond (not b) (l ∷ without_named id ls) (without_named id ls))) ≡ worst taxi f p (regulation_of l ∷ map regulation_of ls)
  cases again true none = again ∙ sym (ap (λ d. worse d (worst taxi f p (map regulation_of ls))) (caused-none taxi f p (regulation_of l) (none refl)))
  cases again false none = ap (λ d. worse (option_map (caused_by (regulation_of l)) (delay_in taxi f p (regulation_of l))) d) again

pub advice-without : (taxi f : ℕ) (p : PlanView) (id : List ℕ) (ls : List RegulationView) → AllByRecursion (λ l. is_named id l ≡ true → pairs_of f l.lineup.fixed ≡ []) ls → advice taxi f p (map regulation_of (without_named id ls)) ≡ advice taxi f p (map regulation_of ls)
unfolding advice
advice-without taxi f p id ls h = ap (option_map _) (worst-without taxi f p id ls h)

-- the names, and how many
pub named-regulations : (id : List ℕ) (ls : List RegulationView) → list_any (is_named id) ls ≡ list_any (λ r. bytes_eq r.id id) (map regulation_of ls)
named-regulations id [] = refl
named-regulations id (l ∷ ls) = ap (λ b. bytes_eq l.id id || b) (named-regulations id ls)

pub count-regulations : (ls : List RegulationView) → length (map regulation_of ls) ≡ length ls
count-regulations [] = refl
count-regulations (l ∷ ls) = (let again = count-regulations ls in omega arith)

-- a number that isn't the one
apart : (f n : ℕ) → is_in f (n ∷ []) ≡ false → f ≡ n → ⊥
apart f n out e = true≢false (sym (ap (λ b. b || false) (eq-eqb n f (sym e))) ∙ out)

-- a message about one flight, which leaves the slots of all others
pub quiet-but-one : (n taxi : ℕ) (before after : List Regulation) (plans plans_after : List PlanView) (told told_after : List (Option Told)) → AreSameBut n plans plans_after → ((f : ℕ) → 0 < f → (f ≡ n → ⊥) → told_at told_after f ≡ told_at told f) → ((f : ℕ) → 0 < f → (f ≡ n → ⊥) → HasSameSlots f before after) → AllQuiet taxi before plans told → AreQuietBut (n ∷ []) taxi after plans_after told_after
quiet-but-one n taxi before after plans plans_after told told_after same told_same keep quiet f positive out =
    let ne = apart f n out in
    quiet-untouched taxi f before plans told after plans_after told_after
    (same f positive ne, told_same f positive ne, λ p _. advice-same taxi f p before after (keep f positive ne)) (quiet f positive)

-- flights that became due were fixed, and the slots of all others stayed
pub quiet-but-due : (taxi : ℕ) (changed : List ℕ) (before after : List Regulation) (plans : List PlanView) (told : List (Option Told)) → ((f : ℕ) → is_in f changed ≡ false → HasSameSlots f before after) → AllQuiet taxi before plans told → AreQuietBut changed taxi after plans told
quiet-but-due taxi changed before after plans told keep quiet f positive out =
    quiet-untouched taxi f before plans told after plans told (refl, refl, λ p _. advice-same taxi f p before after (keep f out)) (quiet f positive)

-- a flight that is due now and was not due earlier had no frozen slot
pub newly-due-unfixed : (taxi earlier now f : ℕ) (plans : List PlanView) (ls : List RegulationView) → IsSettled taxi earlier plans ls → is_due_flight earlier plans f ≡ false → is_due_flight now plans f ≡ true → AllByRecursion (λ r. pairs_of f r.fixed ≡ []) (map regulation_of ls)
newly-due-unfixed taxi earlier now f plans ls s then_not now_is = nothing-to-advise taxi earlier plans ls f s then_not (filed (plan_at plans f) now_is) where
  apart-states : (p : PlanView) → is_filed p.state ≡ true → is_departed p.state ≡ false
  apart-states p e = cases p.state e where
    cases : (v : PlanState) → is_filed v ≡ true → is_departed v ≡ false
    cases state.Filed e = refl
    cases state.Departed e = absurd cc
    cases state.Cancelled e = refl

  filed : (o : Option PlanView) → option_map_or (is_due now) o false ≡ true → option_map_or (λ p. is_departed p.state) o false ≡ false
  filed None e = refl
  filed (Some p) e = apart-states p (and_parts (is_filed p.state) (leb p.off_block (now + 120)) e).0

-- a regulation is shut: of the other flights than those with frozen slots in it the advice stays
pub quiet-but-shut : (taxi : ℕ) (id : List ℕ) (ls : List RegulationView) (plans : List PlanView) (told : List (Option Told)) (changed : List ℕ) → ((f : ℕ) → is_in f changed ≡ false → AllByRecursion (λ l. is_named id l ≡ true → pairs_of f l.lineup.fixed ≡ []) ls) → AllQuiet taxi (map regulation_of ls) plans told → AreQuietBut changed taxi (map regulation_of (without_named id ls)) plans told
quiet-but-shut taxi id ls plans told changed none quiet f positive out =
    quiet-untouched taxi f (map regulation_of ls) plans told (map regulation_of (without_named id ls)) plans told (refl, refl, λ p _. advice-without taxi f p id ls (none f out)) (quiet f positive)

last-of : {X : Type 0} (P : X → Type 0) (xs : List X) (x : X) → AllByRecursion P (xs ++ x ∷ []) → P x
last-of P [] x a = a.0
last-of P (y ∷ ys) x a = last-of P ys x a.1

-- a regulation is opened: of the other flights than those with frozen slots in it the advice stays
pub quiet-but-opened : (taxi max now : ℕ) (plans : List PlanView) (r : Regulation) (lists new : List RegulationView) (told : List (Option Told)) (changed : List ℕ) → IsOpened taxi max now plans r lists new
    → ((f : ℕ) → is_in f changed ≡ false → AllByRecursion (λ l. is_named r.id l ≡ true → pairs_of f l.lineup.fixed ≡ []) new) → AllQuiet taxi (map regulation_of lists) plans told → AreQuietBut changed taxi (map regulation_of new) plans told
quiet-but-opened taxi max now plans r lists new told changed o none quiet f positive out =
    let P : RegulationView → Type 0 = λ l. is_named r.id l ≡ true → pairs_of f l.lineup.fixed ≡ [] in
    let A : List RegulationView → Type 0 = λ ls. AllByRecursion P ls in
    let id : o.0.id ≡ r.id = ap (λ v. v.id) o.2 ∙ settled-name taxi now plans r in
    let named : is_named r.id o.0 ≡ true = (bytes_eq-Decides o.0.id r.id).1 id in
    let pairs : pairs_of f o.0.lineup.fixed ≡ [] = last-of P lists o.0 (subst A o.1 (none f out)) named in
    let regulations : map regulation_of new ≡ map regulation_of lists ++ regulation_of o.0 ∷ [] = ap (map regulation_of) o.1 ∙ map-last regulation_of lists o.0 in
    quiet-untouched taxi f (map regulation_of lists) plans told (map regulation_of new) plans told
    (refl, refl, λ p _. ap (advice taxi f p) regulations ∙ (advice-other taxi f p (regulation_of o.0) (map regulation_of lists) [] pairs ∙ ap (advice taxi f p) (append-nil (map regulation_of lists)))) (quiet f positive)
