-- What was before the last reading, as it is undone.
use Rattle.std.proofs.Common.{◌≡◌, ◌∙◌, ◌+◌, ◌-◌, ◌<◌, ◌≤◌, ℕ, zero, suc, List, [], ◌∷◌, ◌++◌, length, length-append, map, take, drop, get_or, refl, sym, ap, subst, arith, Bool, true, false, cond, Option, Some, None, IfSome, IfNone}
use Rattle.std.specs.List.{All, insert, list_any}
use Rattle.std.specs.Option.{option_map_or, is_some}
use Rattle.std.proofs.lemmas.Bool.{true≢false}
use Rattle.std.proofs.lemmas.List.{take_more}
use Rattle.std.proofs.lemmas.List.Elements.{All-nil, All-push}
use Rattle.std.proofs.Math.Seq.{take-length, take-append_seam}
use Rattle.flow_plans.specs.declared.plan.Status.{Status}
use Rattle.flow_plans.specs.Plans.{PlanView, plan_at, status_at}
use Rattle.flow_plans.specs.Stores.{PlanStoreView}
use Rattle.flow_slots.specs.Lineup.{Lineup, fixed_slot, with_waiting, without_flight}
use Rattle.flow_regulations.specs.declared.notice.Told.{Told}
use Rattle.flow_regulations.specs.declared.notice.Notice.{Notice}
use Rattle.flow_regulations.specs.declared.slot_state.NotedPlace.{NotedPlace}
use Rattle.flow_regulations.specs.Regulations.{Regulation, subject_to}
use Rattle.flow_regulations.specs.Awaiting.{Covers, HaveBecomeDue}
use Rattle.flow_regulations.specs.Listing.{ClosedView, IsOpened, is_named, RegulationView, RegulationsView, regulation_of, with_lineup, without_in, with_fixed_waiting, released, released_in, IsReleased, Walked, HoldNewlyDue}
use Rattle.flow_regulations.specs.SlotStates.{stood, place_at, IsPlaceOf, ArePlaces}
use Rattle.flow_regulations.proofs.PutBack.{stood-there}
use Rattle.flow_regulations.proofs.Queues.{due-there, became-within}
use Rattle.flow_regulations.proofs.Released.{release-step}
use Rattle.flow_traffic.specs.declared.undo.Last.{Last}
use Rattle.flow_traffic.specs.declared.undo.Last.TheVariants as reading
use Rattle.flow_traffic.specs.Traffic.{Traffic}
use Rattle.flow_traffic.specs.State.{TrafficState, traffic_of}
use Rattle.flow_traffic.specs.Kept.{IsKeptState}
use Rattle.flow_traffic.specs.Reopening.{open_again}
use Rattle.flow_traffic.specs.Telling.{told_again}
use Rattle.flow_traffic.specs.Undoing.{UndoingView, has_changed, told_past, traffic_past, stood_again, waiting_again, all_waiting_again, before_last, state_past, undone_traffic, CanUndo, IsAgain, AreNoted, WasKept, IsKeptWith}
use Rattle.flow_traffic.specs.Answers.{told_to}
use Rattle.flow_traffic.proofs.Both.{some-same}
use Rattle.flow_traffic.proofs.ToldAgain.{told_to-undone}

abbrev head-of : RegulationView → List RegulationView → RegulationView
head-of d [] = d
head-of d (l ∷ ls) = l

-- a flight has its former slots again
stands-from : (n i : ℕ) (ps : List NotedPlace) (ls bs : List RegulationView) → ((k : ℕ) (d : RegulationView) → k < length bs → IsPlaceOf n (place_at ps (i + k)) (get_or bs k d)) → map (without_in n) ls ≡ map (without_in n) bs → stood_again n i ps ls ≡ bs
stands-from n i ps [] [] h e = refl
stands-from n i ps [] (b ∷ bs) h e = absurd cc
stands-from n i ps (l ∷ ls) [] h e = absurd cc
stands-from n i ps (l ∷ ls) (b ∷ bs) h e =
    let here : without_in n l ≡ without_in n b = ap (λ xs. head-of l xs) e in
    let rest : map (without_in n) ls ≡ map (without_in n) bs = ap (λ (xs : List RegulationView). drop 1 xs) e in
    let P : ℕ → Type 0 = λ k. IsPlaceOf n (place_at ps k) b in
    let start : i + 0 ≡ i = omega arith in
    let first : IsPlaceOf n (place_at ps i) b = subst P start (h 0 b (omega arith)) in
    let later : (k : ℕ) (d : RegulationView) → k < length bs → IsPlaceOf n (place_at ps (suc i + k)) (get_or bs k d) =
    λ k d less. (let Q : ℕ → Type 0 = λ m. IsPlaceOf n (place_at ps m) (get_or bs k d) in let next : i + suc k ≡ suc i + k = omega arith in subst Q next (h (suc k) d (omega (arith, less)))) in
    ap (λ x. x ∷ stood_again n (suc i) ps ls) (stood-there n (place_at ps i) l (without_in n l) (with_lineup (stood (place_at ps i) n (without_flight n l.lineup)) l) b first here refl refl)
    ∙ ap (λ xs. b ∷ xs) (stands-from n (suc i) ps ls bs later rest)

pub stands-again : (n : ℕ) (ps : List NotedPlace) (ls bs : List RegulationView) → ArePlaces n ps bs → map (without_in n) ls ≡ map (without_in n) bs → stood_again n 0 ps ls ≡ bs
stands-again n ps ls bs h e =
    stands-from n 0 ps ls bs (λ k d less. (let P : ℕ → Type 0 = λ m. IsPlaceOf n (place_at ps m) (get_or bs k d) in let same : k ≡ 0 + k = omega arith in subst P same (h k d less))) e

-- ---- flights that became due have provisional slots again

keeps-capacity : (o : Option ℕ) (n : ℕ) (l : Lineup) → (released o n l).capacity ≡ l.capacity
keeps-capacity None n l = refl
keeps-capacity (Some e) n l = by (is_some (fixed_slot l n)) where
  by : (b : Bool) → (cond b (with_waiting (record { entry = e; flight = n }) (without_flight n l)) l).capacity ≡ l.capacity
  by true = refl
  by false = refl

released-walk : (taxi n : ℕ) (plans : List PlanView) (p : PlanView) (ls : List RegulationView) → plan_at plans n ≡ Some p
    → Walked (IsReleased n taxi plans) (length (map (released_in taxi p n) ls)) ls (map (released_in taxi p n) ls)
released-walk taxi n plans p [] at = refl
released-walk taxi n plans p (l ∷ ls) at = (
  record {
    same = λ q there. ap (λ (r : PlanView). released_in taxi r n l) (some-same (plan_at plans n) p q at there);
    id = refl;
    capacity = keeps-capacity (subject_to taxi (regulation_of l) p) n l.lineup;
  },
  released-walk taxi n plans p ls at,
)

all-last : (taxi n : ℕ) (plans : List PlanView) (ns : List ℕ) (ls : List RegulationView) → all_waiting_again taxi plans (ns ++ n ∷ []) ls ≡ all_waiting_again taxi plans ns (waiting_again taxi plans n ls)
all-last taxi n plans [] ls = refl
all-last taxi n plans (m ∷ ns) ls = ap (λ xs. waiting_again taxi plans m xs) (all-last taxi n plans ns ls)

none-fixed : (ls : List RegulationView) → map (with_fixed_waiting []) ls ≡ ls
none-fixed [] = refl
none-fixed (l ∷ ls) = ap (λ xs. l ∷ xs) (none-fixed ls)

waiting-first : (taxi max earlier now : ℕ) (plans : List PlanView) (due : List ℕ) (before : List RegulationView) → HaveBecomeDue taxi max earlier now plans due before → (j : ℕ) → j ≤ length due
    → all_waiting_again taxi plans (take j due) (map (with_fixed_waiting (take j due)) before) ≡ before
waiting-first taxi max earlier now plans due before h zero within = none-fixed before
waiting-first taxi max earlier now plans due before h (suc j) within =
    let n : ℕ = get_or due j 0 in
    let inside : j < length due = omega (arith, within) in
    let b = h.became j 0 inside in
    let p = due-there now n plans b.1 in
    let next : suc j ≡ j + 1 = omega arith in
    let ms : List RegulationView = map (with_fixed_waiting (take (j + 1) due)) before in
    let step = release-step taxi max earlier now j plans due before ms (map (released_in taxi p.0 n) ms) h inside refl (released-walk taxi n plans p.0 ms p.1) in
    ap (λ k. all_waiting_again taxi plans (take k due) (map (with_fixed_waiting (take k due)) before)) next
    ∙ ap (λ ns. all_waiting_again taxi plans ns ms) (take_more due j 0 inside)
    ∙ all-last taxi n plans (take j due) ms
    ∙ ap (λ (o : Option PlanView). all_waiting_again taxi plans (take j due) (option_map_or (λ q. map (released_in taxi q n) ms) o ms)) p.1
    ∙ ap (λ xs. all_waiting_again taxi plans (take j due) xs) step
    ∙ waiting-first taxi max earlier now plans due before h j (omega (arith, within))

pub waits-again : (taxi max earlier now : ℕ) (plans : List PlanView) (due : List ℕ) (before lists : List RegulationView) → HaveBecomeDue taxi max earlier now plans due before → lists ≡ map (with_fixed_waiting due) before
    → all_waiting_again taxi plans due lists ≡ before
waits-again taxi max earlier now plans due before lists h is =
    ap (λ xs. all_waiting_again taxi plans due xs) is
    ∙ sym (ap (λ ns. all_waiting_again taxi plans ns (map (with_fixed_waiting ns) before)) (take-length due))
    ∙ waiting-first taxi max earlier now plans due before h (length due) (omega arith)

-- ---- what can be undone

pub plans-before : (store : PlanStoreView) (plans : List PlanView) → store.before ≡ Some plans → option_map_or (λ ps. ps) store.before [] ≡ plans
plans-before store plans e = ap (λ (o : Option (List PlanView)). option_map_or (λ ps. ps) o []) e

pub can-forget : (n : ℕ) (r : UndoingView) (s : TrafficState) (plans : List PlanView) (lists : List RegulationView)
    → 0 < n → n ≤ s.listing.max_plans → s.store.before ≡ Some plans → ArePlaces n r.places lists → map (without_in n) s.listing.lists ≡ map (without_in n) lists → Covers s.time plans s.queue.flights
    → CanUndo (reading.Message n) r s
can-forget n r s plans lists some room before stand alone covers =
    let stood = sym (stands-again n r.places s.listing.lists lists stand alone) in
    let ended = sym (plans-before s.store plans before) in
    record {
      some = some;
      room = room;
      before = before ∙ ap Some ended;
      stand = (let P : List RegulationView → Type 0 = λ ls. ArePlaces n r.places ls in subst P stood stand);
      alone = alone ∙ ap (λ ls. map (without_in n) ls) stood;
      covers = (let P : List PlanView → Type 0 = λ ps. Covers s.time ps s.queue.flights in subst P ended covers);
    }

pub can-go-back : (earlier : ℕ) (r : UndoingView) (s : TrafficState) (lists : List RegulationView)
    → HaveBecomeDue s.store.taxi s.listing.max_plans earlier s.time s.store.plans r.changed lists → s.listing.lists ≡ map (with_fixed_waiting r.changed) lists
    → HoldNewlyDue earlier s.time s.store.plans r.changed → Covers s.time s.store.plans s.queue.flights → length s.queue.flights + length r.changed ≤ s.queue.room
    → CanUndo (reading.Time earlier) r s
can-go-back earlier r s lists due fixed hold covers room =
    let was = sym (waits-again s.store.taxi s.listing.max_plans earlier s.time s.store.plans r.changed lists s.listing.lists due fixed) in
    record {
      due = (let P : List RegulationView → Type 0 = λ ls. HaveBecomeDue s.store.taxi s.listing.max_plans earlier s.time s.store.plans r.changed ls in subst P was due);
      fixed = fixed ∙ ap (λ ls. map (with_fixed_waiting r.changed) ls) was;
      within = became-within _ _ _ _ due.became;
      hold = hold;
      covers = covers;
      room = room;
    }

before-last : (lists new : List RegulationView) (l : RegulationView) → new ≡ lists ++ l ∷ [] → before_last new ≡ lists
before-last lists new l e =
    let count : length (lists ++ l ∷ []) - 1 ≡ length lists = omega (arith, length-append lists (l ∷ [])) in
    ap before_last e ∙ ap (λ k. take k (lists ++ l ∷ [])) count ∙ take-append_seam lists (l ∷ [])

pub was-opened : (taxi max now : ℕ) (plans : List PlanView) (r : Regulation) (lists new : List RegulationView) → IsOpened taxi max now plans r lists new → before_last new ≡ lists
was-opened taxi max now plans r lists new h = before-last lists new h.0 h.1

pub can-unopen : (taxi max now : ℕ) (plans : List PlanView) (r : Regulation) (lists new : List RegulationView) → IsOpened taxi max now plans r lists new → (l : RegulationView) × (new ≡ before_last new ++ l ∷ [])
can-unopen taxi max now plans r lists new h = (h.0, h.1 ∙ ap (λ ls. ls ++ h.0 ∷ []) (sym (before-last lists new h.0 h.1)))

pub opened-count : (taxi max now : ℕ) (plans : List PlanView) (r : Regulation) (lists new : List RegulationView) → IsOpened taxi max now plans r lists new → length new ≡ length lists + 1
opened-count taxi max now plans r lists new h = ap length h.1 ∙ length-append lists (h.0 ∷ [])

pub was-shut : (id : List ℕ) (lists : List RegulationView) (new : RegulationsView) (closed : Option ClosedView) → list_any (is_named id) lists ≡ true
    → IfNone closed (list_any (is_named id) lists ≡ false) → IfSome closed (λ c. lists ≡ insert new.lists c.index c.listed) → open_again closed new.lists ≡ lists
was-shut id lists new None is none was = absurd (true≢false (sym is ∙ none))
was-shut id lists new (Some c) is none was = sym was

-- what was kept before
pub was-kept : (r : UndoingView) (s p old : TrafficState) (told old_told : List (Option Told)) → IsAgain p old → told_past r p told ≡ old_told → IsKeptState old old_told
    → length r.noted ≡ length r.changed → All (λ n. (0 < n) × (n ≤ length told)) r.changed → AreNoted r s.store.plans old.store.plans old_told
    → WasKept r s p told
was-kept r s p old told old_told h e k each numbers changes = record {
  each = each;
  numbers = numbers;
  changes = rw (e, sym h.plans) changes;
  kept = λ queue covers. record {
    desk_time = rw (sym h.time) k.desk_time;
    limit = sym h.limit ∙ k.limit ∙ h.most;
    few = rw (sym h.lists) k.few;
    room = rw (sym h.plans, sym h.most) k.room;
    most = rw (sym h.most) k.most;
    each = rw (e, sym h.plans) k.each;
    listed = rw (sym h.plans, sym h.lists, sym h.taxi, sym h.limit) k.listed;
    settled_in = rw (sym h.time, sym h.plans, sym h.lists, sym h.taxi) k.settled_in;
    covers = covers;
    quiet = rw (e, sym h.plans, sym h.lists, sym h.taxi) k.quiet;
  };
}

pub traffic-before : (r : UndoingView) (p old : TrafficState) (told old_told : List (Option Told)) (notices old_notices : List Notice) → IsAgain p old → told_past r p told ≡ old_told → take r.issued notices ≡ old_notices
    → traffic_past r p told notices ≡ traffic_of old old_told old_notices
traffic-before r p old told old_told notices old_notices h e n = rw (e, n, sym h.time, sym h.plans, sym h.lists, sym h.taxi, sym h.most) refl

-- the notices of the last reading are removed
pub notices-before : (old new more : List Notice) (count : ℕ) → new ≡ old ++ more → count ≡ length old → take count new ≡ old
notices-before old new more count e c = ap (λ (ns : List Notice). take count ns) e ∙ ap (λ k. take k (old ++ more)) c ∙ take-append_seam old more

-- the CTOTs issued before
pub told-before : (r : UndoingView) (p : TrafficState) (told mid old_told : List (Option Told)) (plans old_plans : List PlanView)
    → p.store.plans ≡ old_plans → told_again r.changed r.noted told ≡ mid → mid ≡ told_to plans old_told
    → length old_told ≡ length old_plans → length old_plans ≤ length plans → length plans ≤ length old_plans + 1 → told_past r p told ≡ old_told
told-before r p told mid old_told plans old_plans e again place each one more =
    ap (λ (ps : List PlanView). take (length ps) (told_again r.changed r.noted told)) e
    ∙ ap (λ (ts : List (Option Told)). take (length old_plans) ts) (again ∙ place)
    ∙ told_to-undone plans old_told (length old_plans) each one more

-- and if the plans are the same
pub told-back : (r : UndoingView) (p : TrafficState) (told old_told : List (Option Told)) (plans : List PlanView)
    → p.store.plans ≡ plans → told_again r.changed r.noted told ≡ old_told → length old_told ≡ length plans → told_past r p told ≡ old_told
told-back r p told old_told plans e again each =
    ap (λ (ps : List PlanView). take (length ps) (told_again r.changed r.noted told)) e
    ∙ ap (λ (ts : List (Option Told)). take (length plans) ts) again
    ∙ ap (λ k. take k old_told) (sym each) ∙ take-length old_told

-- one number
pub one-within : (n count : ℕ) (changed : List ℕ) → changed ≡ n ∷ [] → 0 < n → n ≤ count → All (λ m. (0 < m) × (m ≤ count)) changed
one-within n count changed e some within =
    let P : ℕ → Type 0 = λ m. (0 < m) × (m ≤ count) in
    let Q : List ℕ → Type 0 = λ ms. All P ms in
    subst Q (sym e) (All-push P [] n (All-nil P) (some, within))

-- ---- undoing

pub kept-again : (p s : TrafficState) (told new_told : List (Option Told)) → IsKeptState (record p { queue = s.queue }) told → IsAgain p s → new_told ≡ told → IsKeptState s new_told
kept-again p s told new_told k h e = record {
  desk_time = rw h.time k.desk_time;
  limit = h.limit ∙ k.limit ∙ sym h.most;
  few = rw h.lists k.few;
  room = rw (h.plans, h.most) k.room;
  most = rw h.most k.most;
  each = rw (e, h.plans) k.each;
  listed = rw (h.taxi, h.plans, h.limit, h.lists) k.listed;
  settled_in = rw (h.time, h.taxi, h.plans, h.lists) k.settled_in;
  covers = h.covers;
  quiet = rw (e, h.taxi, h.plans, h.lists) k.quiet;
}

-- a reading that changed nothing can be undone
nothing-can : (which : Last) (r : UndoingView) (s : TrafficState) → has_changed which ≡ false → CanUndo which r s
nothing-can reading.Nothing r s e = tt
nothing-can reading.Refused r s e = tt
nothing-can (reading.Message n) r s e = absurd (true≢false e)
nothing-can (reading.Time earlier) r s e = absurd (true≢false e)
nothing-can reading.Open r s e = absurd (true≢false e)
nothing-can reading.Shut r s e = absurd (true≢false e)

pub kept-with-nothing : (r : UndoingView) (s : TrafficState) (told : List (Option Told)) → has_changed r.which ≡ false → IsKeptState s told → IsKeptWith r s told
kept-with-nothing r s told e k = record { kept = k; can = nothing-can r.which r s e; was = λ h. absurd (true≢false (sym h ∙ e)) }

-- before a reading that may have changed something
pub undone-was : (which : Last) (r : UndoingView) (s : TrafficState) (told : List (Option Told)) (notices : List Notice) → has_changed which ≡ true
    → undone_traffic which r s told notices ≡ Some (traffic_past r (state_past which r s) told notices)
undone-was reading.Nothing r s told notices e = absurd (true≢false (sym e))
undone-was reading.Refused r s told notices e = absurd (true≢false (sym e))
undone-was (reading.Message number) r s told notices e = refl
undone-was (reading.Time earlier) r s told notices e = refl
undone-was reading.Open r s told notices e = refl
undone-was reading.Shut r s told notices e = refl

-- before one that changed nothing, the traffic was the same
pub undone-same : (which : Last) (r : UndoingView) (s : TrafficState) (told : List (Option Told)) (notices : List Notice) → has_changed which ≡ false
    → IfSome (undone_traffic which r s told notices) (λ before. before ≡ traffic_of s told notices)
undone-same reading.Nothing r s told notices e = tt
undone-same reading.Refused r s told notices e = refl
undone-same (reading.Message number) r s told notices e = absurd (true≢false e)
undone-same (reading.Time earlier) r s told notices e = absurd (true≢false e)
undone-same reading.Open r s told notices e = absurd (true≢false e)
undone-same reading.Shut r s told notices e = absurd (true≢false e)

pub if-same : (before : Option Traffic) (t : Traffic) (P : Traffic → Type 0) → IfSome before (λ b. b ≡ t) → P t → IfSome before P
if-same None t P same h = tt
if-same (Some b) t P same h = subst P (sym same) h

-- the state of a plan, if the plans before are known
pub status-was : (o : Option (List PlanView)) (ps : List PlanView) (r : Option Status) (number : ℕ) → o ≡ Some ps → IfSome o (λ plans. r ≡ status_at plans number) → r ≡ status_at (option_map_or (λ qs. qs) o []) number
status-was None ps r number e h = absurd (cc)
status-was (Some qs) ps r number e h = h

-- only a message changes plans
pub plans-stay : (which : Last) (r : UndoingView) (s : TrafficState) (told : List (Option Told)) (notices : List Notice) → ((n : ℕ) → which ≡ reading.Message n → ⊥)
    → IfSome (undone_traffic which r s told notices) (λ before. before.plans ≡ s.store.plans)
plans-stay reading.Nothing r s told notices ne = tt
plans-stay reading.Refused r s told notices ne = refl
plans-stay (reading.Message n) r s told notices ne = absurd (ne n refl)
plans-stay (reading.Time earlier) r s told notices ne = refl
plans-stay reading.Open r s told notices ne = refl
plans-stay reading.Shut r s told notices ne = refl

pub status-stays : (before : Option Traffic) (plans : List PlanView) (status : Option Status) (number : ℕ) → IfSome before (λ b. b.plans ≡ plans) → status ≡ status_at plans number
    → IfSome before (λ b. status ≡ status_at b.plans number)
status-stays None plans status number same h = tt
status-stays (Some b) plans status number same h = h ∙ ap (λ ps. status_at ps number) (sym same)
