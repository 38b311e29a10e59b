-- Flights that were frozen when they became due have provisional slots again.
use Rattle.std.proofs.Common.{◌≡◌, ℕ, ◌+◌, ◌<◌, ◌++◌, Bool, true, false, cond, eqb, ltb, List, [], ◌∷◌, length, map, take, get_or, Option, Some, None, refl, sym, ap, subst, ◌∙◌, arith}
use mathlib.Core.Logic.{⊎_elim}
use Rattle.std.specs.List.{All, AllByRecursion}
use Rattle.std.specs.Option.{option_and_then, is_some}
use Rattle.std.proofs.lemmas.Bool.{eq-eqb, eqb-false}
use Rattle.std.proofs.lemmas.List.{take_more, get_or-take, length-take-le}
use Rattle.std.proofs.lemmas.List.Elements.{All-take, recursion_from_All}
use Rattle.std.proofs.lemmas.List.Kept.{AllPairs-from_increasing}
use Rattle.flow_plans.specs.Plans.{PlanView, plan_at}
use Rattle.flow_slots.specs.declared.cell.Planned.{Planned}
use Rattle.flow_slots.specs.Order.{insert}
use Rattle.flow_slots.specs.Assignment.{Placed, is_in}
use Rattle.flow_slots.specs.Lineup.{Lineup, NoneFixed, slot_in, without_fixed, insert_fixed, with_waiting, without_flight}
use Rattle.flow_regulations.specs.Regulations.{subject_to}
use Rattle.flow_regulations.specs.Settling.{pairs_of}
use Rattle.flow_regulations.specs.Listing.{RegulationView, regulation_of, with_lineup, IsListedIn, IsListed, Walked, HaveCapacity, fixed_waiting, with_fixed_waiting, released, released_in, IsReleased}
use Rattle.flow_regulations.specs.Awaiting.{BecameDue, HaveBecomeDue}
use Rattle.flow_regulations.proofs.Advances.{pairs-advanced, all_fixed-last}
use Rattle.flow_regulations.proofs.FixedOnes.{without_fixed-none}
use Rattle.flow_regulations.proofs.Fixes.{lined, others, more, none, DoesNot, Does, either, is, listed-more}
use Rattle.flow_regulations.proofs.ForTheDesk.{newly-due-unfixed}
use Rattle.flow_regulations.proofs.Queues.{in-at, due-there}
use Rattle.flow_regulations.proofs.Standing.{none-slot, without_fixed-comes}
use Rattle.flow_regulations.proofs.Waiting.{without-none}
use Rattle.flow_regulations.proofs.Walks.{walked-all, walked-is}

-- a flight without a pair isn't fixed
unpaired : (n : ℕ) (xs : List Placed) → pairs_of n xs ≡ [] → NoneFixed n xs
unpaired n [] e = tt
unpaired n (x ∷ xs) e = cases (unpaired n xs) (eqb x.flight n) refl e where
  cases : (pairs_of n xs ≡ [] → NoneFixed n xs) → (b : Bool) → eqb x.flight n ≡ b → cond b (x ∷ pairs_of n xs) (pairs_of n xs) ≡ [] → NoneFixed n (x ∷ xs)
  cases again true q h = absurd cc
  cases again false q h = (eqb-false x.flight n q, again h)

slot-inserted : (a : Placed) (xs : List Placed) → is_some (slot_in a.flight (insert_fixed a xs)) ≡ true
slot-inserted a [] = ap (λ b. is_some (cond b (Some a.slot) None)) (eq-eqb a.flight a.flight refl)
slot-inserted a (x ∷ xs) = cases (slot-inserted a xs) (ltb x.slot a.slot) where
  here : (b : Bool) (o : Option ℕ) → is_some o ≡ true → is_some (cond b (Some x.slot) o) ≡ true
  here true o e = refl
  here false o e = e

  cases : is_some (slot_in a.flight (insert_fixed a xs)) ≡ true → (b : Bool) → is_some (slot_in a.flight (cond b (x ∷ insert_fixed a xs) (a ∷ x ∷ xs))) ≡ true
  cases again true = here (eqb x.flight a.flight) (slot_in a.flight (insert_fixed a xs)) again
  cases again false = ap (λ b. is_some (cond b (Some a.slot) (slot_in a.flight (x ∷ xs)))) (eq-eqb a.flight a.flight refl)

module _ (taxi max n : ℕ) (plans : List PlanView) (l : RegulationView) (listed : IsListedIn taxi max plans l) (positive : 0 < n) where
  -- it is fixed, and the slot list is still that of its regulation
  pub listed-fixed : IsListedIn taxi max plans (with_lineup (fixed_waiting n l.lineup) l)
  listed-fixed = ⊎_elim not does (either taxi max n plans l listed positive) where
    not : DoesNot taxi max n plans l listed positive → IsListedIn taxi max plans (with_lineup (fixed_waiting n l.lineup) l)
    not d = (let P : Lineup → Type 0 = λ v. IsListedIn taxi max plans (with_lineup v l) in subst P (sym d.same) listed)

    does : (e : ℕ) × (k : ℕ) × Does taxi max n plans l listed positive e k → IsListedIn taxi max plans (with_lineup (fixed_waiting n l.lineup) l)
    does (e, k, d) = let P : Lineup → Type 0 = λ v. IsListedIn taxi max plans (with_lineup v l) in subst P (sym (is taxi max n plans l listed positive e k d)) (listed-more taxi max n plans l listed positive e k d)

  -- and has a provisional slot again
  pub released-fixed : (p : PlanView) → plan_at plans n ≡ Some p → NoneFixed n l.lineup.fixed → released_in taxi p n (with_lineup (fixed_waiting n l.lineup) l) ≡ l
  released-fixed p at unfixed = ⊎_elim not does (either taxi max n plans l listed positive) where
    stays : (o : Option ℕ) → released o n l.lineup ≡ l.lineup
    stays None = refl
    stays (Some e) = ap (λ v. cond (is_some v) (with_waiting (record { entry = e; flight = n }) (without_flight n l.lineup)) l.lineup) (none-slot n l.lineup.fixed unfixed)

    not : DoesNot taxi max n plans l listed positive → released_in taxi p n (with_lineup (fixed_waiting n l.lineup) l) ≡ l
    not d = ap (λ v. released_in taxi p n (with_lineup v l)) d.same ∙ ap (λ v. with_lineup v l) (stays (subject_to taxi (regulation_of l) p))

    does : (e : ℕ) × (k : ℕ) × Does taxi max n plans l listed positive e k → released_in taxi p n (with_lineup (fixed_waiting n l.lineup) l) ≡ l
    does (e, k, d) =
        let ws = others taxi max n plans l listed positive in
        let gs = more taxi max n plans l listed positive e k d in
        let fs : List Placed = l.lineup.fixed in
        let y : Lineup = lined l.lineup ws gs in
        let a : Placed = record { flight = n; slot = k } in
        let x : Planned = record { entry = e; flight = n } in
        let enters : subject_to taxi (regulation_of l) p ≡ Some e = sym (ap (option_and_then (subject_to taxi (regulation_of l))) at) ∙ d.entry in
        ap (λ v. released_in taxi p n (with_lineup v l)) (is taxi max n plans l listed positive e k d)
        ∙ (ap (λ o. with_lineup (released o n y) l) enters
        ∙ (ap (λ b. with_lineup (cond b (with_waiting x (without_flight n y)) y) l) (slot-inserted a fs)
        ∙ (ap (λ us. with_lineup (lined l.lineup (insert x us) (without_fixed n gs)) l) (without-none n ws (none taxi max n plans l listed positive))
        ∙ (ap (λ hs. with_lineup (lined l.lineup (insert x ws) hs) l) (without_fixed-comes a fs ∙ without_fixed-none n fs unfixed)
        ∙ ap (λ us. with_lineup (lined l.lineup us fs) l) (sym d.waiting)))))

listed-all : (taxi max : ℕ) (plans : List PlanView) (ns : List ℕ) (l : RegulationView) → AllByRecursion (λ n. 0 < n) ns → IsListedIn taxi max plans l → IsListedIn taxi max plans (with_fixed_waiting ns l)
listed-all taxi max plans [] l a h = h
listed-all taxi max plans (n ∷ ns) l a h = listed-all taxi max plans ns (with_lineup (fixed_waiting n l.lineup) l) a.1 (listed-fixed taxi max n plans l h a.0)

-- the last of them has a provisional slot again in each regulation
released-each : (taxi max n : ℕ) (plans : List PlanView) (p : PlanView) (ns : List ℕ) (ls : List RegulationView) → plan_at plans n ≡ Some p → 0 < n → AllByRecursion (λ m. 0 < m) ns → is_in n ns ≡ false → IsListed taxi max plans ls → AllByRecursion (λ l. pairs_of n l.lineup.fixed ≡ []) ls
    → map (released_in taxi p n) (map (with_fixed_waiting (ns ++ n ∷ [])) ls) ≡ map (with_fixed_waiting ns) ls
released-each taxi max n plans p ns [] at some all out h unpaired_all = refl
released-each taxi max n plans p ns (l ∷ ls) at some all out h unpaired_all =
    let x : RegulationView = with_fixed_waiting ns l in
    let unfixed : NoneFixed n x.lineup.fixed = unpaired n x.lineup.fixed (pairs-advanced n ns l.lineup out ∙ unpaired_all.0) in
    let here : released_in taxi p n (with_fixed_waiting (ns ++ n ∷ []) l) ≡ x =
    ap (λ v. released_in taxi p n (with_lineup v l)) (all_fixed-last ns n l.lineup) ∙ released-fixed taxi max n plans x (listed-all taxi max plans ns l all h.0) some p at unfixed in
    ap (λ v. v ∷ map (released_in taxi p n) (map (with_fixed_waiting (ns ++ n ∷ [])) ls)) here
    ∙ ap (λ vs. x ∷ vs) (released-each taxi max n plans p ns ls at some all out h.1 unpaired_all.1)

-- a number of a rising list isn't among those before it
not-among : (xs : List ℕ) (j : ℕ) → j < length xs → ((i k : ℕ) (d : ℕ) → i < k → k < length xs → get_or xs i d < get_or xs k d) → is_in (get_or xs j 0) (take j xs) ≡ false
not-among xs j within rises = cases (is_in (get_or xs j 0) (take j xs)) refl where
  cases : (b : Bool) → is_in (get_or xs j 0) (take j xs) ≡ b → is_in (get_or xs j 0) (take j xs) ≡ false
  cases false e = e
  cases true e =
      let k = in-at (take j xs) (get_or xs j 0) e in
      let len : length (take j xs) ≡ j = length-take-le j xs (omega (arith, within)) in
      let early : k.0 < j = omega (arith, k.1, len) in
      let same : get_or xs k.0 0 ≡ get_or xs j 0 = sym (get_or-take j xs k.0 0 early) ∙ k.2 in
      let less = rises k.0 j 0 early within in
      absurd (omega (arith, same, less))

unmap-all : {X Y : Type 0} (P : Y → Type 0) (g : X → Y) (xs : List X) → AllByRecursion P (map g xs) → AllByRecursion (λ x. P (g x)) xs
unmap-all P g [] a = tt
unmap-all P g (x ∷ xs) a = (a.0, unmap-all P g xs a.1)

positive-first : (earlier now : ℕ) (plans : List PlanView) (j : ℕ) (due : List ℕ) → All (BecameDue earlier now plans) due → AllByRecursion (λ m. 0 < m) (take j due)
positive-first earlier now plans j due all = recursion_from_All (λ m. 0 < m) (take j due) (All-take (λ m. 0 < m) j due (λ k d h. (all k d h).0))

pub release-step : (taxi max earlier now j : ℕ) (plans : List PlanView) (due : List ℕ) (before ms xs : List RegulationView) → HaveBecomeDue taxi max earlier now plans due before → j < length due → ms ≡ map (with_fixed_waiting (take (j + 1) due)) before
    → Walked (IsReleased (get_or due j 0) taxi plans) (length xs) ms xs → xs ≡ map (with_fixed_waiting (take j due)) before
release-step taxi max earlier now j plans due before ms xs h within e w =
    let n : ℕ = get_or due j 0 in
    let b = h.became j 0 within in
    let p = due-there now n plans b.1 in
    let out = not-among due j within (AllPairs-from_increasing due h.rising) in
    let none = unmap-all (λ r. pairs_of n r.fixed ≡ []) regulation_of before (newly-due-unfixed taxi earlier now n plans before h.settled_in b.2 b.1) in
    walked-is (IsReleased n taxi plans) (released_in taxi p.0 n) (λ x y r. r.same p.0 p.1) (length xs) ms xs refl w
    ∙ (ap (map (released_in taxi p.0 n)) (e ∙ ap (λ ns. map (with_fixed_waiting ns) before) (take_more due j 0 within))
    ∙ released-each taxi max n plans p.0 (take j due) before p.1 b.0 (positive-first earlier now plans j due h.became) out h.listed none)

pub capacity-released : (n taxi max i : ℕ) (plans : List PlanView) (os ns : List RegulationView) → i ≡ length ns → Walked (IsReleased n taxi plans) i os ns → HaveCapacity max os → HaveCapacity max ns
capacity-released n taxi max i plans os ns e w a = walked-all (IsReleased n taxi plans) (λ l. l.lineup.capacity ≡ max) (λ l. l.lineup.capacity ≡ max) (λ o m h r. r.capacity ∙ h) i os ns e w a
