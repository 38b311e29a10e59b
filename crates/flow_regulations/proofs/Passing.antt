-- Regulations that a walk passes: a flight isn't held in them.
use Rattle.std.proofs.Common.{◌≡◌, ℕ, zero, suc, ◌+◌, ◌-◌, ◌<◌, ◌≤◌, ◌⊎◌, inl, inr, Bool, true, false, cond, eqb, List, [], ◌∷◌, ◌++◌, length, map, take, drop, get_or, Option, None, Some, ltb, refl, sym, ap, subst, ◌∙◌, arith}
use Rattle.std.specs.Prelude.{bit_or}
use Rattle.std.specs.List.{AllByRecursion}
use Rattle.std.proofs.lemmas.List.{drop_all, drop_more, get_or_default, append-nil}
use Rattle.std.proofs.lemmas.Bool.{ltb-true, ltb-false, cases_eq, cases_lt, eq-eqb, ne_eqb}
use Rattle.flow_plans.specs.Plans.{PlanView, plan_at}
use Rattle.flow_regulations.specs.declared.telling.Delay.{Delay}
use Rattle.flow_regulations.specs.declared.slot_state.NotedPlace.{NotedPlace}
use Rattle.flow_regulations.specs.declared.slot_state.Place.{Place}
use Rattle.flow_regulations.specs.declared.slot_state.Place.TheVariants as place
use Rattle.flow_regulations.specs.Advice.{worse, worst}
use Rattle.flow_regulations.specs.Listing.{RegulationView, Walked, regulation_of, IsFixedWaiting, IsLookedAgain}
use Rattle.flow_regulations.specs.Marks.{may_stand, IsOut, IsMarked, MarksNear}
use Rattle.flow_regulations.specs.SlotStates.{place_at, IsPlaceOf}
use Rattle.flow_regulations.proofs.Advised.{IsWorstSoFar}
use Rattle.flow_regulations.proofs.MarkBits.{or-first, or-second}
use Rattle.flow_regulations.proofs.Marking.{covers-at, falls}
use Rattle.flow_regulations.proofs.Outs.{out-delay, out-fixes, out-looks, out-place}
use Rattle.flow_regulations.proofs.Walks.{walked-past}

-- the bits from i to before j aren't set
abbrev pub AreUnmarked : ℕ → ℕ → ℕ → Type 0
AreUnmarked word i j = (k : ℕ) → i ≤ k → k < j → may_stand word k ≡ false

-- the worst of the regulations from one index on is that from a later one on
worst-later : (taxi n m i : ℕ) (p : PlanView) (ls : List RegulationView) → ((k : ℕ) (d : RegulationView) → i ≤ k → k < i + m → k < length ls → IsOut n (get_or ls k d))
    → worst taxi n p (map regulation_of (drop i ls)) ≡ worst taxi n p (map regulation_of (drop (i + m) ls))
worst-later taxi n zero i p ls f =
    let same : i ≡ i + 0 = omega arith in
    ap (λ k. worst taxi n p (map regulation_of (drop k ls))) same
worst-later taxi n (suc m) i p [] f = ap (λ rs. worst taxi n p (map regulation_of rs)) (drop_all i [] (omega arith) ∙ sym (drop_all (i + suc m) [] (omega arith)))
worst-later taxi n (suc m) i p (l ∷ rest) f = cases (λ below. worst-later taxi n m (i + 1) p (l ∷ rest) (λ k d h b. f k d (omega (arith, h)) (omega (arith, b)))) (ltb i (length (l ∷ rest))) refl where
  ls : List RegulationView
  ls = l ∷ rest

  W : List RegulationView → Option Delay
  W rs = worst taxi n p (map regulation_of rs)

  cases : (i < length (l ∷ rest) → W (drop (i + 1) ls) ≡ W (drop (i + 1 + m) ls)) → (b : Bool) → ltb i (length (l ∷ rest)) ≡ b → worst taxi n p (map regulation_of (drop i (l ∷ rest))) ≡ worst taxi n p (map regulation_of (drop (i + suc m) (l ∷ rest)))
  cases later true q =
      let below : i < length (l ∷ rest) = ltb-true i (length (l ∷ rest)) q in
      let none = out-delay taxi n (Some p) (get_or ls i l) (f i l (omega arith) (omega arith) below) in
      let next : i + 1 + m ≡ i + suc m = omega arith in
      ap W (drop_more ls i l below) ∙ (ap (λ d. worse d (W (drop (i + 1) ls))) (sym none) ∙ (later below ∙ ap (λ k. W (drop k ls)) next))
  cases later false q =
      let past : length (l ∷ rest) ≤ i = ltb-false i (length (l ∷ rest)) q in
      ap W (drop_all i ls past ∙ sym (drop_all (i + suc m) ls (omega (arith, past))))

pub worst-past : (taxi n w i j : ℕ) (o : Option PlanView) (ls : List RegulationView) (d : Option Delay) → IsMarked w n 0 ls → i ≤ j → AreUnmarked w i j → IsWorstSoFar taxi n o (drop i ls) ls d → IsWorstSoFar taxi n o (drop j ls) ls d
worst-past taxi n w i j None ls d c h u was = tt
worst-past taxi n w i j (Some p) ls d c h u was =
    let next : i + (j - i) ≡ j = omega (arith, h) in
    let later = worst-later taxi n (j - i) i p ls (λ k e a b l. covers-at w n k ls e l c (u k a (omega (arith, b, next)))) in
    ap (λ k. worse d (worst taxi n p (map regulation_of (drop k ls)))) (sym next) ∙ (ap (worse d) (sym later) ∙ was)

-- no flight has a provisional slot there to be frozen
pub fixes-past : (n w i j : ℕ) (os ns : List RegulationView) → IsMarked w n 0 os → i ≤ j → AreUnmarked w i j → Walked (IsFixedWaiting n) i os ns → Walked (IsFixedWaiting n) j os ns
fixes-past n w i j os ns c h u walked = walked-past (IsFixedWaiting n) i j os ns (λ k d a b l. out-fixes n (get_or os k d) (covers-at w n k os d l c (u k a b))) h walked

-- reallocating a flight changes nothing if the regulation doesn't hold it and doesn't apply to it
pub looks-past : (n taxi now w near i j : ℕ) (plans : List PlanView) (os ns : List RegulationView) → 0 < n → n ≤ length plans → IsMarked w n 0 os
    → ((p : PlanView) → plan_at plans n ≡ Some p → MarksNear near taxi p os) → i ≤ j → AreUnmarked (bit_or w near) i j → Walked (IsLookedAgain n taxi now plans) i os ns → Walked (IsLookedAgain n taxi now plans) j os ns
looks-past n taxi now w near i j plans os ns some within c m h u walked =
    walked-past (IsLookedAgain n taxi now plans) i j os ns (λ k d a b l.
    (let out = u k a b in
    out-looks n taxi now plans (get_or os k d) None some within (covers-at w n k os d l c (falls w (bit_or w near) k (or-first w near k) out))
    (λ p at. sym (m p at k d l (falls near (bit_or w near) k (or-second w near k) out))) refl)) h walked

-- the recorded states are those of a flight in the first regulations
pub record AreNoted (n j : ℕ) (ps : List NotedPlace) (ls : List RegulationView) : Type 0 where
  pub below : AllByRecursion (λ p. p.index < j) ps
  pub places : (i : ℕ) (d : RegulationView) → i < j → i < length ls → IsPlaceOf n (place_at ps i) (get_or ls i d)

-- one more is recorded
below-more : (i j : ℕ) (ps qs : List NotedPlace) → i ≤ j → AllByRecursion (λ p. p.index < i) ps → AllByRecursion (λ p. p.index < j) qs → AllByRecursion (λ p. p.index < j) (ps ++ qs)
below-more i j [] qs h a b = b
below-more i j (p ∷ ps) qs h a b = (omega (arith, h, a.0), below-more i j ps qs h a.1 b)

place-none : (i : ℕ) (ps : List NotedPlace) → AllByRecursion (λ p. p.index < i) ps → place_at ps i ≡ place.Absent
place-none i [] a = refl
place-none i (p ∷ ps) a = ap (λ b. cond b p.place (place_at ps i)) (ne_eqb p.index i (λ e. omega (arith, a.0, e))) ∙ place-none i ps a.1

place-last : (i : ℕ) (ps : List NotedPlace) (q : NotedPlace) → AllByRecursion (λ p. p.index < i) ps → q.index ≡ i → place_at (ps ++ q ∷ []) i ≡ q.place
place-last i [] q a e = ap (λ b. cond b q.place place.Absent) (eq-eqb q.index i e)
place-last i (p ∷ ps) q a e = ap (λ b. cond b p.place (place_at (ps ++ q ∷ []) i)) (ne_eqb p.index i (λ k. omega (arith, a.0, k))) ∙ place-last i ps q a.1 e

place-other : (i : ℕ) (ps : List NotedPlace) (q : NotedPlace) → (q.index ≡ i → ⊥) → place_at (ps ++ q ∷ []) i ≡ place_at ps i
place-other i [] q ne = ap (λ b. cond b q.place place.Absent) (ne_eqb q.index i ne)
place-other i (p ∷ ps) q ne = ap (λ v. cond (eqb p.index i) p.place v) (place-other i ps q ne)

pub noted-more : (n j : ℕ) (ps : List NotedPlace) (ls : List RegulationView) (d : RegulationView) (p : Place) → j < length ls → IsPlaceOf n p (get_or ls j d) → AreNoted n j ps ls → AreNoted n (j + 1) (ps ++ record { index = j; place = p } ∷ []) ls
noted-more n j ps ls d p h is a =
    record { below = below-more j (j + 1) ps (q ∷ []) (omega arith) a.below (omega arith, tt); places = λ i e b l. cases i e b l (cases_eq i j) }
  where
    q : NotedPlace
    q = record { index = j; place = p }

    cases : (i : ℕ) (e : RegulationView) → i < j + 1 → i < length ls → (i ≡ j) ⊎ (i ≡ j → ⊥) → IsPlaceOf n (place_at (ps ++ q ∷ []) i) (get_or ls i e)
    cases i e b l (inl same) =
        let P : RegulationView → Type 0 = λ v. IsPlaceOf n p v in
        let Q : Place → Type 0 = λ v. IsPlaceOf n v (get_or ls j e) in
        let R : ℕ → Type 0 = λ k. IsPlaceOf n (place_at (ps ++ q ∷ []) k) (get_or ls k e) in
        subst R (sym same) (subst Q (sym (place-last j ps q a.below refl)) (subst P (get_or_default ls j d e h) is))
    cases i e b l (inr ne) =
        let Q : Place → Type 0 = λ v. IsPlaceOf n v (get_or ls i e) in
        let less : i < j = omega (arith, b, ne) in
        subst Q (sym (place-other i ps q (λ k. ne (sym k)))) (a.places i e less l)

-- none is recorded for those that don't hold the flight
pub noted-past : (n w i j : ℕ) (ps : List NotedPlace) (ls : List RegulationView) → IsMarked w n 0 ls → i ≤ j → AreUnmarked w i j → AreNoted n i ps ls → AreNoted n j ps ls
noted-past n w i j ps ls c h u a = record {
  below = (let B : List NotedPlace → Type 0 = λ qs. AllByRecursion (λ p. p.index < j) qs in subst B (append-nil ps) (below-more i j ps [] h a.below tt));
  places = λ k d b l. cases k d b l (cases_lt k i);
}
  where
    cases : (k : ℕ) (d : RegulationView) → k < j → k < length ls → (k < i) ⊎ (i ≤ k) → IsPlaceOf n (place_at ps k) (get_or ls k d)
    cases k d b l (inl less) = a.places k d less l
    cases k d b l (inr past) =
        let Q : Place → Type 0 = λ v. IsPlaceOf n v (get_or ls k d) in
        let B : List NotedPlace → Type 0 = λ qs. AllByRecursion (λ p. p.index < k) qs in
        subst Q (sym (place-none k ps (subst B (append-nil ps) (below-more i k ps [] past a.below tt)))) (out-place n (get_or ls k d) (covers-at w n k ls d l c (u k past b)))
