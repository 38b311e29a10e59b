-- A table of masks for the points of the open regulations.
use Rattle.std.proofs.Common.{◌≡◌, ℕ, zero, suc, ◌+◌, ◌<◌, ◌≤◌, ◌++◌, Bool, true, false, ltb, List, [], ◌∷◌, length, map, take, get_or, Option, Some, None, refl, sym, ap, subst, ◌∙◌, arith}
use Rattle.std.specs.Prelude.{IsSome, IfSome}
use Rattle.std.specs.List.{remove}
use Rattle.std.proofs.lemmas.Bool.{ltb-true, ltb-false, lt-ltb, le-ltb, true≢false}
use Rattle.fpl_message.specs.declared.order.Spot.{Spot}
use Rattle.flow_plans.specs.Plans.{PlanView, plan_at}
use Rattle.flow_plans.specs.Near.{table_row, word_at, HasBitsOf}
use Rattle.flow_plans.specs.Entries.{subject}
use Rattle.flow_regulations.specs.Listing.{RegulationView, with_fixed_waiting, without_in, Walked, IsReleased}
use Rattle.flow_regulations.specs.Marks.{may_stand, mask_of, MaskMovesUp, IsOpenedIn, AreInRows, MarksNear}
use Rattle.flow_regulations.proofs.MarkBits.{ones-stand, stands-late, stands-bit, bit-stands}
use Rattle.flow_regulations.proofs.Walks.{written-back, walked-map, map-map}
use Rattle.flow_regulations.proofs.Alls.{units}
use Rattle.flow_regulations.proofs.Looked.{plan-there}

-- which regulations are where
abbrev pub spots_in : List RegulationView → List Spot
spots_in ls = map (λ l. l.spot) ls

-- without rows nothing is said
pub rows-none : (i : ℕ) (ls : List RegulationView) → AreInRows [] i ls
rows-none i [] = tt
rows-none i (l ∷ ls) = (ones-stand i, rows-none (suc i) ls)

pub rows-as : (olds news : List ℕ) (i : ℕ) (ls : List RegulationView) → ((r : ℕ) → mask_of news r ≡ mask_of olds r) → AreInRows olds i ls → AreInRows news i ls
rows-as olds news i [] e a = tt
rows-as olds news i (l ∷ ls) e a = (ap (λ w. may_stand w i) (e (table_row l.spot)) ∙ a.0, rows-as olds news (suc i) ls e a.1)

-- the same points
pub rows-there : (table : List ℕ) (i : ℕ) (os ns : List RegulationView) → spots_in ns ≡ spots_in os → AreInRows table i os → AreInRows table i ns
rows-there table i os [] e a = tt
rows-there table i [] (n ∷ ns) e a = absurd (let no : spots_in (n ∷ ns) ≡ [] = e in cc)
rows-there table i (o ∷ os) (n ∷ ns) e a =
    let full : spots_in (n ∷ ns) ≡ spots_in (o ∷ os) = e in
    let here : n.spot ≡ o.spot = cc in
    let rest : spots_in ns ≡ spots_in os = cc in
    (ap (λ s. may_stand (mask_of table (table_row s)) i) here ∙ a.0, rows-there table (suc i) os ns rest a.1)

pub rows-front : (table : List ℕ) (i : ℕ) (xs ys : List RegulationView) → AreInRows table i (xs ++ ys) → AreInRows table i xs
rows-front table i [] ys a = tt
rows-front table i (x ∷ xs) ys a = (a.0, rows-front table (suc i) xs ys a.1)

-- one more regulation is opened
last : (olds news : List ℕ) (i k : ℕ) (ls : List RegulationView) (x : RegulationView) → k ≡ i + length ls → ((r : ℕ) → IsOpenedIn (table_row x.spot) k r (mask_of olds r) (mask_of news r)) → AreInRows olds i ls → AreInRows news i (ls ++ x ∷ [])
last olds news i k [] x e s a =
    let M : ℕ → Type 0 = λ p. may_stand (mask_of news (table_row x.spot)) p ≡ true in
    let same : k ≡ i = omega (arith, e) in
    (subst M same ((s (table_row x.spot)).1 refl), tt)
last olds news i k (l ∷ ls) x e s a = ((s (table_row l.spot)).0 i (lt-ltb i k (omega (arith, e))) a.0, last olds news (suc i) k ls x (omega (arith, e)) s a.1)

pub rows-last : (olds news : List ℕ) (k own : ℕ) (ls : List RegulationView) (x : RegulationView) → k ≡ length ls → own ≡ table_row x.spot → ((r : ℕ) → IsOpenedIn own k r (mask_of olds r) (mask_of news r)) → AreInRows olds 0 ls → AreInRows news 0 (ls ++ x ∷ [])
rows-last olds news k own ls x e o s a =
    let S : ℕ → Type 0 = λ m. (r : ℕ) → IsOpenedIn m k r (mask_of olds r) (mask_of news r) in
    last olds news 0 k ls x (omega (arith, e)) (subst S o s) a

-- a regulation is closed
up : (olds news : List ℕ) (i k : ℕ) (ls : List RegulationView) → k ≤ i → ((r : ℕ) → MaskMovesUp k (mask_of olds r) (mask_of news r)) → AreInRows olds (suc i) ls → AreInRows news i ls
up olds news i k [] h s a = tt
up olds news i k (l ∷ ls) h s a = ((s (table_row l.spot)).1 i (le-ltb i k h) a.0, up olds news (suc i) k ls (omega (arith, h)) s a.1)

removed : (olds news : List ℕ) (i j k : ℕ) (ls : List RegulationView) → k ≡ i + j → ((r : ℕ) → MaskMovesUp k (mask_of olds r) (mask_of news r)) → AreInRows olds i ls → AreInRows news i (remove ls j)
removed olds news i zero k [] e s a = tt
removed olds news i (suc j) k [] e s a = tt
removed olds news i zero k (l ∷ ls) e s a = up olds news i k ls (omega (arith, e)) s a.1
removed olds news i (suc j) k (l ∷ ls) e s a = ((s (table_row l.spot)).0 i (lt-ltb i k (omega (arith, e))) a.0, removed olds news (suc i) j k ls (omega (arith, e)) s a.1)

pub rows-removed : (olds news : List ℕ) (k : ℕ) (ls : List RegulationView) → ((r : ℕ) → MaskMovesUp k (mask_of olds r) (mask_of news r)) → AreInRows olds 0 ls → AreInRows news 0 (remove ls k)
rows-removed olds news k ls s a = removed olds news 0 k k ls (omega arith) s a

-- rows that were written back whole
pub written-rows : (i : ℕ) (ws vs : List ℕ) (ls : List RegulationView) → i ≡ length ws → AreInRows ws 0 ls → AreInRows (take i (ws ++ vs)) 0 ls
written-rows i ws vs ls a h = (let V : List ℕ → Type 0 = λ us. AreInRows us 0 ls in subst V (sym (written-back i ws vs a)) h)

at : (table : List ℕ) (i j k : ℕ) (ls : List RegulationView) (d : RegulationView) → k ≡ i + j → j < length ls → AreInRows table i ls → may_stand (mask_of table (table_row (get_or ls j d).spot)) k ≡ true
at table i j k [] d e h a = absurd (omega (arith, h))
at table i zero k (l ∷ ls) d e h a =
    let M : ℕ → Type 0 = λ p. may_stand (mask_of table (table_row l.spot)) p ≡ true in
    let same : i ≡ k = omega (arith, e) in
    subst M same a.0
at table i (suc j) k (l ∷ ls) d e h a = at table (suc i) j k ls d (omega (arith, e)) (omega (arith, h)) a.1

-- a mask with the bits of the rows of a flight's points has the regulations that apply to it
pub marks-near : (taxi n near : ℕ) (table : List ℕ) (plans : List PlanView) (ls : List RegulationView) → AreInRows table 0 ls
    → ((start end : ℕ) (spot : Spot) → IfSome (plan_at plans n) (λ p. IsSome (subject taxi spot start end p) → HasBitsOf near (word_at table (table_row spot))))
    → (p : PlanView) → plan_at plans n ≡ Some p → MarksNear near taxi p ls
marks-near taxi n near table plans ls rows covers p there k d h out = cases (subject taxi l.spot l.lineup.period.start l.lineup.period.end p) refl where
  l : RegulationView
  l = get_or ls k d

  within : k < 64
  within = by (ltb k 64) refl where
    by : (b : Bool) → ltb k 64 ≡ b → k < 64
    by true q = ltb-true k 64 q
    by false q = absurd (true≢false (sym (stands-late near k (ltb-false k 64 q)) ∙ out))

  cases : (o : Option ℕ) → subject taxi l.spot l.lineup.period.start l.lineup.period.end p ≡ o → o ≡ None
  cases None q = refl
  cases (Some m) q =
      let S : Option ℕ → Type 0 = λ o. IsSome o in
      let P : Option PlanView → Type 0 = λ o. IfSome o (λ v. IsSome (subject taxi l.spot l.lineup.period.start l.lineup.period.end v) → HasBitsOf near (word_at table (table_row l.spot))) in
      let has = subst P there (covers l.lineup.period.start l.lineup.period.end l.spot) (subst S (sym q) refl) in
      let row : may_stand (mask_of table (table_row l.spot)) k ≡ true = at table 0 k k ls d (omega arith) h rows in
      absurd (true≢false (sym (stands-bit near k within (has k within (bit-stands (mask_of table (table_row l.spot)) k within row))) ∙ out))

-- points that stay
pub spots-alone : (n : ℕ) (os ns : List RegulationView) → map (without_in n) ns ≡ map (without_in n) os → spots_in ns ≡ spots_in os
spots-alone n os ns e = map-map (without_in n) (λ l. l.spot) ns ∙ (ap spots_in e ∙ sym (map-map (without_in n) (λ l. l.spot) os))

pub rows-released : (n taxi i : ℕ) (plans : List PlanView) (table : List ℕ) (os ns : List RegulationView) → 0 < n → n ≤ length plans → i ≡ length ns → Walked (IsReleased n taxi plans) i os ns → AreInRows table 0 os → AreInRows table 0 ns
rows-released n taxi i plans table os ns some within e w a =
    let p = plan-there plans n some within in
    rows-there table 0 os ns (walked-map (IsReleased n taxi plans) (λ _. Unit {0}) (λ l. l.spot) (λ l. l.spot) (λ o m h r. ap (λ v. v.spot) (r.same p.0 p.1)) i os ns e w (units os)) a

pub spots-advanced : (due : List ℕ) (ls : List RegulationView) → spots_in (map (with_fixed_waiting due) ls) ≡ spots_in ls
spots-advanced due ls = sym (map-map (with_fixed_waiting due) (λ l. l.spot) ls)
