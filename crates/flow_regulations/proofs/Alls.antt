-- The open regulations together, each changed by itself.
use Rattle.std.proofs.Common.{◌≡◌, ℕ, ◌<◌, ◌≤◌, List, [], ◌∷◌, length, map, sym, ap, subst, ◌∙◌, arith}
use Rattle.std.specs.List.{AllByRecursion}
use Rattle.flow_plans.specs.Plans.{PlanView}
use Rattle.flow_regulations.specs.Settling.{settled, frozen_at_departure, pairs_of}
use Rattle.flow_regulations.specs.Listing.{RegulationView, regulation_of, IsListedIn, IsListed, IsSettledIn, IsSettledBut, AreSettledBut, AreSameBut, Walked, IsLookedAgain, AreRenewed, HaveCapacity, IsFixedWaiting, AreFrozen, with_lineup, without_in, names_in, IsReleased, pairs_in}
use Rattle.flow_regulations.proofs.Fixes.{is_frozen}
use Rattle.flow_regulations.proofs.Others.{pairs-fixed}
use Rattle.flow_regulations.proofs.FixedOnes.{all-map, all-both}
use Rattle.flow_regulations.proofs.Standing.{alone-fixed_waiting}
use Rattle.flow_regulations.proofs.Walks.{walked-all, walked-map, map-map}

pub units : (os : List RegulationView) → AllByRecursion (λ _. Unit {0}) os
units [] = tt
units (l ∷ ls) = (tt, units ls)

pub room-at : (n max : ℕ) (ls : List RegulationView) → n ≤ max → HaveCapacity max ls → AllByRecursion (λ l. n ≤ l.lineup.capacity) ls
room-at n max ls h a = all-map (λ l. l.lineup.capacity ≡ max) (λ l. n ≤ l.lineup.capacity) ls (λ l e. omega (arith, h, e)) a

pub capacity-looked : (n taxi now max i : ℕ) (plans : List PlanView) (os ns : List RegulationView) → i ≡ length ns → Walked (IsLookedAgain n taxi now plans) i os ns → HaveCapacity max os → HaveCapacity max ns
capacity-looked n taxi now max i plans os ns e w a =
    walked-all (IsLookedAgain n taxi now plans) (λ l. l.lineup.capacity ≡ max) (λ l. l.lineup.capacity ≡ max) (λ o m h r. r.capacity ∙ h) i os ns e w a

pub all-looked : (n taxi now max i : ℕ) (plans before : List PlanView) (os ns : List RegulationView) → i ≡ length ns → Walked (IsLookedAgain n taxi now plans) i os ns → IsListed taxi max before os → AreSettledBut n taxi now before os → AreSameBut n before plans → AreRenewed taxi max now plans os ns
all-looked n taxi now max i plans before os ns e w listed settled_but same =
    let R : RegulationView → RegulationView → Type 0 = IsLookedAgain n taxi now plans in
    let P : RegulationView → Type 0 = λ l. IsListedIn taxi max before l × IsSettledBut n taxi now before l in
    let all : AllByRecursion P os = all-both (IsListedIn taxi max before) (IsSettledBut n taxi now before) os listed settled_but in
    record {
      regulations = walked-map R P regulation_of (λ l. settled taxi now plans (regulation_of l)) (λ o m h r. ap regulation_of r.same ∙ (r.renewed max before h.0 h.1 same).regulation) i os ns e w all ∙ map-map regulation_of (settled taxi now plans) os;
      listed = walked-all R P (IsListedIn taxi max plans) (λ o m h r. subst (IsListedIn taxi max plans) (sym r.same) (r.renewed max before h.0 h.1 same).listed) i os ns e w all;
      settled_in = walked-all R P (IsSettledIn taxi now plans) (λ o m h r. subst (IsSettledIn taxi now plans) (sym r.same) (r.renewed max before h.0 h.1 same).settled_in) i os ns e w all;
    }

pub capacity-fixed : (n max i : ℕ) (os ns : List RegulationView) → i ≡ length ns → Walked (IsFixedWaiting n) i os ns → HaveCapacity max os → HaveCapacity max ns
capacity-fixed n max i os ns e w a = walked-all (IsFixedWaiting n) (λ l. l.lineup.capacity ≡ max) (λ l. l.lineup.capacity ≡ max) (λ o m h r. r.capacity ∙ h) i os ns e w a

pub all-frozen : (n taxi max i : ℕ) (before : List PlanView) (os ns : List RegulationView) → 0 < n → i ≡ length ns → Walked (IsFixedWaiting n) i os ns → IsListed taxi max before os → AreFrozen taxi max n before os ns
all-frozen n taxi max i before os ns positive e w listed =
    let R : RegulationView → RegulationView → Type 0 = IsFixedWaiting n in
    let P : RegulationView → Type 0 = IsListedIn taxi max before in
    record {
      regulations = walked-map R P regulation_of (λ l. frozen_at_departure taxi max before n (regulation_of l)) (λ o m h r. ap regulation_of r.same ∙ (is_frozen taxi max n before o h positive).regulation) i os ns e w listed ∙ map-map regulation_of (frozen_at_departure taxi max before n) os;
      listed = walked-all R P P (λ o m h r. subst P (sym r.same) (is_frozen taxi max n before o h positive).listed) i os ns e w listed;
      settled_but = λ now s.
          walked-all R (λ l. P l × IsSettledIn taxi now before l) (IsSettledBut n taxi now before) (λ o m h r. subst (IsSettledBut n taxi now before) (sym r.same) ((is_frozen taxi max n before o h.0 positive).settled_but now h.1)) i os ns e w (all-both P (IsSettledIn taxi now before) os listed s);
    }

pub others-looked : (n taxi now i f : ℕ) (plans : List PlanView) (os ns : List RegulationView) → (f ≡ n → ⊥) → i ≡ length ns → Walked (IsLookedAgain n taxi now plans) i os ns → pairs_in f ns ≡ pairs_in f os
others-looked n taxi now i f plans os ns ne e w =
    walked-map (IsLookedAgain n taxi now plans) (λ _. Unit {0}) (λ l. pairs_of f l.lineup.fixed) (λ l. pairs_of f l.lineup.fixed) (λ o m h r. r.others f ne) i os ns e w (units os)

pub others-fixed : (n i f : ℕ) (os ns : List RegulationView) → (f ≡ n → ⊥) → i ≡ length ns → Walked (IsFixedWaiting n) i os ns → pairs_in f ns ≡ pairs_in f os
others-fixed n i f os ns ne e w =
    walked-map (IsFixedWaiting n) (λ _. Unit {0}) (λ l. pairs_of f l.lineup.fixed) (λ l. pairs_of f l.lineup.fixed) (λ o m h r. pairs-fixed f n o m ne r.same) i os ns e w (units os)

-- the other flights are unchanged
pub alone-looked : (n taxi now i : ℕ) (plans : List PlanView) (os ns : List RegulationView) → i ≡ length ns → Walked (IsLookedAgain n taxi now plans) i os ns → map (without_in n) ns ≡ map (without_in n) os
alone-looked n taxi now i plans os ns e w = walked-map (IsLookedAgain n taxi now plans) (λ _. Unit {0}) (without_in n) (without_in n) (λ o m h r. r.alone) i os ns e w (units os)

pub alone-fixed : (n i : ℕ) (os ns : List RegulationView) → i ≡ length ns → Walked (IsFixedWaiting n) i os ns → map (without_in n) ns ≡ map (without_in n) os
alone-fixed n i os ns e w =
    walked-map (IsFixedWaiting n) (λ _. Unit {0}) (without_in n) (without_in n) (λ o m h r. ap (without_in n) r.same ∙ ap (λ v. with_lineup v o) (alone-fixed_waiting n o.lineup)) i os ns e w (units os)

-- and so do the names
pub names-looked : (n taxi now i : ℕ) (plans : List PlanView) (os ns : List RegulationView) → i ≡ length ns → Walked (IsLookedAgain n taxi now plans) i os ns → names_in ns ≡ names_in os
names-looked n taxi now i plans os ns e w = walked-map (IsLookedAgain n taxi now plans) (λ _. Unit {0}) (λ l. l.id) (λ l. l.id) (λ o m h r. ap (λ v. v.id) r.same) i os ns e w (units os)

pub names-fixed : (n i : ℕ) (os ns : List RegulationView) → i ≡ length ns → Walked (IsFixedWaiting n) i os ns → names_in ns ≡ names_in os
names-fixed n i os ns e w = walked-map (IsFixedWaiting n) (λ _. Unit {0}) (λ l. l.id) (λ l. l.id) (λ o m h r. ap (λ v. v.id) r.same) i os ns e w (units os)

pub names-released : (n taxi i : ℕ) (plans : List PlanView) (os ns : List RegulationView) → i ≡ length ns → Walked (IsReleased n taxi plans) i os ns → names_in ns ≡ names_in os
names-released n taxi i plans os ns e w = walked-map (IsReleased n taxi plans) (λ _. Unit {0}) (λ l. l.id) (λ l. l.id) (λ o m h r. r.id) i os ns e w (units os)
