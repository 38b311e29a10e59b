-- The regulations after a message about one flight.
use Rattle.std.proofs.Common.{◌≡◌, ℕ, List, map, true, false}
use Rattle.flow_plans.specs.Plans.{PlanView}
use Rattle.flow_regulations.specs.Listing.{RegulationView, regulation_of, AreRenewed, AreFrozen, pairs_in}
use Rattle.flow_regulations.proofs.Stays.{keeps-trans}
use Rattle.flow_regulations.proofs.ForTheDesk.{kept-slots-settled, kept-slots-frozen}
use Rattle.flow_traffic.specs.State.{TrafficState}
use Rattle.flow_traffic.specs.Kept.{IsSettledFor}

-- if it does not depart
pub staying : (n : ℕ) (s : TrafficState) (plans : List PlanView) (new : List RegulationView)
    → ((f : ℕ) → (f ≡ n → ⊥) → pairs_in f new ≡ pairs_in f s.listing.lists) → AreRenewed s.store.taxi s.listing.max_plans s.time plans s.listing.lists new
    → IsSettledFor false n s plans new
staying n s plans new others renewed = record {
  regulations = renewed.regulations;
  listed = renewed.listed;
  settled_in = renewed.settled_in;
  others = λ f ne. kept-slots-settled f s.store.taxi s.time plans s.listing.lists new renewed.regulations (others f ne);
}

-- if it departs: its slots were frozen before
pub leaving : (n : ℕ) (s : TrafficState) (plans : List PlanView) (mid new : List RegulationView)
    → ((f : ℕ) → (f ≡ n → ⊥) → pairs_in f mid ≡ pairs_in f s.listing.lists) → AreFrozen s.store.taxi s.listing.max_plans n s.store.plans s.listing.lists mid
    → ((f : ℕ) → (f ≡ n → ⊥) → pairs_in f new ≡ pairs_in f mid) → AreRenewed s.store.taxi s.listing.max_plans s.time plans mid new
    → IsSettledFor true n s plans new
leaving n s plans mid new frozen_others frozen others renewed = record {
  regulations = rw (frozen.regulations) at renewed.regulations;
  listed = renewed.listed;
  settled_in = renewed.settled_in;
  others = λ f ne. keeps-trans f (map regulation_of s.listing.lists) (map regulation_of mid) (map regulation_of new)
      (kept-slots-frozen f s.store.taxi s.listing.max_plans s.store.plans n s.listing.lists mid frozen.regulations (frozen_others f ne))
      (kept-slots-settled f s.store.taxi s.time plans mid new renewed.regulations (others f ne));
}
