-- What a reading changes of a desk, beside what is issued to plans: as it is kept, and as the
-- traffic is seen.
use Rattle.std.specs.Prelude.{ℕ, List, map, Option}
use Rattle.flow_plans.specs.Plans.{PlanView}
use Rattle.flow_plans.specs.Stores.{PlanStoreView}
use Rattle.flow_regulations.specs.Awaiting.{DueQueueView}
use Rattle.flow_regulations.specs.Listing.{RegulationView, RegulationsView, regulation_of}
use Rattle.flow_regulations.specs.declared.notice.Told.{Told}
use Rattle.flow_regulations.specs.declared.notice.Notice.{Notice}
use Rattle.flow_traffic.specs.Traffic.{Traffic}

-- the desk's time, its plans, its open regulations with their slot lists, and the flights that
-- aren't due
pub record TrafficState : Type 0 where
  pub time : ℕ
  pub store : PlanStoreView
  pub listing : RegulationsView
  pub queue : DueQueueView

-- with these plans
abbrev pub with_plans : List PlanView → TrafficState → TrafficState
with_plans plans s = record s { store = record s.store { plans = plans } }

-- with these slot lists
abbrev pub with_lists : List RegulationView → TrafficState → TrafficState
with_lists lists s = record s { listing = record s.listing { lists = lists } }

-- the traffic in that state, with these CTOTs and notices issued
abbrev pub traffic_of : TrafficState → List (Option Told) → List Notice → Traffic
traffic_of s told notices = record {
  taxi = s.store.taxi;
  max_plans = s.store.max_plans;
  now = s.time;
  plans = s.store.plans;
  regulations = map regulation_of s.listing.lists;
  told = told;
  notices = notices;
}
