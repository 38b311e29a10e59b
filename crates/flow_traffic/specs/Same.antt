-- Whether two desks have allocated the same: what a reader of them sees of plans, notices and slot
-- lists.
use Rattle.std.specs.Prelude.{◌≡◌, ℕ, List, map}
use Rattle.flow_plans.specs.declared.plan.PlanState.{PlanState}
use Rattle.flow_plans.specs.Plans.{PlanView}
use Rattle.flow_regulations.specs.Regulations.{Regulation, lineup_of}
use Rattle.flow_regulations.specs.Listing.{RegulationView}
use Rattle.flow_traffic.specs.Traffic.{Traffic}

-- the state and the off-block time of a plan
pub record Standing : Type 0 where
  pub state : PlanState
  pub off_block : ℕ

abbrev pub standing_of : PlanView → Standing
standing_of p = record { state = p.state; off_block = p.off_block }

-- those of all plans, by number
abbrev pub standings : List PlanView → List Standing
standings plans = map standing_of plans

-- an open regulation with its slot list
abbrev pub listed_in : Traffic → Regulation → RegulationView
listed_in t r = record { id = r.id; spot = r.spot; lineup = lineup_of t.taxi t.max_plans t.plans r }

-- the open regulations with their slot lists, in order of opening
abbrev pub slot_lists : Traffic → List RegulationView
slot_lists t = map (listed_in t) t.regulations

-- the notices are the same, the plans have the same states, off-block times and CTOTs, and the same
-- regulations are open with the same slot lists
pub record IsSame (t u : Traffic) : Type 0 where
  pub notices : t.notices ≡ u.notices
  pub plans : standings t.plans ≡ standings u.plans
  pub told : t.told ≡ u.told
  pub lists : slot_lists t ≡ slot_lists u
