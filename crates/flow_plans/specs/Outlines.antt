-- Where and when a regulation may apply to a flight, in few bytes. An outline may seem to enter a
-- point that its flight doesn't enter then, never the other way round. Whether the plan is filed,
-- and its off-block date and time, it says exactly.
use Rattle.std.specs.Prelude.{◌≡◌, ℕ, ◌+◌, Bool, true, not, ◌&&◌, ◌==◌, nat_le, nat_lt, if◌then◌else◌, List, Option, Some, None, IsSome, codes}
use Rattle.std.specs.List.{AllZip}
use Rattle.fpl_message.specs.declared.order.Spot.{Spot}
use Rattle.fpl_message.specs.declared.order.Spot.TheVariants.{Dep, Arr, Via}
use Rattle.flow_plans.specs.declared.outline.PlanIndexEntry.{PlanIndexEntry}
use Rattle.flow_plans.specs.Plans.{PlanView, is_filed, is_visual}
use Rattle.flow_plans.specs.Entries.{subject, in_period}
use Rattle.fpl_items.specs.Points.{may_have}
use Rattle.flow_plans.specs.Letters.{letters_of, IsTold}

-- whether regulations may apply to the flight of a plan, wherever they are
abbrev pub may_be_subject : PlanView → Bool
may_be_subject plan = is_filed plan.state && not (is_visual plan.rules) && not plan.exempt

-- whether the flight of an outline may enter a point
unfoldable pub may_come : Spot → PlanIndexEntry → Bool
may_come (Dep place) outline = outline.dep == letters_of place
may_come (Arr place) outline = outline.dest == letters_of place
may_come (Via place) outline = may_have outline.way place

-- whether it takes off before the end of a period, and may not yet be over at its start
unfoldable pub may_fly : ℕ → ℕ → ℕ → PlanIndexEntry → Bool
may_fly taxi start end outline =
    nat_lt (outline.off_block + taxi) end && nat_le start (outline.off_block + taxi + outline.longest)

-- the off-block date and time, if the plan is filed
abbrev pub outlined_moment : PlanIndexEntry → Option ℕ
outlined_moment outline = if outline.is_filed then Some outline.off_block else None

-- the entry of its flight at a departure of these letters, if a regulation of that aerodrome and
-- period applies to it: to none that departs in the air
unfoldable pub departure : ℕ → ℕ → ℕ → ℕ → PlanIndexEntry → Option ℕ
departure taxi letters start end outline =
    if outline.dep == letters && not (letters == letters_of (codes "AFIL"))
    then in_period start end (Some (outline.off_block + taxi))
    else None

-- wherever and whenever a regulation applies to the flight of the plan, the outline may be there
-- then; at a departure of four letters it says exactly whether one does
pub record IsOutlineOf (outline : PlanIndexEntry) (plan : PlanView) : Type 0 where
  pub is_filed : outline.is_filed ≡ is_filed plan.state
  pub off_block : outline.off_block ≡ plan.off_block
  pub comes : (taxi start end : ℕ) (spot : Spot) → IsSome (subject taxi spot start end plan) → (may_come spot outline && may_fly taxi start end outline) ≡ true
  pub departs : (taxi start end : ℕ) (place : List ℕ) → IsTold place → subject taxi (Dep place) start end plan ≡ departure taxi (letters_of place) start end outline

-- one outline for each plan, at the same index
abbrev pub AreOutlines : List PlanIndexEntry → List PlanView → Type 0
AreOutlines outlines plans = AllZip IsOutlineOf outlines plans
