-- When a flight enters a regulated point, and whether the regulation applies to it (EUROCONTROL
-- ATFCM Users Manual, slot allocation). One taxi time serves all aerodromes. That AFIL flights are
-- not subject is the desk's own rule.
use Rattle.std.specs.Prelude.{ℕ, ◌+◌, ◌≤◌, ◌&&◌, not, nat_le, nat_lt, if◌then◌else◌, List, [], ◌∷◌, Option, Some, None, IfSome, codes}
use Rattle.std.specs.List.{AllByRecursion}
use Rattle.std.specs.Option.{option_and_then}
use Rattle.std.specs.Str.{bytes_eq}
use Rattle.fpl_text.specs.Moments.{moment_within}
use Rattle.fpl_text.specs.Words.{words_of}
use Rattle.fpl_items.specs.Items.{items_of, elapsed_to}
use Rattle.fpl_message.specs.declared.order.Spot.{Spot}
use Rattle.fpl_message.specs.declared.order.Spot.TheVariants.{Dep, Arr, Via}
use Rattle.flow_slots.specs.declared.cell.Planned.{Planned}
use Rattle.flow_plans.specs.Plans.{PlanView, is_filed, is_visual, plan_at}

-- the time of take-off
abbrev pub take_off : ℕ → PlanView → ℕ
take_off taxi plan = plan.off_block + taxi

-- the minutes from take-off to a route point, by the EET items of field 18
abbrev pub elapsed_at : List ℕ → PlanView → Option ℕ
elapsed_at place plan = elapsed_to place (items_of (words_of plan.texts.field18))

-- the time of entry: take-off at the departure, and later by the elapsed time at the destination
-- and at route points. A time has a greatest number of minutes, which no elapsed time of at most 99
-- hours and 59 minutes reaches.
unfoldable pub entry_at : ℕ → Spot → PlanView → Option ℕ
entry_at taxi (Dep place) plan = if bytes_eq plan.key.dep place then Some (take_off taxi plan) else None
entry_at taxi (Arr place) plan =
    if bytes_eq plan.key.dest place then moment_within (take_off taxi plan + plan.elapsed) else None
entry_at taxi (Via place) plan =
    option_and_then (λ elapsed. moment_within (take_off taxi plan + elapsed)) (elapsed_at place plan)

-- an entry that lies in a period, from its start to before its end
abbrev pub in_period : ℕ → ℕ → Option ℕ → Option ℕ
in_period start end None = None
in_period start end (Some moment) = if nat_le start moment && nat_lt moment end then Some moment else None

-- the entry of a flight at the point of a regulation that applies to it in this period
unfoldable pub subject : ℕ → Spot → ℕ → ℕ → PlanView → Option ℕ
subject taxi spot start end plan =
    if is_filed plan.state && not (is_visual plan.rules) && not (bytes_eq plan.key.dep (codes "AFIL")) && not plan.exempt
    then in_period start end (entry_at taxi spot plan)
    else None

-- one more flight, if it enters
abbrev pub entering : Option ℕ → ℕ → List Planned → List Planned
entering None flight others = others
entering (Some entry) flight others = record { entry = entry; flight = flight } ∷ others

-- of the plans numbered from n, the flights that have an entry, by number
abbrev pub entering_from : ℕ → (PlanView → Option ℕ) → List PlanView → List Planned
entering_from n entry [] = []
entering_from n entry (p ∷ ps) = entering (entry p) n (entering_from (n + 1) entry ps)

-- the flights to which a regulation of a point and period applies, by number
abbrev pub coming_into : ℕ → Spot → ℕ → ℕ → List PlanView → List Planned
coming_into taxi spot start end plans = entering_from 1 (subject taxi spot start end) plans

-- none of these flights has an earlier off-block time
abbrev pub NoneEarlier : ℕ → List PlanView → List Planned → Type 0
NoneEarlier first plans flights = AllByRecursion (λ w. IfSome (plan_at plans w.flight) (λ p. first ≤ p.off_block)) flights
