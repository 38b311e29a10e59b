-- The calculated take-off time: the most penalising regulation decides (ATFCM Users Manual, slot
-- allocation).
use Rattle.std.specs.Prelude.{ℕ, ◌+◌, ◌-◌, ◌==◌, nat_lt, if◌then◌else◌, List, [], ◌∷◌, Option, Some, None}
use Rattle.std.specs.Option.{option_map}
use Rattle.flow_plans.specs.Plans.{PlanView}
use Rattle.flow_plans.specs.Entries.{take_off, entry_at}
use Rattle.flow_slots.specs.Period.{slot_time}
use Rattle.flow_slots.specs.Assignment.{Placed}
use Rattle.flow_regulations.specs.declared.telling.Delay.{Delay}
use Rattle.flow_regulations.specs.declared.notice.Told.{Told}
use Rattle.flow_regulations.specs.Regulations.{Regulation}

-- the delay that a flight's frozen slot gives, if it has one
abbrev pub delay_among : ℕ → ℕ → PlanView → Regulation → List Placed → Option ℕ
delay_among taxi flight p r [] = None
delay_among taxi flight p r (a ∷ others) =
    if a.flight == flight then option_map (λ entry. slot_time r.period a.slot - entry) (entry_at taxi r.spot p)
    else delay_among taxi flight p r others

abbrev pub delay_in : ℕ → ℕ → PlanView → Regulation → Option ℕ
delay_in taxi flight p r = delay_among taxi flight p r r.fixed

-- with the regulation that causes it
abbrev pub caused_by : Regulation → ℕ → Delay
caused_by r minutes = record { minutes = minutes; regulation = r.id }

-- the greater delay; of equal ones that of the regulation opened first
abbrev pub worse : Option Delay → Option Delay → Option Delay
worse None later = later
worse (Some d) None = Some d
worse (Some d) (Some e) = if nat_lt d.minutes e.minutes then Some e else Some d

abbrev pub worst : ℕ → ℕ → PlanView → List Regulation → Option Delay
worst taxi flight p [] = None
worst taxi flight p (r ∷ rs) = worse (option_map (caused_by r) (delay_in taxi flight p r)) (worst taxi flight p rs)

-- the CTOT that a flight would be issued; none if it is frozen nowhere
unfoldable pub advice : ℕ → ℕ → PlanView → List Regulation → Option Told
advice taxi flight p regulations =
    option_map (λ d. record { ctot = take_off taxi p + d.minutes; regulation = d.regulation }) (worst taxi flight p regulations)
