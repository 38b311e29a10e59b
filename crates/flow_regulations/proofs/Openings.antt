-- A regulation is opened: the flights of the plans are inserted one after the other.
use Rattle.std.proofs.Common.{◌≡◌, ℕ, ◌+◌, List, [], length, refl, subst, arith}
use Rattle.flow_plans.specs.Plans.{PlanView}
use Rattle.flow_slots.specs.Period.{Period}
use Rattle.flow_regulations.specs.Listing.{RegulationView, regulation_of, opened, with_no_flights, IsListedIn, IsSettledIn, IsAdvanced, IsAdvancing, is_below}
use Rattle.flow_regulations.specs.Settling.{settled}
use Rattle.fpl_message.specs.declared.order.Spot.{Spot}
use Rattle.flow_regulations.proofs.Advances.{none-due-below, advanced-settled, advanced-settled_in}

-- an opened regulation, settled
pub opened-settled : (taxi max now : ℕ) (plans : List PlanView) (id : List ℕ) (spot : Spot) (period : Period) (o m : RegulationView) → o ≡ opened taxi plans (with_no_flights id spot period max) → IsAdvancing (is_below (length plans + 1)) taxi now plans o m
    → (regulation_of m ≡ settled taxi now plans (record { id = id; spot = spot; period = period; fixed = [] })) × IsListedIn taxi max plans m × IsSettledIn taxi now plans m
opened-settled taxi max now plans id spot period o m e a =
    let A : RegulationView → Type 0 = λ v. IsAdvancing (is_below (length plans + 1)) taxi now plans v m in
    let l : RegulationView = opened taxi plans (with_no_flights id spot period max) in
    let b : IsAdvanced (is_below (length plans + 1)) taxi max now plans l m = (subst A e a).advanced max refl tt in
    let none = none-due-below (length plans + 1) taxi max now plans l m b (omega arith) in
    (advanced-settled (is_below (length plans + 1)) taxi max now plans l m b none, b.listed, advanced-settled_in (is_below (length plans + 1)) taxi max now plans l m b none)
