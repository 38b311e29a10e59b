-- What a reading asks of plans, regulations and time, or why it is refused.
use Rattle.std.specs.Prelude.{ℕ, Bool, true, false, not, nat_lt, nat_le, List, [], ◌∷◌, ◌++◌, length, map, filter, Option, Result, Ok, Err}
use Rattle.std.specs.List.{list_any}
use Rattle.std.specs.Str.{bytes_eq}
use Rattle.fpl_message.specs.declared.refusal.Refusal.{Refusal}
use Rattle.fpl_message.specs.declared.refusal.Refusal.TheVariants as refusal
use Rattle.fpl_message.specs.declared.order.OpenReg.{OpenReg}
use Rattle.fpl_message.specs.Messages.{Message, fpl, dla, chg, cnl, dep, Order, open_reg, shut_reg, set_time}
use Rattle.fpl_message.specs.Reads.{ReadingView, msg, ord, bad}
use Rattle.fpl_message.specs.Refusals.{◌>>=◌}
use Rattle.flow_plans.specs.Plans.{PlanView}
use Rattle.flow_plans.specs.Times.{unless}
use Rattle.flow_plans.specs.Changes.{Changed, filed, delayed, amended, cancelled, departed}
use Rattle.flow_regulations.specs.Regulations.{Regulation}
use Rattle.flow_regulations.specs.Settling.{frozen_at_departure}
use Rattle.flow_regulations.specs.Notices.{window_of}
use Rattle.flow_regulations.specs.declared.notice.Told.{Told}
use Rattle.flow_traffic.specs.declared.verdict.Kind.{Kind}
use Rattle.flow_traffic.specs.declared.verdict.Kind.TheVariants as kind
use Rattle.flow_traffic.specs.declared.verdict.Verdict.{Verdict}
use Rattle.flow_traffic.specs.declared.verdict.Verdict.TheVariants.{Accepted, Departed}
use Rattle.flow_traffic.specs.Traffic.{Traffic, told_of}
use Rattle.flow_slots.specs.Limits.{rates_fit}
use Rattle.flow_traffic.specs.Opening.{has_period, regulation_by}
use Rattle.flow_traffic.specs.declared.opening.TheConstants.{MAX_REGULATIONS}

-- plans, time and regulations as they are asked for, before the regulations are settled, and the
-- verdict
pub record Asked : Type 0 where
  pub plans : List PlanView
  pub now : ℕ
  pub regulations : List Regulation
  pub verdict : Verdict

-- ---- messages

-- the plans after a message, and the number of the plan that it is about; a new plan is the last
unfoldable pub plans_changed_by : ℕ → ℕ → List PlanView → Message → Result Changed Refusal
plans_changed_by max now plans (fpl m) = filed max now plans m >>= (λ more. Ok (record { plans = more; number = length more }))
plans_changed_by max now plans (dla m) = delayed now plans m
plans_changed_by max now plans (chg m) = amended now plans m
plans_changed_by max now plans (cnl m) = cancelled plans m
plans_changed_by max now plans (dep m) = departed plans m

-- the verdict on a message about that plan; a departure is compared with the CTOT last issued to
-- the plan
unfoldable pub verdict_on : List (Option Told) → Message → ℕ → Verdict
verdict_on told (fpl m) number = Accepted kind.Fpl number
verdict_on told (dla m) number = Accepted kind.Dla number
verdict_on told (chg m) number = Accepted kind.Chg number
verdict_on told (cnl m) number = Accepted kind.Cnl number
verdict_on told (dep m) number = Departed (window_of (told_of told number) m.time) number

unfoldable pub is_departure : Message → Bool
is_departure (fpl m) = false
is_departure (dla m) = false
is_departure (chg m) = false
is_departure (cnl m) = false
is_departure (dep m) = true

-- a departing flight keeps the slot that it has by the plans before, frozen or not
abbrev pub departing : Bool → ℕ → ℕ → ℕ → List PlanView → List Regulation → List Regulation
departing false number taxi max before regulations = regulations
departing true number taxi max before regulations = map (frozen_at_departure taxi max before number) regulations

unfoldable pub asked_by_message : Traffic → Message → Result Asked Refusal
asked_by_message t m =
    plans_changed_by t.max_plans t.now t.plans m >>= (λ changed. Ok (record {
      plans = changed.plans;
      now = t.now;
      regulations = departing (is_departure m) changed.number t.taxi t.max_plans t.plans t.regulations;
      verdict = verdict_on t.told m changed.number;
    }))

-- ---- orders

abbrev pub is_called : List ℕ → Regulation → Bool
is_called id r = bytes_eq r.id id

-- an accepted order leaves the plans unchanged
abbrev pub ordered : Traffic → Kind → ℕ → List Regulation → Asked
ordered t kind now regulations = record { plans = t.plans; now = now; regulations = regulations; verdict = Accepted kind 0 }

-- OPEN: one more regulation, the last
unfoldable pub asked_to_open : Traffic → OpenReg → Result Asked Refusal
asked_to_open t m =
    unless (not (has_period m)) refusal.BadPeriod
    (unless (not (rates_fit m.rate m.more)) refusal.BadRate
    (unless (list_any (is_called m.id) t.regulations) refusal.RegulationHeld
    (unless (nat_le MAX_REGULATIONS (length t.regulations)) refusal.RegulationsFull
    (Ok (ordered t kind.Open t.now (t.regulations ++ regulation_by m ∷ []))))))

-- SHUT: the regulation of that name is open no more
unfoldable pub asked_to_shut : Traffic → List ℕ → Result Asked Refusal
asked_to_shut t id =
    unless (not (list_any (is_called id) t.regulations)) refusal.NoRegulation
    (Ok (ordered t kind.Shut t.now (filter (λ r. not (is_called id r)) t.regulations)))

-- TIME: the desk's time does not go back
unfoldable pub asked_at : Traffic → ℕ → Result Asked Refusal
asked_at t at = unless (nat_lt at t.now) refusal.TimeBack (Ok (ordered t kind.Time at t.regulations))

abbrev pub asked_by_order : Traffic → Order → Result Asked Refusal
asked_by_order t (open_reg m) = asked_to_open t m
asked_by_order t (shut_reg id) = asked_to_shut t id
asked_by_order t (set_time at) = asked_at t at

-- ---- any reading

abbrev pub asked : Traffic → ReadingView → Result Asked Refusal
asked t (msg m) = asked_by_message t m
asked t (ord order) = asked_by_order t order
asked t (bad refusal) = Err refusal
